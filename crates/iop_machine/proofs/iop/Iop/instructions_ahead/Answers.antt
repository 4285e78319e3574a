use Rattle.std.proofs.Common.{◌∙◌, ap, sym}
use Rattle.iop_kernel.specs.Standing as kernel
use Rattle.iop_kernel.specs.Deliveries.{next_look}
use Rattle.iop_machine.specs.Events.{next_tick}
use Rattle.iop_machine.specs.Iop.{Iop}
use Rattle.iop_machine.proofs.Coming.{ahead_as, runs_ahead}
use Rattle.iop_machine.proofs.iop.Iop.instructions_ahead.Goals as goal

pub returns-clause-ahead : goal.returns-clause-ahead
returns-clause-ahead c = λ s h runs.
    let now = c.now-now.ensures.moment s.kernel h.kernel in
    let tick = c.next_tick.ensures.tick ∙ ap (λ (x : Iop). next_tick x.events) (sym h.rest) in
    let look = c.next_look.ensures s.kernel h.kernel
    ∙ ap (λ (x : Iop). next_look (kernel.core s.kernel x.cpu)) (sym h.rest) in
    runs_ahead s c.args.budget c.ticks_ahead-most.result c.ticks_ahead.result runs
    (ahead_as now tick c.ticks_ahead-most.ensures) (ahead_as now look c.ticks_ahead.ensures)
