use Rattle.std.proofs.Common.{ap, sym, ◌∙◌}
use Rattle.iop_thread.specs.ThreadTable.{leaves, in_state}
use Rattle.iop_thread.specs.declared.state.State.{State}
use Rattle.iop_thread.specs.declared.state.State.TheVariants.{Waiting}
use Rattle.iop_thread.specs.Operations.{blocks_it, blocks}
use Rattle.iop_thread.proofs.Placed.{keeps_places}
use Rattle.iop_thread.proofs.FindingThreads.{running_thread_runs}
use Rattle.iop_thread.proofs.Settling.{in_place, stands_as}
use Rattle.iop_thread.proofs.threads.Threads.block.Goals as goal

pub returns-in-Some : goal.returns-in-Some
returns-in-Some g c = λ s h.
    let found = c.in-Some.found in let t = found.thread in
    let (is, there) = c.in-Some.ensures s h in
    let at = in_place g.R.Ready.stands c.args.self.now s h found there in
    let runs = running_thread_runs s h.placed t is in
    let state = Waiting c.args.wait c.args.registers.now in
    stands_as g.R.Ready.stands h.place c.settle.new.self _ (c.settle.ensures h.place s h.holds at)
    (blocks s c.args.wait c.args.registers.now)
    (ap (blocks_it s c.args.wait c.args.registers.now) is
    ∙ ap (λ (left : State). in_state (leaves s t left) t state) (sym runs.is))
    ((keeps_places s h.placed).blocks c.args.wait c.args.registers.now tt tt)
