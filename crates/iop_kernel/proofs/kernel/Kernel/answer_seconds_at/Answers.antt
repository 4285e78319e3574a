use Rattle.std.proofs.Common.{◌%◌, Some, [], ◌∷◌, subst}
use Rattle.iop_stubs.specs.Stubs.{Memory}
use Rattle.iop_kernel.specs.Boards.{writes}
use Rattle.iop_kernel.specs.Standing.{TakesBoard, core}
use Rattle.iop_kernel.specs.declared.system_clock.TheConstants.{MICROS_OF_SECOND}
use Rattle.iop_kernel.proofs.Bodies.Standing.{takes_after}
use Rattle.iop_kernel.proofs.kernel.Kernel.answer_seconds_at.Goals as goal

pub returns : goal.returns
returns g c = λ k h.
    let stored = c.store_words in
    let did = c.answer_word_at in
    takes_after (rw h.clock stored.ensures.lines)
    (subst (λ (m : Memory). TakesBoard g.R.Ready.stands
    (writes m (Some c.args.rest) ((c.args.micros % MICROS_OF_SECOND) ∷ [])
    (core k c.args.cpu.now)) did.result c.args.self.now did.new.cpu did.new.guest
    (g.L.Lines.output stored.new.lines) (g.L.Lines.output did.new.lines)) stored.ensures.memory
    (did.ensures k h))
