use Rattle.std.proofs.Common.{◌≡◌, ℕ, ◌+◌, ◌*◌, false}
use Rattle.iop_trace.specs.Outs.{output_of}
use Rattle.iop_machine.specs.Advancing.{Reached, calls_by}
use Rattle.iop_machine.specs.Laws.{IsMachine}
use Rattle.iop_machine.specs.Standing.{StandsForWorld}
use Rattle.iop_machine.specs.Running.{HasTime}
use Rattle.iop_machine.specs.Stepping.{most_between}
use Rattle.iop_machine.specs.World.{World}
use Rattle.iop_machine.proofs.machine.Machine.run.Given as goal

abbrev pub invariant-steps : goal.invariant-steps
invariant-steps g l = record {
  time : HasTime l.self.iop.kernel.clock l.left;
  at_budget : l.self.at_budget ≡ false;
  reached : (w : World) → StandsForWorld l.fn.self w → IsMachine w
      → (k : ℕ) × Reached StandsForWorld w l.fn.budget k l.left l.self
      (output_of g.C.Sink.told g.T.Sink.told l.initial.out)
      (output_of g.C.Sink.told g.T.Sink.told l.out);
}

abbrev pub decreases-steps : goal.decreases-steps
decreases-steps g l =
    most_between * l.left + calls_by l.self.iop.over l.self.is_new l.self.iop.kernel
