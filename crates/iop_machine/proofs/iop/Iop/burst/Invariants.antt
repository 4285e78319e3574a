use Rattle.std.proofs.Common.{◌≡◌, ◌+◌, ◌<◌, ◌≤◌, ◌^◌, length}
use Rattle.iop_exec.specs.Processors.{cpu_of}
use Rattle.iop_kernel.specs.Standing.{HasNumber}
use Rattle.iop_trace.specs.Outs.{output_of}
use Rattle.iop_machine.specs.Iop.{Iop as State}
use Rattle.iop_machine.specs.Running.{RunsFor}
use Rattle.iop_machine.specs.Standing.{Stands}
use Rattle.iop_machine.specs.World.{booted}
use Rattle.iop_machine.proofs.Bursting.{Bursts, held}
use Rattle.iop_machine.proofs.iop.Iop.burst.Given as goal

abbrev pub invariant-instructions : goal.invariant-instructions
invariant-instructions g l = record {
  time : l.clock + l.left < 2 ^ 64;
  later : l.self.kernel.clock ≤ l.clock;
  some : 0 < l.left;
  few : l.left ≤ l.fn.budget;
  number : HasNumber l.self.kernel;
  same_size : l.self.blocks.size ≡ length l.self.guest.ram;
  bursts : (s : State) → Stands l.fn.self s → RunsFor s l.fn.budget
      → Bursts (booted s) l.fn.budget l.left
      (held l.self (cpu_of l.registers l.position) l.self.guest l.clock)
      (output_of g.C.Sink.told g.T.Sink.told l.initial.out)
      (output_of g.C.Sink.told g.T.Sink.told l.out);
}

abbrev pub decreases-instructions : goal.decreases-instructions
decreases-instructions g l = l.left
