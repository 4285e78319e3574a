use Rattle.std.proofs.Common.{◌≡◌, length, take}
use Rattle.iop_saved_threads.proofs.cpu.registers_of.Given as goal

abbrev pub invariant-loop-index : goal.invariant-loop-index
invariant-loop-index l =
    (length l.registers ≡ 32) × (take l.index l.registers ≡ take l.index l.fn.numbers)
