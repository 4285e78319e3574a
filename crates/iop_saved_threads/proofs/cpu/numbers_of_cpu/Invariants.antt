use Rattle.std.proofs.Common.{◌≡◌, ℕ, ◌<◌, ◌^◌, length, take, get_or}
use Rattle.iop_saved_threads.proofs.cpu.numbers_of_cpu.Given as goal

abbrev pub invariant-loop-index : goal.invariant-loop-index
invariant-loop-index l =
    (length l.numbers ≡ 39) × (take l.index l.numbers ≡ take l.index l.fn.cpu.regs)
    × ((k : ℕ) → k < l.index → get_or l.fn.cpu.regs k 0 < 2 ^ 32)
