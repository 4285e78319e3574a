use Rattle.std.proofs.Common.{◌≡◌, ℕ, ◌<◌, ◌≤◌, false}
use Rattle.irx_reloc.specs.Entries.{entries_of}
use Rattle.irx_reloc.specs.Walking.{is_low_at}
use Rattle.irx_reloc.proofs.low_halves.first_low.Given as goal

abbrev pub invariant-loop-index : goal.invariant-loop-index
invariant-loop-index l =
    (k : ℕ) → l.from ≤ k → k < l.index → is_low_at (entries_of l.section) k ≡ false
