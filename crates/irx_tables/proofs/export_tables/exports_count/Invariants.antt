use Rattle.std.proofs.Common.{◌≡◌, ℕ, ◌+◌, ◌*◌, ◌<◌, false, nat_eq}
use Rattle.iop_base.specs.Numbers.{word_at}
use Rattle.irx_tables.proofs.export_tables.exports_count.Given as goal

abbrev pub invariant-loop-index : goal.invariant-loop-index
invariant-loop-index l = (j : ℕ) → j < l.index → nat_eq (word_at l.ram (l.first + 4 * j)) 0 ≡ false
