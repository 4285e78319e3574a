use Rattle.std.proofs.Common.{◌≡◌, ℕ, ◌+◌, ◌*◌, ◌<◌, false}
use Rattle.iop_base.specs.Numbers.{word_at}
use Rattle.irx_tables.specs.Imports.{is_start}
use Rattle.irx_tables.proofs.import_tables.find_start.Given as goal

abbrev pub invariant-loop-index : goal.invariant-loop-index
invariant-loop-index l = record {
  no_start : (j : ℕ) → j + 1 < l.index → is_start l.ram (l.scan + 4 * j) ≡ false;
  first : (j : ℕ) → j + 1 ≡ l.index → l.first ≡ word_at l.ram (l.scan + 4 * j);
}
