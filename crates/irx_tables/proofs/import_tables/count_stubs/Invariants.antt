use Rattle.std.proofs.Common.{◌≡◌, ℕ, ◌+◌, ◌*◌, ◌<◌, true}
use Rattle.irx_tables.specs.Imports.{is_stub}
use Rattle.irx_tables.proofs.import_tables.count_stubs.Given as goal

abbrev pub invariant-loop-count : goal.invariant-loop-count
invariant-loop-count l = (j : ℕ) → j < l.count → is_stub l.ram (l.first + 8 * j) ≡ true
