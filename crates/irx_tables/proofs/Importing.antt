-- The table that stands at a start, and an import that stands for it.
use Rattle.std.proofs.Common.{◌≡◌, ℕ, ◌+◌, ◌*◌, ◌%◌, ◌<◌, ◌≤◌, Option, Some, None, List, length, refl, ap, sym, subst, ◌∙◌, arith, option_map}
use Rattle.irx_tables.specs.Imports.{ImportTable, Whole, first_start, ended_stubs, table_with, table_at, found_by, found_at, next_table}
use Rattle.irx_tables.specs.Results.{import_of, IsImportOf}
use Rattle.irx_tables.specs.declared.import_tables.Import.{Import}
use Rattle.irx_tables.specs.declared.words.TheConstants.{HEADER_BYTES}
use Rattle.irx_tables.proofs.Stubs.{StandsAt, stubs_given, stub_stands}

-- where a value comes from
pub from_map : {A B : Type 0} (f : A → B) (o : Option A) (y : B)
    → option_map f o ≡ Some y → (x : A) × (o ≡ Some x) × (f x ≡ y)
from_map f None y e = absurd (cc)
from_map f (Some x) y e = (x, refl, cc)

module _ (memory : List ℕ) (stop : ℕ) where
  -- the import that was read at the first start of a range in RAM
  pub import_found : (scan at : ℕ) (import : Import) → stop ≤ length memory → at % 4 ≡ 0
      → Some at ≡ first_start memory stop scan
      → Some import ≡ option_map import_of (table_at memory stop at)
      → (table : ImportTable) × (next_table memory stop scan ≡ Whole table)
      × IsImportOf memory import table
  import_found scan at import inside aligned start given =
      let got = from_map import_of (table_at memory stop at) import (sym given) in
      let made = from_map (table_with memory at)
      (ended_stubs memory stop (at + HEADER_BYTES)) got.0 got.1 in
      let place : at ≡ got.0.at = ap (λ (t : ImportTable). t.at) made.2 in (
        got.0,
        ap (found_by memory stop) (sym start) ∙ ap (found_at at) got.1,
        record {
          stop = stop;
          inside = inside;
          aligned = omega arith;
          found = subst (λ (p : ℕ). table_at memory stop p ≡ Some got.0) place got.1;
          same = sym got.2;
        },
      )

-- what is known of a stub of an import
pub record IsStubOf (memory : List ℕ) (import : Import) (table : ImportTable) (i : ℕ) : Type 0 where
  pub stands : StandsAt memory table.stubs i (import.at + HEADER_BYTES + 8 * i)
  pub inside : import.at + HEADER_BYTES + 8 * import.stubs + 8 ≤ length memory
  pub extent : import.end ≡ import.at + HEADER_BYTES + 8 * import.stubs + 8
  pub aligned : import.at % 4 ≡ 0

pub import_stub : (memory : List ℕ) (import : Import) (table : ImportTable) (i : ℕ)
    → IsImportOf memory import table → i < import.stubs → IsStubOf memory import table i
import_stub memory import table i h lt =
    let first : ℕ = table.at + HEADER_BYTES in
    let made = from_map (table_with memory table.at)
    (ended_stubs memory h.stop first) table h.found in
    let same : made.0 ≡ table.stubs = ap (λ (t : ImportTable). t.stubs) made.2 in
    let ends = ap (λ (t : ImportTable). t.end) made.2 in
    let count : import.stubs ≡ length table.stubs = ap (λ (x : Import). x.stubs) h.same in
    let place : table.at ≡ import.at = sym (ap (λ (x : Import). x.at) h.same) in
    let end : import.end ≡ table.end = ap (λ (x : Import). x.end) h.same in
    let below : i < length made.0 = omega (arith, ap length same) in
    let bound = (stubs_given memory h.stop first made.0 made.1).1 in
    let there = stub_stands memory h.stop first i made.0 made.1 below in record {
      stands = subst (λ (p : ℕ). StandsAt memory table.stubs i (p + HEADER_BYTES + 8 * i)) place
          (subst (λ (xs : List (ℕ × ℕ)). StandsAt memory xs i (first + 8 * i)) same there);
      inside = omega (arith, ap length same, h.inside);
      extent = omega (arith, ap length same);
      aligned = omega (arith, h.aligned);
    }
