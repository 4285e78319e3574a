-- The stubs of the tables of a range stand one behind the other.
use Rattle.std.proofs.Common.{◌≡◌, ℕ, zero, suc, ◌+◌, ◌-◌, ◌*◌, ◌/◌, ◌%◌, ◌^◌, ◌<◌, ◌≤◌, true, Option, Some, None, List, [], ◌∷◌, ◌++◌, length, map, refl, ap, sym, ◌∙◌, arith, subst}
use Rattle.std.specs.List.{cons_option, slice_get}
use Rattle.iop_base.specs.declared.words.TheConstants.{STUB_INDEX}
use Rattle.iop_base.specs.Numbers.{word_at}
use Rattle.irx_tables.specs.Places.{places}
use Rattle.irx_tables.specs.Imports.{ImportTable, is_stub, stub_at, table_at}
use Rattle.irx_tables.specs.Laws.{AreAll}
use Rattle.irx_tables.specs.Exports.{functions}
use Rattle.irx_tables.specs.Results.{import_of, IsImportOf}
use Rattle.irx_tables.specs.declared.words.TheConstants.{HEADER_BYTES}
use Rattle.irx_tables.proofs.Following.{extent}
use Rattle.iop_registry.specs.declared.registry.Entry.{Entry}
use Rattle.iop_stubs.specs.declared.live_stub.Stub.{Stub}
use Rattle.iop_linker.specs.Linking.{bound_stub, bound_stubs, bound_by, export_table_of, new_stubs}
use Rattle.iop_linker.proofs.Tables.{stubs_are, stands}

-- a stub that was made of the words of memory
pub record IsMadeOf (ram : List ℕ) (stub : Stub) : Type 0 where
  pub aligned : stub.at % 4 ≡ 0
  pub stands : is_stub ram stub.at ≡ true
  pub index : stub.index ≡ word_at ram (stub.at + 4) - STUB_INDEX
  pub target_aligned : stub.target % 4 ≡ 0
  pub target_near : stub.target < 2 ^ 28

module _ (ram : List ℕ) where
  -- stubs of these words stand one behind the other between two places
  abbrev pub StandBetween : ℕ → ℕ → List Stub → Type 0
  StandBetween low high [] = low ≤ high
  StandBetween low high (stub ∷ stubs) =
      (low ≤ stub.at) × IsMadeOf ram stub × StandBetween (stub.at + 8) high stubs

  pub between-le : (low high : ℕ) (stubs : List Stub) → StandBetween low high stubs → low ≤ high
  between-le low high [] h = h
  between-le low high (stub ∷ stubs) h = omega (arith, h.0, between-le (stub.at + 8) high stubs h.2)

  between-wider : (low high first last : ℕ) (stubs : List Stub) → first ≤ low → high ≤ last
      → StandBetween low high stubs → StandBetween first last stubs
  between-wider low high first last [] le le2 h = omega arith
  between-wider low high first last (stub ∷ stubs) le le2 h = (
    omega (arith, h.0),
    h.1,
    between-wider (stub.at + 8) high (stub.at + 8) last stubs (omega arith) le2 h.2,
  )

  between-append : (low mid high : ℕ) (xs ys : List Stub) → StandBetween low mid xs
      → StandBetween mid high ys → StandBetween low high (xs ++ ys)
  between-append low mid high [] ys h k = between-wider mid high low high ys h (omega arith) k
  between-append low mid high (x ∷ xs) ys h k =
      (h.0, h.1, between-append (x.at + 8) mid high xs ys h.2 k)

  -- the stub at a place that is bound or not, before those behind it
  one_between : (name : List ℕ) (major p high : ℕ) (word : Option ℕ) (words : List ℕ)
      (rest : List Stub)
      → p % 4 ≡ 0 → is_stub ram p ≡ true
      → slice_get words (word_at ram (p + 4) - STUB_INDEX) ≡ word
      → StandBetween (p + 8) high rest
      → StandBetween p high (cons_option (bound_stub name major words (stub_at ram p)) rest)
  one_between name major p high None words rest aligned test e h =
      rw e (between-wider (p + 8) high p high rest (omega arith) (omega arith) h)
  one_between name major p high (Some word) words rest aligned test e h =
      rw e (
        omega arith,
        record {
          aligned = aligned;
          stands = test;
          index = refl;
          target_aligned = omega arith;
          target_near = omega arith;
        },
        h,
      )

  row_between : (name : List ℕ) (major : ℕ) (words : List ℕ) (p n : ℕ) → p % 4 ≡ 0
      → ((i : ℕ) → i < n → is_stub ram (p + 8 * i) ≡ true)
      → StandBetween p (p + 8 * n) (bound_stubs name major words (map (stub_at ram) (places 8 p n)))
  row_between name major words p zero aligned stubs = omega arith
  row_between name major words p (suc n) aligned stubs =
      let here : p + 8 * 0 ≡ p = omega arith in
      let shift : (i : ℕ) → p + 8 * suc i ≡ p + 8 + 8 * i = λ i. omega arith in
      let end : p + 8 + 8 * n ≡ p + 8 * suc n = omega arith in
      let rest = row_between name major words (p + 8) n (omega arith)
      (λ i lt. ap (is_stub ram) (sym (shift i)) ∙ stubs (suc i) (omega arith)) in
      one_between name major p (p + 8 * suc n)
      (slice_get words (word_at ram (p + 4) - STUB_INDEX)) words
      (bound_stubs name major words (map (stub_at ram) (places 8 (p + 8) n))) aligned
      (ap (is_stub ram) (sym here) ∙ stubs 0 (omega arith)) refl
      (subst (λ (high : ℕ).
      StandBetween (p + 8) high
      (bound_stubs name major words (map (stub_at ram) (places 8 (p + 8) n)))) end rest)

-- the stubs of a table that are bound stand within it
by_table : (ram : List ℕ) (stop scan : ℕ) (table : ImportTable) (library : Option ℕ)
    → stop ≤ length ram → scan ≤ table.at → table.at % 4 ≡ 0
    → table_at ram stop table.at ≡ Some table
    → StandBetween ram scan table.end (bound_by ram table library)
by_table ram stop scan table None inside after aligned found =
    omega (arith, (extent ram stop table.at table found).end)
by_table ram stop scan table (Some library) inside after aligned found =
    let first : ℕ = table.at + HEADER_BYTES in
    let count : ℕ = length table.stubs in
    let words = functions ram library in
    let is_import : IsImportOf ram (import_of table) table =
    record { stop = stop; inside = inside; aligned = aligned; found = found; same = refl } in
    let row = row_between ram table.name (table.version / 256) words first count (omega arith)
    (λ i lt. stands ram (import_of table) table is_import i lt) in
    subst (λ (stubs : List (ℕ × ℕ)).
    StandBetween ram scan table.end (bound_stubs table.name (table.version / 256) words stubs))
    (stubs_are ram (import_of table) table is_import)
    (between-wider ram first (first + 8 * count) scan table.end
    (bound_stubs table.name (table.version / 256) words (map (stub_at ram) (places 8 first count)))
    (omega arith) (omega (arith, (extent ram stop table.at table found).end)) row)

pub by_tables : (ram : List ℕ) (entries : List Entry) (stop scan : ℕ) (tables : List ImportTable)
    (bad : Option ℕ)
    → stop ≤ length ram → scan ≤ stop → AreAll ram stop scan tables bad
    → StandBetween ram scan stop (new_stubs ram entries tables)
by_tables ram entries stop scan [] bad inside le all = le
by_tables ram entries stop scan (table ∷ tables) bad inside le all =
    between-append ram scan table.end stop (bound_by ram table (export_table_of entries table))
    (new_stubs ram entries tables)
    (by_table ram stop scan table
    (export_table_of entries table) inside all.0.after all.0.aligned all.1)
    (by_tables ram entries stop table.end tables bad inside all.3 all.4)
