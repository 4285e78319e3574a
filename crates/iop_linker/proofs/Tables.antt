-- The tables of a range, one after another, and the import that stands for a table.
use Rattle.std.proofs.Common.{◌≡◌, ℕ, suc, ◌+◌, ◌*◌, ◌<◌, true, Some, None, List, [], ◌∷◌, length, map, refl, ap, sym, ◌∙◌, arith}
use Rattle.std.specs.List.{slice_get}
use Rattle.irx_tables.specs.Places.{places}
use Rattle.irx_tables.specs.Imports.{ImportTable, Found, Nothing, Whole, Broken, ImportTables, is_stub, stub_at, stubs_from, ended_stubs, table_with, next_table, and_then, tables_from}
use Rattle.irx_tables.specs.declared.words.TheConstants.{HEADER_BYTES}
use Rattle.irx_tables.specs.Results.{import_of, next_of, IsImportOf}
use Rattle.irx_tables.specs.declared.import_tables.Import.{Import}
use Rattle.irx_tables.specs.declared.import_tables.Next.{Next}
use Rattle.irx_tables.specs.declared.import_tables.Next.TheVariants.{Table, End, Bad}
use Rattle.irx_tables.proofs.Following.{follow}
use Rattle.irx_tables.proofs.Importing.{from_map, import_stub}
use Rattle.irx_tables.proofs.Stubs.{stubs_given, passes_at}
use Rattle.iop_linker.specs.Underway.{import_stubs}

module _ (memory : List ℕ) (stop scan : ℕ) where
  tables_are : (found : Found) → next_table memory stop scan ≡ found
      → tables_from memory stop scan ≡ and_then (tables_from memory stop) found
  tables_are found e = follow memory stop scan ∙ ap (and_then (tables_from memory stop)) e

  pub whole_next : (table : ImportTable) → next_table memory stop scan ≡ Whole table
      → (tables_from memory stop scan).whole ≡ table ∷ (tables_from memory stop table.end).whole
  whole_next table e = ap (λ (t : ImportTables). t.whole) (tables_are (Whole table) e)

  pub bad_next : (table : ImportTable) → next_table memory stop scan ≡ Whole table
      → (tables_from memory stop scan).bad ≡ (tables_from memory stop table.end).bad
  bad_next table e = ap (λ (t : ImportTables). t.bad) (tables_are (Whole table) e)

  -- where no table comes
  pub none_next : (found : Found) → next_table memory stop scan ≡ found → End ≡ next_of found
      → ((tables_from memory stop scan).whole ≡ []) × ((tables_from memory stop scan).bad ≡ None)
  none_next Nothing e f = (
    ap (λ (t : ImportTables). t.whole) (tables_are Nothing e),
    ap (λ (t : ImportTables). t.bad) (tables_are Nothing e),
  )
  none_next (Whole table) e f = absurd (cc)
  none_next (Broken p) e f = absurd (cc)

  pub nothing_more : (result : Next) (found : Found) → next_table memory stop scan ≡ found
      → result ≡ next_of found → ((import : Import) → result ≡ Table import → ⊥)
      → (tables_from memory stop scan).whole ≡ []
  nothing_more result Nothing e f none = ap (λ (t : ImportTables). t.whole) (tables_are Nothing e)
  nothing_more result (Whole table) e f none = absurd (none (import_of table) f)
  nothing_more result (Broken p) e f none =
      ap (λ (t : ImportTables). t.whole) (tables_are (Broken p) e)

  pub broken_next : (p : ℕ) (found : Found) → next_table memory stop scan ≡ found
      → Bad p ≡ next_of found
      → ((tables_from memory stop scan).whole ≡ []) × ((tables_from memory stop scan).bad ≡ Some p)
  broken_next p Nothing e f = absurd (cc)
  broken_next p (Whole table) e f = absurd (cc)
  broken_next p (Broken q) e f =
      let same : q ≡ p = cc in (
        ap (λ (t : ImportTables). t.whole) (tables_are (Broken q) e),
        ap (λ (t : ImportTables). t.bad) (tables_are (Broken q) e) ∙ ap Some same,
      )

-- a list that has at each place what is read there
same_row : (stub : ℕ → ℕ × ℕ) (stubs : List (ℕ × ℕ)) (p : ℕ)
    → ((i : ℕ) → i < length stubs → slice_get stubs i ≡ Some (stub (p + 8 * i)))
    → map stub (places 8 p (length stubs)) ≡ stubs
same_row stub [] p h = refl
same_row stub (x ∷ stubs) p h =
    let here : p + 8 * 0 ≡ p = omega arith in
    let shift : (i : ℕ) → p + 8 * suc i ≡ p + 8 + 8 * i = λ i. omega arith in
    let first : Some x ≡ Some (stub p) = h 0 (omega arith) ∙ ap (λ q. Some (stub q)) here in
    let head : x ≡ stub p = cc in
    ap (λ y. y ∷ map stub (places 8 (p + 8) (length stubs))) (sym head)
    ∙ ap (λ rest. x ∷ rest)
    (same_row stub stubs (p + 8)
    (λ i lt. h (suc i) (omega arith) ∙ ap (λ q. Some (stub q)) (shift i)))

module _ (memory : List ℕ) (import : Import) (table : ImportTable)
    (h : IsImportOf memory import table) where
  pub count_is : import.stubs ≡ length table.stubs
  count_is = ap (λ (x : Import). x.stubs) h.same

  pub stub_is : (i : ℕ) → i < import.stubs
      → slice_get table.stubs i ≡ Some (stub_at memory (import.at + HEADER_BYTES + 8 * i))
  stub_is i lt = (import_stub memory import table i h lt).stands.gives

  -- the stubs of a table are those that are read where the import says
  pub stubs_are : import_stubs memory import ≡ table.stubs
  stubs_are =
      ap (λ n. map (stub_at memory) (places 8 (import.at + HEADER_BYTES) n)) count_is
      ∙ same_row (stub_at memory) table.stubs (import.at + HEADER_BYTES)
      (λ i lt. stub_is i (omega (arith, count_is)))

  pub stands : (i : ℕ) → i < import.stubs → is_stub memory (import.at + HEADER_BYTES + 8 * i) ≡ true
  stands i lt =
      let made = from_map (table_with memory table.at)
      (ended_stubs memory h.stop (table.at + HEADER_BYTES)) table h.found in
      let same : made.0 ≡ table.stubs = ap (λ (t : ImportTable). t.stubs) made.2 in
      let place : table.at ≡ import.at = sym (ap (λ (x : Import). x.at) h.same) in
      let given = (stubs_given memory h.stop (table.at + HEADER_BYTES) made.0 made.1).0 in
      let below : i < length (stubs_from memory h.stop (table.at + HEADER_BYTES)) =
      omega (arith, ap length given, ap length same, count_is) in
      ap (λ q. is_stub memory (q + HEADER_BYTES + 8 * i)) (sym place)
      ∙ passes_at memory h.stop (table.at + HEADER_BYTES) i below
