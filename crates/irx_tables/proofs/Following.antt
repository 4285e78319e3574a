-- The tables of a range, one after another.
use Rattle.std.proofs.Common.{◌≡◌, ℕ, zero, suc, ◌+◌, ◌-◌, ◌*◌, ◌/◌, ◌%◌, ◌<◌, ◌≤◌, false, Option, Some, None, List, length, refl, ap, sym, subst, arith}
use Rattle.irx_tables.specs.Imports.{ImportTable, Found, Nothing, Whole, Broken, ImportTables, is_start, first_start, ended_stubs, table_with, table_at, found_at, found_by, next_table, and_then, first_tables, tables_from, tables_of}
use Rattle.irx_tables.specs.declared.words.TheConstants.{HEADER_BYTES}
use Rattle.irx_tables.specs.Laws.{HasNoStart, IsFirstStart, AreAll}
use Rattle.irx_tables.proofs.Importing.{from_map}
use Rattle.irx_tables.proofs.Rows.{IsFirst, same_test, found_place, no_place}
use Rattle.irx_tables.proofs.Stubs.{stubs_given}

-- where a whole table stands
pub record Extent (stop p : ℕ) (table : ImportTable) : Type 0 where
  pub at : p ≡ table.at
  pub end : table.end ≡ p + HEADER_BYTES + 8 * length table.stubs + 8
  pub inside : table.end ≤ stop

module _ (memory : List ℕ) (stop : ℕ) where
  pub extent : (p : ℕ) (table : ImportTable) → table_at memory stop p ≡ Some table
      → Extent stop p table
  extent p table e =
      let made = from_map (table_with memory p)
      (ended_stubs memory stop (p + HEADER_BYTES)) table e in
      let bound = (stubs_given memory stop (p + HEADER_BYTES) made.0 made.1).1 in
      let same = ap (λ (t : ImportTable). length t.stubs) made.2 in
      let ends = ap (λ (t : ImportTable). t.end) made.2 in
      record { at = ap (λ (t : ImportTable). t.at) made.2; end = omega arith; inside = omega arith }

  module _ (scan : ℕ) where
    -- how many pairs of words can be a start
    abbrev starts : ℕ
    starts = (stop - scan) / 4 - 1

    first_of_all : (p : ℕ) → first_start memory stop scan ≡ Some p
        → IsFirst (is_start memory) 4 scan starts p
    unfolding first_start
    first_of_all p e = found_place (is_start memory) 4 scan starts p e

    none_of_all : first_start memory stop scan ≡ None → (j : ℕ) → j < starts
        → is_start memory (scan + 4 * j) ≡ false
    unfolding first_start
    none_of_all e = no_place (is_start memory) 4 scan starts e

    -- what a search says that came to this
    abbrev Meets : Found → Type 0
    Meets Nothing = first_start memory stop scan ≡ None
    Meets (Whole table) =
        (p : ℕ) × (first_start memory stop scan ≡ Some p) × (table_at memory stop p ≡ Some table)
    Meets (Broken p) = (first_start memory stop scan ≡ Some p) × (table_at memory stop p ≡ None)

    meets_at : (p : ℕ) (o : Option ImportTable) → table_at memory stop p ≡ o
        → first_start memory stop scan ≡ Some p → Meets (found_at p o)
    meets_at p None e start = (start, e)
    meets_at p (Some table) e start = (p, start, e)

    meets_by : (o : Option ℕ) → first_start memory stop scan ≡ o → Meets (found_by memory stop o)
    meets_by None e = e
    meets_by (Some p) e = meets_at p (table_at memory stop p) refl e

    meets : Meets (next_table memory stop scan)
    meets = meets_by (first_start memory stop scan) refl

    -- a table ends behind the place from which it was sought
    goes_on : (table : ImportTable) → Meets (Whole table) → (scan < table.end) × (table.end ≤ stop)
    goes_on table m =
        let h = extent m.0 table m.2 in
        (omega (arith, h.end, (first_of_all m.0 m.1).place), h.inside)

    nothing_left : stop ≤ scan → (found : Found) → Meets found → found ≡ Nothing
    nothing_left over Nothing m = refl
    nothing_left over (Whole table) m = absurd (omega (arith, (first_of_all m.0 m.1).below))
    nothing_left over (Broken p) m = absurd (omega (arith, (first_of_all p m.0).below))

    -- two searches behind the next table that agree
    agree : (F G : ℕ → ImportTables) → ((at : ℕ) → scan < at → at ≤ stop → F at ≡ G at)
        → (found : Found) → Meets found → and_then F found ≡ and_then G found
    agree F G same Nothing m = refl
    agree F G same (Whole table) m =
        let on = goes_on table m in
        ap (λ (rest : ImportTables). and_then (λ at. rest) (Whole table)) (same table.end on.0 on.1)
    agree F G same (Broken p) m = refl

  -- a count of tables that is large enough says no more than another
  enough : (n m scan : ℕ) → stop - scan ≤ n → stop - scan ≤ m
      → first_tables n memory stop scan ≡ first_tables m memory stop scan
  unfolding first_tables
  enough zero zero scan le le2 = refl
  enough zero (suc m) scan le le2 =
      ap (and_then (first_tables m memory stop))
      (sym (nothing_left scan (omega arith) (next_table memory stop scan) (meets scan)))
  enough (suc n) zero scan le le2 =
      ap (and_then (first_tables n memory stop))
      (nothing_left scan (omega arith) (next_table memory stop scan) (meets scan))
  enough (suc n) (suc m) scan le le2 =
      agree scan (first_tables n memory stop) (first_tables m memory stop)
      (λ at lt le3. enough n m at (omega arith) (omega arith))
      (next_table memory stop scan) (meets scan)

  follow_by : (n scan : ℕ) → stop - scan ≤ n
      → first_tables n memory stop scan
      ≡ and_then (tables_from memory stop) (next_table memory stop scan)
  unfolding first_tables
  follow_by zero scan le =
      ap (and_then (tables_from memory stop))
      (sym (nothing_left scan (omega arith) (next_table memory stop scan) (meets scan)))
  follow_by (suc n) scan le =
      agree scan (first_tables n memory stop) (tables_from memory stop)
      (λ at lt le2. enough n (stop - at) at (omega arith) (omega arith))
      (next_table memory stop scan) (meets scan)

  module _ (scan : ℕ) (aligned : scan % 4 ≡ 0) where
    -- the test of a place that is a multiple of 4, by its number in the row
    numbered : (p : ℕ) → scan ≤ p → p % 4 ≡ 0
        → is_start memory (scan + 4 * ((p - scan) / 4)) ≡ false → is_start memory p ≡ false
    numbered p le even t =
        let e : scan + 4 * ((p - scan) / 4) ≡ p = omega arith in same_test (is_start memory) e t

    is_first : (p : ℕ) → first_start memory stop scan ≡ Some p → IsFirstStart memory stop scan p
    is_first p e =
        let h = first_of_all scan p e in
        record {
          after = omega (arith, h.place);
          inside = omega (arith, h.place, h.below);
          aligned = omega (arith, h.place);
          start = h.passes;
          first = λ q le lt even.
              numbered q le even (h.before ((q - scan) / 4) (omega (arith, h.place)));
        }

    none_left : first_start memory stop scan ≡ None → HasNoStart memory scan (stop - 7)
    none_left e =
        λ q le lt even. numbered q le even (none_of_all scan e ((q - scan) / 4) (omega arith))

    all_by : (F : ℕ → ImportTables)
        → ((at : ℕ) → scan < at → at ≤ stop → at % 4 ≡ 0
        → AreAll memory stop at (F at).whole (F at).bad) → (found : Found) → Meets scan found
        → AreAll memory stop scan (and_then F found).whole (and_then F found).bad
    all_by F rest Nothing m = none_left m
    all_by F rest (Whole table) m =
        let h = extent m.0 table m.2 in
        let first = is_first m.0 m.1 in
        let on = goes_on scan table m in (
          subst (λ (p : ℕ). IsFirstStart memory stop scan p) h.at first,
          subst (λ (p : ℕ). table_at memory stop p ≡ Some table) h.at m.2,
          omega (arith, h.at, h.end),
          h.inside,
          rest table.end on.0 on.1 (omega (arith, h.end, first.aligned)),
        )
    all_by F rest (Broken p) m = (is_first p m.0, m.1)

  all_from : (n scan : ℕ) → stop - scan ≤ n → scan % 4 ≡ 0
      → AreAll memory stop scan (first_tables n memory stop scan).whole
      (first_tables n memory stop scan).bad
  unfolding first_tables
  all_from zero scan le aligned = λ q le2 lt even. absurd (omega arith)
  all_from (suc n) scan le aligned =
      all_by scan aligned (first_tables n memory stop)
      (λ at lt le2 even. all_from n at (omega arith) even) (next_table memory stop scan)
      (meets scan)

pub follow : (memory : List ℕ) (stop scan : ℕ)
    → tables_from memory stop scan
    ≡ and_then (tables_from memory stop) (next_table memory stop scan)
follow memory stop scan = follow_by memory stop (stop - scan) scan (omega arith)

pub all_there : (memory : List ℕ) (from len : ℕ) → from % 4 ≡ 0
    → AreAll memory (from + len) from (tables_of memory from len).whole
    (tables_of memory from len).bad
all_there memory from len aligned =
    all_from memory (from + len) (from + len - from) from (omega arith) aligned
