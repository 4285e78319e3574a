-- The import tables of a range, one after another, and the import that stands for one.
use Rattle.std.proofs.Common.{◌≡◌, ℕ, ◌%◌, ◌≤◌, Option, Some, None, List, length, option_map, refl, ap, sym, ◌∙◌, subst}
use Rattle.irx_tables.specs.Imports.{ImportTable, Found, Nothing, Whole, Broken, ImportTables, first_start, table_at, found_at, found_by, next_table, and_then, tables_from}
use Rattle.irx_tables.specs.Results.{import_of, next_of, IsImportOf}
use Rattle.irx_tables.specs.declared.import_tables.Import.{Import}
use Rattle.irx_tables.specs.declared.import_tables.Next.TheVariants.{End, Bad}
use Rattle.irx_tables.proofs.Following.{follow, extent}
use Rattle.irx_tables.proofs.Importing.{from_map}

module _ (memory : List ℕ) (stop scan : ℕ) where
  -- what comes next decides which table is bad
  bad_by : (found : Found) → next_table memory stop scan ≡ found
      → (tables_from memory stop scan).bad ≡ (and_then (tables_from memory stop) found).bad
  bad_by found e =
      ap (λ (t : ImportTables). t.bad)
      (follow memory stop scan ∙ ap (and_then (tables_from memory stop)) e)

  pub bad_behind : (table : ImportTable) → next_table memory stop scan ≡ Whole table
      → (tables_from memory stop scan).bad ≡ (tables_from memory stop table.end).bad
  bad_behind table e = bad_by (Whole table) e

  pub none_bad : (found : Found) → next_table memory stop scan ≡ found → End ≡ next_of found
      → (tables_from memory stop scan).bad ≡ None
  none_bad Nothing e f = bad_by Nothing e
  none_bad (Whole table) e f = absurd (cc)
  none_bad (Broken p) e f = absurd (cc)

  pub bad_here : (p : ℕ) (found : Found) → next_table memory stop scan ≡ found
      → Bad p ≡ next_of found → (tables_from memory stop scan).bad ≡ Some p
  bad_here p Nothing e f = absurd (cc)
  bad_here p (Whole table) e f = absurd (cc)
  bad_here p (Broken q) e f = let same : q ≡ p = cc in bad_by (Broken q) e ∙ ap Some same

module _ (memory : List ℕ) (stop : ℕ) where
  found_there : (p : ℕ) (o : Option ImportTable) → table_at memory stop p ≡ o
      → (table : ImportTable) → found_at p o ≡ Whole table
      → table_at memory stop table.at ≡ Some table
  found_there p None e table f = absurd (cc)
  found_there p (Some found) e table f =
      let same : found ≡ table = cc in
      let there : table_at memory stop p ≡ Some table = e ∙ ap Some same in
      subst (λ (q : ℕ). table_at memory stop q ≡ Some table) (extent memory stop p table there).at
      there

  started : (o : Option ℕ) (table : ImportTable) → found_by memory stop o ≡ Whole table
      → table_at memory stop table.at ≡ Some table
  started None table f = absurd (cc)
  started (Some p) table f = found_there p (table_at memory stop p) refl table f

  -- the table that comes next stands where it says
  whole_there : (scan : ℕ) (table : ImportTable) → next_table memory stop scan ≡ Whole table
      → table_at memory stop table.at ≡ Some table
  whole_there scan table e = started (first_start memory stop scan) table e

  -- so does the import that stands for it
  pub import_there : (scan : ℕ) (import : Import) (table : ImportTable)
      → next_table memory stop scan ≡ Whole table → import ≡ import_of table
      → option_map import_of (table_at memory stop import.at) ≡ Some import
  import_there scan import table e same =
      let at : table.at ≡ import.at = sym (ap (λ (x : Import). x.at) same) in
      let there : table_at memory stop import.at ≡ Some table =
      subst (λ (q : ℕ). table_at memory stop q ≡ Some table) at (whole_there scan table e) in
      ap (option_map import_of) there ∙ ap Some (sym same)

  -- an import that stands where it says is that of a table
  pub import_stands : (import : Import) → stop ≤ length memory → import.at % 4 ≡ 0
      → option_map import_of (table_at memory stop import.at) ≡ Some import
      → (table : ImportTable) × IsImportOf memory import table
  import_stands import inside aligned e =
      let got = from_map import_of (table_at memory stop import.at) import e in
      let at : import.at ≡ got.0.at = sym (ap (λ (x : Import). x.at) got.2) in (
        got.0,
        record {
          stop = stop;
          inside = inside;
          aligned = subst (λ (q : ℕ). q % 4 ≡ 0) at aligned;
          found = subst (λ (q : ℕ). table_at memory stop q ≡ Some got.0) at got.1;
          same = sym got.2;
        },
      )
