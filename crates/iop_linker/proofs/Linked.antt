-- The tables of a range, linked one after another.
use Rattle.std.proofs.Common.{◌≡◌, ℕ, ◌+◌, ◌/◌, ◌%◌, ◌≤◌, IfSome, Option, Some, None, List, ◌++◌, length, refl, ap, sym, ◌∙◌, arith}
use Rattle.std.proofs.lemmas.List.{length-append}
use Rattle.std.proofs.lemmas.List.Sums.{fold-append}
use Rattle.irx_tables.specs.Imports.{ImportTable, Whole, next_table, tables_from, tables_of}
use Rattle.irx_tables.specs.Exports.{functions}
use Rattle.irx_tables.specs.Results.{IsImportOf, IsNextImport, next_of}
use Rattle.irx_tables.specs.declared.import_tables.Import.{Import}
use Rattle.irx_tables.specs.declared.import_tables.Next.{Next}
use Rattle.irx_tables.specs.declared.import_tables.Next.TheVariants.{Table}
use Rattle.iop_registry.specs.Entries.{table_of, IsTable}
use Rattle.iop_registry.specs.declared.registry.Entry.{Entry}
use Rattle.iop_stubs.specs.Stubs.{Memory}
use Rattle.iop_stubs.specs.Binding.{after_bind}
use Rattle.iop_stubs.specs.declared.live_stub.Stub.{Stub}
use Rattle.iop_stubs.specs.declared.live_stub.TheConstants.Stub.{MOST_LIVE}
use Rattle.iop_linker.specs.Linking.{bound_by, export_table_of, new_stubs, linked_memory, HasNoLiveStub}
use Rattle.iop_linker.specs.Underway.{bound_import, former_functions, table_stubs, HasRoom, IsRestFree, StaysReadable, Binds}
use Rattle.iop_linker.proofs.Ahead.{next_ahead}
use Rattle.iop_linker.proofs.Former.{former_functions_at_first}
use Rattle.iop_linker.proofs.Bound.{readable_then}
use Rattle.iop_linker.proofs.Living.{all_live}
use Rattle.iop_linker.proofs.Tables.{whole_next, nothing_more, stubs_are}

-- the stubs of a table are those of the import that stands for it
pub bound_import_is : (words : ℕ → List ℕ) (ram now : List ℕ) (import : Import)
    (table : ImportTable) (library : Option ℕ) → IsImportOf now import table
    → IfSome library (λ place. words place ≡ functions ram place)
    → bound_import words now import library ≡ bound_by ram table library
bound_import_is words ram now import table None h same = refl
bound_import_is words ram now import table (Some library) h same =
    let name = ap (λ (x : Import). x.name) h.same in
    let version = ap (λ (x : Import). x.version) h.same in
    let stubs = stubs_are now import table h in
    rw (name, version, same, stubs) refl

pub library_is : (entries : List Entry) (memory : List ℕ) (import : Import) (table : ImportTable)
    → IsImportOf memory import table
    → table_of entries import.name (import.version / 256) ≡ export_table_of entries table
library_is entries memory import table h =
    let name = ap (λ (x : Import). x.name) h.same in
    let version = ap (λ (x : Import). x.version) h.same in
    rw (name, version) refl

-- what holds while the tables of a range are linked, up to a place
pub record IsLinking (from len : ℕ) (entries : List Entry) (old now : Memory)
    (scan : ℕ) : Type 0 where
  pub aligned : scan % 4 ≡ 0
  pub after : from ≤ scan
  pub before : scan ≤ from + len
  pub left : linked_memory now
      (new_stubs old.ram entries (tables_from old.ram (from + len) scan).whole)
      ≡ linked_memory old (new_stubs old.ram entries (tables_of old.ram from len).whole)
  pub readable : StaysReadable from len scan old now
  pub free : IsRestFree from len scan now
  pub room : length now.live
      + length (new_stubs old.ram entries (tables_from old.ram (from + len) scan).whole) ≤ MOST_LIVE

module _ (from len : ℕ) (entries : List Entry) (old : Memory)
    (apart : HasNoLiveStub old from len) where
  module _ (now : Memory) (scan : ℕ) (h : IsLinking from len entries old now scan) (import : Import)
      (found : IsNextImport now.ram (from + len) scan import) where
    abbrev table : ImportTable
    table = found.table

    abbrev rest : List Stub
    rest = new_stubs old.ram entries (tables_from old.ram (from + len) table.end).whole

    -- the next table is the one that stood there before
    was_next : next_table old.ram (from + len) scan ≡ Whole table
    was_next =
        sym (next_ahead scan old.ram now.ram h.readable.ahead (from + len) scan (omega arith))
        ∙ found.next

    stubs_now : new_stubs old.ram entries (tables_from old.ram (from + len) scan).whole
        ≡ bound_by old.ram table (export_table_of entries table) ++ rest
    stubs_now = ap (new_stubs old.ram entries) (whole_next old.ram (from + len) scan table was_next)

    was_words : (place : ℕ) → place % 4 ≡ 0
        → former_functions from len now place ≡ functions old.ram place
    was_words place even =
        h.readable.former place even ∙ former_functions_at_first from len old place even apart

    was_words_if : (library : Option ℕ) → IfSome library IsTable
        → IfSome library (λ place. former_functions from len now place ≡ functions old.ram place)
    was_words_if None table_is = tt
    was_words_if (Some place) table_is = was_words place table_is.1

    module _ (library : Option ℕ)
        (is : library ≡ table_of entries import.name (import.version / 256))
        (table_is : IfSome library IsTable) where
      one_is : table_stubs from len now import library
          ≡ bound_by old.ram table (export_table_of entries table)
      one_is =
          bound_import_is (former_functions from len now) old.ram now.ram import table library
          found.stands (was_words_if library table_is)
          ∙ ap (bound_by old.ram table) (is ∙ library_is entries now.ram import table found.stands)

      pub room_for_table : HasRoom now (table_stubs from len now import library)
      room_for_table =
          omega (
            arith,
            h.room,
            ap length stubs_now,
            ap length one_is,
            length-append (bound_by old.ram table (export_table_of entries table)) rest,
          )

      pub linking_next : (new : Memory)
          → Binds from len import.end now new (table_stubs from len now import library)
          → IsLinking from len entries old new import.end
      linking_next new binds =
          let stubs = bound_by old.ram table (export_table_of entries table) in
          let end : import.end ≡ table.end = ap (λ (x : Import). x.end) found.stands.same in
          let e : new ≡ linked_memory now stubs = binds.memory ∙ ap (linked_memory now) one_is in
          let count = (all_live now stubs).count in
          let rest_is : new_stubs old.ram entries
          (tables_from old.ram (from + len) import.end).whole ≡ rest =
          ap (λ q. new_stubs old.ram entries (tables_from old.ram (from + len) q).whole) end in
          let behind : scan ≤ import.end = omega (arith, found.after, found.place) in
          record {
            aligned = omega (arith, found.place);
            after = omega (arith, h.after, behind);
            before = found.place.inside;
            left = ap (linked_memory new) rest_is ∙ ap (λ m. linked_memory m rest) e
                ∙ sym (fold-append after_bind now stubs rest)
                ∙ sym (ap (linked_memory now) stubs_now) ∙ h.left;
            readable = readable_then from len scan import.end old now new behind h.readable
                binds.readable;
            free = binds.free;
            room = omega (
              arith,
              h.room,
              ap length stubs_now,
              length-append stubs rest,
              ap length rest_is,
              ap (λ (m : Memory). length m.live) e,
              count,
            );
          }

  -- where no table comes all stubs are bound
  pub linking_last : (now : Memory) (scan : ℕ) → IsLinking from len entries old now scan
      → (result : Next) → result ≡ next_of (next_table now.ram (from + len) scan)
      → ((import : Import) → result ≡ Table import → ⊥)
      → now ≡ linked_memory old (new_stubs old.ram entries (tables_of old.ram from len).whole)
  linking_last now scan h result is none =
      let same = next_ahead scan old.ram now.ram h.readable.ahead (from + len) scan (omega arith) in
      let over = nothing_more old.ram (from + len) scan result
      (next_table old.ram (from + len) scan) refl (is ∙ ap next_of same) none in
      sym (ap (λ tables. linked_memory now (new_stubs old.ram entries tables)) over) ∙ h.left
