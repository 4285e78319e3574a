-- How many stubs are bound, and what linking comes to.
use Rattle.std.proofs.Common.{◌≡◌, ℕ, ◌+◌, ◌*◌, ◌/◌, ◌<◌, ◌≤◌, Bool, true, false, cond, not, is_some, nat_lt, nat_le, IfSome, Option, Some, None, Result, Ok, Err, List, ◌∷◌, length, refl, ap, sym, ◌∙◌, arith}
use Rattle.std.proofs.lemmas.List.{length-append}
use Rattle.std.proofs.lemmas.Bool.{ltb-true, ltb-false, le-leb, lt-leb}
use Rattle.std.proofs.lemmas.Option.{slice_get-get_or, slice_get_past}
use Rattle.irx_tables.specs.Imports.{ImportTable, tables_from, tables_of, stub_at}
use Rattle.irx_tables.specs.Exports.{functions}
use Rattle.irx_tables.specs.Results.{IsNextImport}
use Rattle.irx_tables.specs.declared.words.TheConstants.{HEADER_BYTES}
use Rattle.irx_tables.specs.declared.import_tables.Import.{Import}
use Rattle.iop_registry.specs.Entries.{table_of}
use Rattle.iop_registry.specs.declared.registry.Entry.{Entry}
use Rattle.iop_stubs.specs.Stubs.{Memory}
use Rattle.iop_stubs.specs.declared.live_stub.Stub.{Stub}
use Rattle.iop_stubs.specs.declared.live_stub.TheConstants.Stub.{MOST_LIVE}
use Rattle.iop_linker.specs.Linking.{bound_stubs, bound_by, export_table_of, new_stubs, first_without_library, links, links_by, answer_of, after_linking}
use Rattle.iop_linker.specs.Underway.{bound_import, text_count, import_count}
use Rattle.iop_linker.specs.declared.link_fault.LinkFault.{LinkFault}
use Rattle.iop_linker.specs.declared.link_fault.LinkFault.TheVariants.{Table, NoLibrary, Room}
use Rattle.iop_linker.proofs.Bound.{later_stubs, later_next}
use Rattle.iop_linker.proofs.Linked.{bound_import_is, library_is}
use Rattle.iop_linker.proofs.Tables.{whole_next}

module _ (name : List ℕ) (major : ℕ) (words : List ℕ) where
  count_by : (place index : ℕ) (rest : List (ℕ × ℕ)) (b : Bool) → nat_lt index (length words) ≡ b
      → length (bound_stubs name major words ((place, index) ∷ rest))
      ≡ cond b 1 0 + length (bound_stubs name major words rest)
  count_by place index rest true e =
      let found = slice_get-get_or words index 0 (ltb-true _ _ e) in rw found (omega arith)
  count_by place index rest false e =
      let none = slice_get_past words index (ltb-false _ _ e) in rw none (omega arith)

  -- one stub more is bound where its index is below the number of functions
  pub count_next : (ram : List ℕ) (import : Import) (i index : ℕ) → i < import.stubs
      → index ≡ (stub_at ram (import.at + HEADER_BYTES + 8 * i)).1
      → length (bound_stubs name major words (later_stubs ram import i))
      ≡ cond (nat_lt index (length words)) 1 0
      + length (bound_stubs name major words (later_stubs ram import (i + 1)))
  count_next ram import i index lt is =
      let stub = stub_at ram (import.at + HEADER_BYTES + 8 * i) in
      ap (λ stubs. length (bound_stubs name major words stubs)) (later_next ram import i lt)
      ∙ count_by stub.0 stub.1 (later_stubs ram import (i + 1)) (nat_lt stub.1 (length words)) refl
      ∙ ap (λ n. cond (nat_lt n (length words)) 1 0
      + length (bound_stubs name major words (later_stubs ram import (i + 1)))) (sym is)

same_words : (words : ℕ → List ℕ) (library : Option ℕ)
    → IfSome library (λ place. words place ≡ words place)
same_words words None = tt
same_words words (Some place) = refl

-- a count that came to an end, and one that did not
import_count_ok : (library : Option ℕ) (import : Import) (k n : ℕ)
    → Ok k ≡ import_count library import n → (is_some library ≡ true) × (k ≡ n)
import_count_ok None import k n e = absurd (cc)
import_count_ok (Some place) import k n e = (refl, cc)

import_count_err : (library : Option ℕ) (import : Import) (fault : LinkFault) (n : ℕ)
    → Err fault ≡ import_count library import n
    → (is_some library ≡ false) × (fault ≡ NoLibrary import.at import.name (import.version / 256))
import_count_err None import fault n e = (refl, cc)
import_count_err (Some place) import fault n e = absurd (cc)

module _ (ram : List ℕ) (entries : List Entry) (stop scan : ℕ) (import : Import)
    (found : IsNextImport ram stop scan import) where
  abbrev table : ImportTable
  table = found.table

  abbrev library : Option ℕ
  library = table_of entries import.name (import.version / 256)

  abbrev here : List Stub
  here = bound_import (functions ram) ram import library

  end_is : import.end ≡ table.end
  end_is = ap (λ (x : Import). x.end) found.stands.same

  library_same : library ≡ export_table_of entries table
  library_same = library_is entries ram import table found.stands

  without_now : first_without_library entries (tables_from ram stop scan).whole
      ≡ cond (not (is_some library)) (Some table)
      (first_without_library entries (tables_from ram stop import.end).whole)
  without_now =
      ap (first_without_library entries) (whole_next ram stop scan table found.next)
      ∙ ap (λ o. cond (not (is_some o)) (Some table)
      (first_without_library entries (tables_from ram stop table.end).whole)) (sym library_same)
      ∙ ap (λ q. cond (not (is_some library)) (Some table)
      (first_without_library entries (tables_from ram stop q).whole)) (sym end_is)

  stubs_now : length (new_stubs ram entries (tables_from ram stop scan).whole)
      ≡ length here + length (new_stubs ram entries (tables_from ram stop import.end).whole)
  stubs_now =
      ap (λ tables. length (new_stubs ram entries tables))
      (whole_next ram stop scan table found.next)
      ∙ length-append (bound_by ram table (export_table_of entries table))
      (new_stubs ram entries (tables_from ram stop table.end).whole)
      ∙ ap (λ stubs. length stubs
      + length (new_stubs ram entries (tables_from ram stop table.end).whole))
      (sym (bound_import_is (functions ram) ram ram import table library found.stands
      (same_words (functions ram) library) ∙ ap (bound_by ram table) library_same))
      ∙ ap (λ q. length here + length (new_stubs ram entries (tables_from ram stop q).whole))
      (sym end_is)

  pub count_goes_on : (k : ℕ) → Ok k ≡ import_count library import (length here)
      → (first_without_library entries (tables_from ram stop import.end).whole
      ≡ first_without_library entries (tables_from ram stop scan).whole)
      × (k + length (new_stubs ram entries (tables_from ram stop import.end).whole)
      ≡ length (new_stubs ram entries (tables_from ram stop scan).whole))
  count_goes_on k e =
      let got = import_count_ok library import k (length here) e in (
        sym (without_now
            ∙ ap (λ b. cond (not b) (Some table)
            (first_without_library entries (tables_from ram stop import.end).whole)) got.0),
        omega (arith, got.1, stubs_now),
      )

  pub count_stops : (fault : LinkFault) (count : ℕ)
      → Err fault ≡ import_count library import (length here)
      → Err fault ≡ text_count
      (first_without_library entries (tables_from ram stop scan).whole) count
  count_stops fault count e =
      let got = import_count_err library import fault (length here) e in
      let at = ap (λ (x : Import). x.at) found.stands.same in
      let name = ap (λ (x : Import). x.name) found.stands.same in
      let version = ap (λ (x : Import). x.version) found.stands.same in
      ap Err got.1
      ∙ ap (λ (x : Import). Err (NoLibrary x.at x.name (x.version / 256))) found.stands.same
      ∙ ap (λ o. text_count o count)
      (sym (without_now
      ∙ ap (λ b. cond (not b) (Some table)
      (first_without_library entries (tables_from ram stop import.end).whole)) got.0))

links_err : (without : Option ImportTable) (live count : ℕ) (stubs : List Stub) (fault : LinkFault)
    → Err fault ≡ text_count without count → links_by None without live stubs ≡ Err fault
links_err None live count stubs fault e = absurd (cc)
links_err (Some table) live count stubs fault e = sym (cc)

links_ok : (without : Option ImportTable) (live count n : ℕ) (stubs : List Stub)
    → Ok n ≡ text_count without count
    → (links_by None without live stubs
    ≡ cond (nat_le (live + length stubs) MOST_LIVE) (Ok stubs) (Err Room)) × (n ≡ count)
links_ok None live count n stubs e = (refl, cc)
links_ok (Some table) live count n stubs e = absurd (cc)

module _ (ram : List ℕ) (entries : List Entry) (live from len : ℕ) where
  abbrev stubs : List Stub
  stubs = new_stubs ram entries (tables_of ram from len).whole

  abbrev without : Option ImportTable
  without = first_without_library entries (tables_of ram from len).whole

  pub links_bad : (at : ℕ) → Some at ≡ (tables_of ram from len).bad
      → links ram entries live from len ≡ Err (Table at)
  unfolding links
  links_bad at e = ap (λ bad. links_by bad without live stubs) (sym e)

  module _ (whole : None ≡ (tables_of ram from len).bad) where
    pub links_without : (fault : LinkFault) → Err fault ≡ text_count without (length stubs)
        → links ram entries live from len ≡ Err fault
    unfolding links
    links_without fault e =
        ap (λ bad. links_by bad without live stubs) (sym whole)
        ∙ links_err without live (length stubs) stubs fault e

    pub links_full : (n room : ℕ) → Ok n ≡ text_count without (length stubs)
        → room + live ≡ MOST_LIVE → room < n → links ram entries live from len ≡ Err Room
    unfolding links
    links_full n room e all full =
        let got = links_ok without live (length stubs) n stubs e in
        ap (λ bad. links_by bad without live stubs) (sym whole) ∙ got.0
        ∙ ap (λ b. cond b (Ok stubs) (Err Room))
        (lt-leb (live + length stubs) MOST_LIVE (omega (arith, got.1)))

    pub room_for_all : (n room : ℕ) → Ok n ≡ text_count without (length stubs)
        → room + live ≡ MOST_LIVE → n ≤ room → live + length stubs ≤ MOST_LIVE
    room_for_all n room e all fits =
        let got = links_ok without live (length stubs) n stubs e in omega (arith, got.1)

    pub links_fit : (n room : ℕ) → Ok n ≡ text_count without (length stubs)
        → room + live ≡ MOST_LIVE → n ≤ room → links ram entries live from len ≡ Ok stubs
    unfolding links
    links_fit n room e all fits =
        let got = links_ok without live (length stubs) n stubs e in
        ap (λ bad. links_by bad without live stubs) (sym whole) ∙ got.0
        ∙ ap (λ b. cond b (Ok stubs) (Err Room))
        (le-leb (live + length stubs) MOST_LIVE (omega (arith, got.1)))

-- what follows where the memory that was read is that of the guest
pub answered : (now ram : List ℕ) (entries : List Entry) (live from len : ℕ) (memory : Memory)
    (outcome : Result (List Stub) LinkFault) → now ≡ ram → links now entries live from len ≡ outcome
    → (answer_of outcome ≡ answer_of (links ram entries live from len))
    × (after_linking memory outcome ≡ after_linking memory (links ram entries live from len))
answered now ram entries live from len memory outcome same e =
    let is : outcome ≡ links ram entries live from len =
    sym e ∙ ap (λ m. links m entries live from len) same in
    (ap answer_of is, ap (after_linking memory) is)
