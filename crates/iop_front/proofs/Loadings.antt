-- Where import tables find their libraries, and what becomes of a module that comes to be loaded.
use Rattle.std.proofs.Common.{◌≡◌, ℕ, zero, suc, ◌+◌, ◌/◌, ◌<◌, ◌==◌, nat_le, bytes_eq, Bool, true, false, cond, Option, Some, None, is_none, is_some, option_map, Result, Ok, Err, List, [], ◌∷◌, All, Contains, find, length, refl, ap, sym, ◌∙◌, subst, arith}
use Rattle.std.proofs.lemmas.Bool.{and_from, and_parts, eq-eqb, eqb-true, false_from_ne_true, le-leb, leb-true, true≢false}
use Rattle.std.proofs.lemmas.List.Elements.{All-nil, All-cons, All-contains, All-weaker, Contains-append_right, Contains-get_or}
use Rattle.std.proofs.lemmas.Slice.Eq.{bytes_eq-Decides}
use Rattle.iop_base.proofs.Lists.{find-none}
use Rattle.iop_base.specs.declared.code.Code.{Code}
use Rattle.iop_base.specs.declared.code.TheConstants.Code.{ILLEGAL_OBJECT, LINK_ERROR}
use Rattle.iop_base.specs.declared.illegal.Illegal.{Illegal}
use Rattle.iop_linker.specs.Linking.{export_table_of, first_without_library, links, links_by, text_stubs}
use Rattle.iop_linker.specs.declared.link_fault.LinkFault.{LinkFault}
use Rattle.iop_linker.specs.declared.link_fault.LinkFault.TheVariants.{NoLibrary, Room, Table}
use Rattle.iop_machine.specs.Iop.{Iop}
use Rattle.iop_machine.specs.Modules.{Module}
use Rattle.iop_modload.specs.Loading.{Loads, links_it, loaded_at, loads, loads_at, loads_parts}
use Rattle.iop_modload.specs.Modules.{module_of_file, module_of_parts}
use Rattle.iop_registry.specs.Entries.{is_library}
use Rattle.iop_registry.specs.declared.registry.Entry.{Entry}
use Rattle.iop_stubs.specs.Stubs.{Memory}
use Rattle.iop_stubs.specs.declared.live_stub.Stub.{Stub}
use Rattle.iop_stubs.specs.declared.live_stub.TheConstants.Stub.{MOST_LIVE}
use Rattle.iop_sysmem.specs.Allocating.{allocating}
use Rattle.iop_sysmem.specs.BlockMap.{BlockMap}
use Rattle.irx_elf.specs.Parts.{Parts, parts_or_rule}
use Rattle.irx_reloc.specs.Entries.{all_entries}
use Rattle.irx_reloc.specs.Fitting.{misfit}
use Rattle.irx_tables.specs.Imports.{ImportTable}
use Rattle.iop_front.specs.Loadings.{FindsLibrary, HasRoomForStubs, FindLibraries, LinksExactly, LoadsExactly, answer_to, imaged, place_of, tables_in}

-- the library of a table is searched among the registered ones
module _ (table : ImportTable) where
  abbrev pub test : Entry → Bool
  test = is_library table.name (table.version / 256)

  pub is_it : (entry : Entry) → test entry ≡ true
      → (entry.name ≡ table.name) × (entry.major ≡ table.version / 256)
  is_it entry e =
      let major = table.version / 256 in
      let both = and_parts (bytes_eq entry.name table.name) (entry.major == major) e in
      ((bytes_eq-Decides entry.name table.name).0 both.0, eqb-true entry.major major both.1)

  -- it stands among these entries
  abbrev pub IsIn : List Entry → Entry → Type 0
  IsIn entries entry = Contains entries entry × (test entry ≡ true)

  -- by whether the first is it
  found_by : (b : Bool) (entry : Entry) (rest : List Entry) (other : Entry) → test entry ≡ b
      → (find test rest ≡ Some other → IsIn rest other)
      → cond b (Some entry) (find test rest) ≡ Some other → IsIn (entry ∷ rest) other
  found_by true entry rest other e later is =
      let same : entry ≡ other = cc in
      subst (IsIn (entry ∷ rest)) same
      (Contains-get_or (entry ∷ rest) 0 entry (omega arith), e)
  found_by false entry rest other e later is =
      let h = later is in (Contains-append_right (entry ∷ []) rest other h.0, h.1)

  pub found : (entries : List Entry) (other : Entry) → find test entries ≡ Some other
      → IsIn entries other
  found [] other is = absurd (cc)
  found (entry ∷ rest) other is =
      found_by (test entry) entry rest other refl (found rest other) is

  -- one that is found is registered
  finds_it : (entries : List Entry) (entry : Entry) → find test entries ≡ Some entry
      → FindsLibrary entries table
  finds_it entries entry is =
      let h = found entries entry is in
      record {
        entry = entry;
        registered = h.0;
        name = (is_it entry h.1).0;
        major = (is_it entry h.1).1;
      }

  finds_by : (entries : List Entry) (o : Option Entry) → find test entries ≡ o
      → is_none o ≡ false → FindsLibrary entries table
  finds_by entries None is some = absurd (cc)
  finds_by entries (Some entry) is some = finds_it entries entry is

  finds : (entries : List Entry) → is_none (find test entries) ≡ false → FindsLibrary entries table
  finds entries some = finds_by entries (find test entries) refl some

  none_by : (b : Bool) (entry : Entry) (rest : List Entry) → test entry ≡ b
      → (is_none (find test rest) ≡ true → All (λ x. test x ≡ false) rest)
      → is_none (cond b (Some entry) (find test rest)) ≡ true
      → All (λ x. test x ≡ false) (entry ∷ rest)
  none_by true entry rest e later none = absurd (cc)
  none_by false entry rest e later none = All-cons (λ x. test x ≡ false) entry rest e (later none)

  -- where none is found none is it
  none_is_it : (entries : List Entry) → is_none (find test entries) ≡ true
      → All (λ x. test x ≡ false) entries
  none_is_it [] none = All-nil (λ x. test x ≡ false)
  none_is_it (entry ∷ rest) none = none_by (test entry) entry rest refl (none_is_it rest) none

  -- so one that is registered is found
  is_found : (entries : List Entry) → FindsLibrary entries table
      → is_none (find test entries) ≡ false
  is_found entries h =
      let passes_it = and_from (bytes_eq h.entry.name table.name)
      (h.entry.major == table.version / 256)
      ((bytes_eq-Decides h.entry.name table.name).1 h.name)
      (eq-eqb h.entry.major (table.version / 256) h.major) in
      false_from_ne_true (is_none (find test entries))
      (λ none. true≢false (sym passes_it
      ∙ All-contains (λ x. test x ≡ false) entries h.entry (none_is_it entries none) h.registered))

-- a library has its place
none_mapped : (o : Option Entry) → is_none (option_map (λ (x : Entry). x.table) o) ≡ is_none o
none_mapped None = refl
none_mapped (Some x) = refl

-- the first table that finds none
module _ (entries : List Entry) where
  abbrev lacks : ImportTable → Bool
  lacks table = is_none (export_table_of entries table)

  abbrev found_for : ImportTable → Option Entry
  found_for table = find (is_library table.name (table.version / 256)) entries

  lacks_none : (table : ImportTable) → FindsLibrary entries table → lacks table ≡ false
  lacks_none table h = none_mapped (found_for table) ∙ is_found table entries h

  all_by : (b : Bool) (table : ImportTable) (rest : List ImportTable) → lacks table ≡ b
      → (first_without_library entries rest ≡ None → All (FindsLibrary entries) rest)
      → cond b (Some table) (first_without_library entries rest) ≡ None
      → All (FindsLibrary entries) (table ∷ rest)
  all_by true table rest e later none = absurd (cc)
  all_by false table rest e later none =
      All-cons (FindsLibrary entries) table rest
      (finds table entries (sym (none_mapped (found_for table)) ∙ e)) (later none)

  -- there is none exactly where each table finds its library
  pub all_find : (tables : List ImportTable) → first_without_library entries tables ≡ None
      → All (FindsLibrary entries) tables
  all_find [] none = All-nil (FindsLibrary entries)
  all_find (table ∷ rest) none = all_by (lacks table) table rest refl (all_find rest) none

  pub none_lacks : (tables : List ImportTable) → All (FindsLibrary entries) tables
      → first_without_library entries tables ≡ None
  none_lacks tables h =
      find-none lacks tables
      (All-weaker (FindsLibrary entries) (λ table. lacks table ≡ false) lacks_none tables h)

-- a module whose file has parts
module _ (s : Iop) (m : Module) (parts : Parts) (is : module_of_file m.file ≡ Ok parts) where
  abbrev taken : BlockMap
  taken = (allocating s.blocks 0 parts.length 0).1

  abbrev loading_at : (place : ℕ) → Loads
  loading_at place =
      loads_at s.kernel.clock s.memory s.blocks s.libraries parts (place, taken)

  -- by the place of its image
  answer_at : (place : ℕ) → place_of s parts ≡ place → answer_to s m ≡ (loading_at place).answer
  unfolding loads
  answer_at place at =
      ap (λ r. (loads_parts s.kernel.clock s.memory s.blocks s.libraries r).answer) is
      ∙ ap (λ n. (loading_at n).answer) at

  module _ (n : ℕ) (at : place_of s parts ≡ suc n) where
    abbrev memory : Memory
    memory = imaged s parts (suc n)

    abbrev stubs : List Stub
    stubs = text_stubs memory.ram s.libraries (suc n) parts.info.text_size

    abbrev lacking : Option ImportTable
    lacking = first_without_library s.libraries (tables_in s parts (suc n)).whole

    abbrev linked_by : Option ℕ → Option ImportTable → Result (List Stub) LinkFault
    linked_by bad without = links_by bad without (length memory.live) stubs

    -- by what the linking of its text comes to
    pub answered : (r : Result (List Stub) LinkFault)
        → linked_by (tables_in s parts (suc n)).bad lacking ≡ r
        → answer_to s m
        ≡ (links_it s.kernel.clock s.memory s.blocks s.libraries parts (suc n) taken r).answer
    unfolding links
    answered r e =
        answer_at (suc n) at
        ∙ ap (λ x. (links_it s.kernel.clock s.memory s.blocks s.libraries parts (suc n) taken
        x).answer) e

    without_bad : (o : Option ImportTable) → (tables_in s parts (suc n)).bad ≡ None → lacking ≡ o
        → linked_by (tables_in s parts (suc n)).bad lacking ≡ linked_by None o
    without_bad o none e = ap (λ b. linked_by b lacking) none ∙ ap (linked_by None) e

    lacks_one : (table : ImportTable) → (tables_in s parts (suc n)).bad ≡ None
        → lacking ≡ Some table → answer_to s m ≡ Err LINK_ERROR
    lacks_one table none e =
        answered (Err (NoLibrary table.at table.name (table.version / 256)))
        (without_bad (Some table) none e)

    -- where all tables find their libraries
    by_room : (room : Bool) → (tables_in s parts (suc n)).bad ≡ None → FindLibraries s parts (suc n)
        → nat_le (length memory.live + length stubs) MOST_LIVE ≡ room
        → linked_by (tables_in s parts (suc n)).bad lacking ≡ cond room (Ok stubs) (Err Room)
    by_room room none all e =
        without_bad None none (none_lacks s.libraries (tables_in s parts (suc n)).whole all)
        ∙ ap (λ b. cond b (Ok stubs) (Err Room)) e

    links_all : (tables_in s parts (suc n)).bad ≡ None → HasRoomForStubs s parts (suc n)
        → FindLibraries s parts (suc n) → answer_to s m ≡ Ok (loaded_at parts (suc n))
    links_all none room all =
        answered (Ok stubs)
        (by_room true none all (le-leb (length memory.live + length stubs) MOST_LIVE room))

    all_by_answer : (tables_in s parts (suc n)).bad ≡ None → (o : Option ImportTable) → lacking ≡ o
        → answer_to s m ≡ Ok (loaded_at parts (suc n)) → FindLibraries s parts (suc n)
    all_by_answer none None e ok = all_find s.libraries (tables_in s parts (suc n)).whole e
    all_by_answer none (Some table) e ok = let refused = lacks_one table none e in absurd (cc)

    missing_by : (tables_in s parts (suc n)).bad ≡ None → (o : Option ImportTable) → lacking ≡ o
        → ¬ FindLibraries s parts (suc n) → answer_to s m ≡ Err LINK_ERROR
    missing_by none None e not_all =
        absurd (not_all (all_find s.libraries (tables_in s parts (suc n)).whole e))
    missing_by none (Some table) e not_all = lacks_one table none e

    links_behind : LinksExactly s m parts (suc n)
    links_behind = record {
      bad = λ place e. answered (Err (Table place)) (ap (λ b. linked_by b lacking) e);
      links = λ none room.
          (all_by_answer none lacking refl, links_all none room);
      missing = λ none not_all. missing_by none lacking refl not_all;
      full = λ none all not_room.
          answered (Err Room) (by_room false none all
          (false_from_ne_true (nat_le (length memory.live + length stubs) MOST_LIVE)
          (λ fits. not_room (leb-true (length memory.live + length stubs) MOST_LIVE fits))));
    }

  links_at : (place : ℕ) → place_of s parts ≡ place → 0 < place → LinksExactly s m parts place
  links_at zero at some = absurd (omega arith)
  links_at (suc n) at some = links_behind n at

-- a file that is no module is refused with one code
one_code : (r : Result Parts Illegal) (code : Code) → module_of_parts r ≡ Err code
    → code ≡ ILLEGAL_OBJECT
one_code (Err illegal) code e = cc
one_code (Ok parts) code e = by (is_some (misfit parts.length (all_entries parts.lists))) e
  where
    by : (b : Bool) → cond b (Err ILLEGAL_OBJECT) (Ok parts) ≡ Err code → code ≡ ILLEGAL_OBJECT
    by true f = cc
    by false f = absurd (cc)

refused_file : (s : Iop) (m : Module) (code : Code) → module_of_file m.file ≡ Err code
    → answer_to s m ≡ Err ILLEGAL_OBJECT
unfolding loads module_of_file
refused_file s m code e =
    ap (λ r. (loads_parts s.kernel.clock s.memory s.blocks s.libraries r).answer) e
    ∙ ap (λ c. Err c) (one_code (parts_or_rule m.file) code e)

pub loads_exactly : (s : Iop) (m : Module) → LoadsExactly s m
loads_exactly s m = record {
  file = refused_file s m;
  room = λ parts is none. answer_at s m parts is 0 none;
  text = λ parts is some. links_at s m parts is (place_of s parts) refl some;
}
