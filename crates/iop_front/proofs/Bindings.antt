-- Each stub that a step binds is bound by the loading of a module, for one of its import tables.
use Rattle.std.proofs.Common.{◌≡◌, inl, inr, ℕ, zero, suc, ◌+◌, ◌/◌, nat_le, Bool, true, false, cond, Option, Some, None, option_map, Result, Ok, Err, List, [], ◌∷◌, Contains, find, flat_map, filter_map, length, slice_get, refl, ap, sym, ◌∙◌, subst, arith}
use Rattle.std.specs.List.{cons_option}
use Rattle.std.proofs.lemmas.List.Elements.{All-nil, All-cons, All-contains, Contains-append_cases, Contains-append_right, Contains-get_or}
use Rattle.iop_base.specs.declared.code.Code.{Code}
use Rattle.iop_exec.specs.Row.{Row, Goes, Serves, Faults}
use Rattle.iop_kernel.specs.System.{Served}
use Rattle.iop_kernel.specs.declared.after.After.{After}
use Rattle.iop_kernel.specs.declared.after.After.TheVariants.{Resume, Switch, ModuleReturned, Fault}
use Rattle.iop_linker.specs.Linking.{bound_by, bound_stub, export_table_of, first_without_library, linking, links, links_by, new_stubs, target_of, text_stubs}
use Rattle.iop_linker.specs.declared.link_fault.LinkFault.{LinkFault}
use Rattle.iop_linker.specs.declared.link_fault.LinkFault.TheVariants.{Room}
use Rattle.iop_machine.specs.Iop.{Iop}
use Rattle.iop_machine.specs.Loading.{boots, enters_or, loading_of, loads_first, places, with_kernel}
use Rattle.iop_machine.specs.Looking.{takes_events}
use Rattle.iop_machine.specs.Modules.{Module, modules_of}
use Rattle.iop_machine.specs.Services.{calls, calls_by, ends_module, returns_by, serves}
use Rattle.iop_machine.specs.Stepping.{Turn, Stays, Boots, Delivers, Dispatches, Executes, Waits, performs, step, takes_turn, turn_of}
use Rattle.iop_machine.specs.World.{World}
use Rattle.iop_saved_machine.specs.declared.begun_module.BegunModule.{BegunModule}
use Rattle.iop_modload.specs.Loading.{links_it, loaded_at, loads, loads_at, loads_parts}
use Rattle.iop_modload.specs.Modules.{module_of_file}
use Rattle.iop_modload.specs.declared.loaded.Loaded.{Loaded}
use Rattle.iop_registry.specs.declared.registry.Entry.{Entry}
use Rattle.iop_stubs.specs.declared.live_stub.Stub.{Stub}
use Rattle.iop_stubs.specs.declared.live_stub.TheConstants.Stub.{MOST_LIVE}
use Rattle.iop_sysmem.specs.Allocating.{allocating}
use Rattle.iop_sysmem.specs.BlockMap.{BlockMap}
use Rattle.irx_elf.specs.Parts.{Parts}
use Rattle.irx_tables.specs.Exports.{functions}
use Rattle.irx_tables.specs.Imports.{ImportTable}
use Rattle.iop_front.specs.Loadings.{BindsStub, IsBoundFor, IsBoundIn, ComesToLoad, first, behind, booting, returning, answer_to, behind_end, imaged, place_of, served_by, tables_in}
use Rattle.iop_front.proofs.Loadings.{answered, found, is_it, test}

pub here : {X : Type 0} (x : X) (xs : List X) → Contains (x ∷ xs) x
here x xs = Contains-get_or (x ∷ xs) 0 x (omega arith)

-- what a list of one has
pub only : {X : Type 0} (x y : X) → Contains (x ∷ []) y → x ≡ y
only x y h =
    All-contains (λ z. x ≡ z) (x ∷ []) y (All-cons (λ z. x ≡ z) x [] refl (All-nil (λ z. x ≡ z))) h

-- what stands in a list that is made of others stands in that of one item
module _ {X Y : Type 0} (f : X → List Y) where
  abbrev IsOfOne : List X → Y → Type 0
  IsOfOne xs y = (x : X) × Contains xs x × Contains (f x) y

  from_flat : (xs : List X) (y : Y) → Contains (flat_map f xs) y → IsOfOne xs y
  from_flat [] y h = absurd (omega (arith, h.1))
  from_flat (x ∷ xs) y h = elim (Contains-append_cases (f x) (flat_map f xs) y h) [
    | inl one ↦ (x, here x xs, one)
    | inr later ↦
        let r = from_flat xs y later in (r.0, Contains-append_right (x ∷ []) xs r.0 r.1, r.2)
  ]

-- and what stands in one of those that are given is given of an item
module _ {X Y : Type 0} (f : X → Option Y) where
  abbrev IsGiven : List X → Y → Type 0
  IsGiven xs y = (x : X) × Contains xs x × (f x ≡ Some y)

  given_later : (x : X) (xs : List X) (y : Y) → IsGiven xs y → IsGiven (x ∷ xs) y
  given_later x xs y r = (r.0, Contains-append_right (x ∷ []) xs r.0 r.1, r.2)

  given_by : (o : Option Y) (x : X) (xs : List X) (y : Y) → f x ≡ o
      → (Contains (filter_map f xs) y → IsGiven xs y)
      → Contains (cons_option o (filter_map f xs)) y → IsGiven (x ∷ xs) y
  given_by None x xs y e later h = given_later x xs y (later h)
  given_by (Some z) x xs y e later h =
      elim (Contains-append_cases (z ∷ []) (filter_map f xs) y h) [
        | inl one ↦ (x, here x xs, e ∙ ap Some (only z y one))
        | inr more ↦ given_later x xs y (later more)
      ]

  from_given : (xs : List X) (y : Y) → Contains (filter_map f xs) y → IsGiven xs y
  from_given [] y h = absurd (omega (arith, h.1))
  from_given (x ∷ xs) y h = given_by (f x) x xs y refl (from_given xs y) h

-- a stub that is bound for a table
module _ (ram : List ℕ) (entries : List Entry) (table : ImportTable) (stub : Stub) where
  abbrev IsBound : Type 0
  IsBound = IsBoundFor ram entries table stub

  -- by the word of its function
  bound_at : (entry : Entry) → find (test table) entries ≡ Some entry → (x : ℕ × ℕ)
      → Contains table.stubs x → (o : Option ℕ) → slice_get (functions ram entry.table) x.1 ≡ o
      → option_map (λ word. record {
        at = x.0;
        name = table.name;
        major = table.version / 256;
        index = x.1;
        target = target_of word;
      }) o ≡ Some stub
      → IsBound
  bound_at entry is x among None word e = absurd (cc)
  bound_at entry is x among (Some number) word e =
      let one : Stub = record {
        at = x.0;
        name = table.name;
        major = table.version / 256;
        index = x.1;
        target = target_of number;
      } in
      let same : one ≡ stub = cc in
      let there = found table entries entry is in
      let its = is_it table entry there.1 in
      subst (λ (b : Stub). IsBoundFor ram entries table b) same (record {
        library = record { entry = entry; registered = there.0; name = its.0; major = its.1 };
        is_first = ap (λ (o : Option Entry). option_map (λ (e : Entry). e.table) o) is;
        is_stub = among;
        name = refl;
        major = refl;
        word = number;
        function = word;
        target = refl;
      })

  -- by the library that the table finds
  bound_by_library : (o : Option Entry) → find (test table) entries ≡ o
      → Contains (bound_by ram table (option_map (λ (entry : Entry). entry.table) o)) stub → IsBound
  bound_by_library None is h = absurd (omega (arith, h.1))
  bound_by_library (Some entry) is h =
      let words = functions ram entry.table in
      let r = from_given (bound_stub table.name (table.version / 256) words) table.stubs stub h in
      bound_at entry is r.0 r.1 (slice_get words r.0.1) refl r.2

-- so is each one that the linking of a text gives
linked_stub : (ram : List ℕ) (entries : List Entry) (tables : List ImportTable) (stub : Stub)
    → Contains (new_stubs ram entries tables) stub
    → (table : ImportTable) × Contains tables table × IsBoundFor ram entries table stub
linked_stub ram entries tables stub h =
    let r = from_flat (λ table. bound_by ram table (export_table_of entries table)) tables stub h in
    (r.0, r.1, bound_by_library ram entries r.0 stub (find (test r.0) entries) refl r.2)

-- a linking that is not refused gives the stubs of the text
pub all_given : (bad : Option ℕ) (without : Option ImportTable) (live : ℕ) (all stubs : List Stub)
    → links_by bad without live all ≡ Ok stubs → all ≡ stubs
all_given (Some at) without live all stubs e = absurd (cc)
all_given None (Some table) live all stubs e = absurd (cc)
all_given None None live all stubs e = by (nat_le (live + length all) MOST_LIVE) e
  where
    by : (b : Bool) → cond b (Ok all) (Err Room) ≡ Ok stubs → all ≡ stubs
    by true f = cc
    by false f = absurd (cc)

-- the stubs that the loading of a module binds
module _ (s : Iop) (m : Module) (stub : Stub) where
  abbrev Goal : Type 0
  Goal = BindsStub s m stub

  module _ (parts : Parts) (is : module_of_file m.file ≡ Ok parts) where
    abbrev taken : BlockMap
    taken = (allocating s.blocks 0 parts.length 0).1

    abbrev IsOfTable : ℕ → Type 0
    IsOfTable base =
        (answer_to s m ≡ Ok (loaded_at parts base))
        × ((table : ImportTable) × Contains (tables_in s parts base).whole table
        × IsBoundFor (imaged s parts base).ram s.libraries table stub)

    linked_by : (n : ℕ) → place_of s parts ≡ suc n → (r : Result (List Stub) LinkFault)
        → linking (imaged s parts (suc n)) s.libraries (suc n) parts.info.text_size ≡ r
        → Contains (links_it s.kernel.clock s.memory s.blocks s.libraries parts (suc n) taken
        r).bound stub
        → IsOfTable (suc n)
    unfolding links
    linked_by n at (Err fault) e h = absurd (omega (arith, h.1))
    linked_by n at (Ok stubs) e h =
        let memory = imaged s parts (suc n) in
        let tables = tables_in s parts (suc n) in
        let all = text_stubs memory.ram s.libraries (suc n) parts.info.text_size in
        let same = all_given tables.bad (first_without_library s.libraries tables.whole)
        (length memory.live) all stubs e in (
          answered s m parts is n at (Ok stubs) e,
          linked_stub memory.ram s.libraries tables.whole stub
              (subst (λ (xs : List Stub). Contains xs stub) (sym same) h),
        )

    placed_by : (place : ℕ) → place_of s parts ≡ place
        → Contains (loads_at s.kernel.clock s.memory s.blocks s.libraries parts
        (place, taken)).bound stub
        → Goal
    placed_by zero at h = absurd (omega (arith, h.1))
    placed_by (suc n) at h =
        let r = linked_by n at
        (linking (imaged s parts (suc n)) s.libraries (suc n) parts.info.text_size) refl h in
        let t = subst IsOfTable (sym at) r in
        record {
          parts = parts;
          is_file = is;
          is_loaded = t.0;
          table = t.1.0;
          among = t.1.1;
          bound = t.1.2;
        }

  loaded_by : (r : Result Parts Code) → module_of_file m.file ≡ r
      → Contains (loads_parts s.kernel.clock s.memory s.blocks s.libraries r).bound stub → Goal
  loaded_by (Err code) e h = absurd (omega (arith, h.1))
  loaded_by (Ok parts) e h = placed_by parts e (place_of s parts) refl h

  binds_stub : Contains (loading_of s m).bound stub → Goal
  unfolding loads
  binds_stub h = loaded_by (module_of_file m.file) refl h

-- it is bound by one of the modules that come to be loaded
record IsBoundAmong (modules : List Module) (s : Iop) (stub : Stub) : Type 0 where
  m : Module
  t : Iop
  loads : ComesToLoad modules s m t
  binds : BindsStub t m stub

module _ (stub : Stub) where
  entered_by : (m : Module) (rest : List Module) (s : Iop)
      → ((v : Iop) → Contains (loads_first rest v).bound stub → IsBoundAmong rest v stub)
      → (r : Result Loaded Code) → (loading_of s m).answer ≡ r
      → Contains (enters_or (loads_first rest) (places s (loading_of s m)).state m r).bound
      stub
      → IsBoundAmong (m ∷ rest) s stub
  entered_by m rest s later (Ok loaded) e h = absurd (omega (arith, h.1))
  entered_by m rest s later (Err code) e h =
      let r = later (places s (loading_of s m)).state h in
      record { m = r.m; t = r.t; loads = behind code e r.loads; binds = r.binds }

  first_binds : (modules : List Module) (s : Iop) → Contains (loads_first modules s).bound stub
      → IsBoundAmong modules s stub
  unfolding loads_first
  first_binds [] s h = absurd (omega (arith, h.1))
  first_binds (m ∷ rest) s h =
      let loading = loading_of s m in
      let placed = (places s loading).state in
      elim (Contains-append_cases loading.bound
      (enters_or (loads_first rest) placed m loading.answer).bound stub h) [
        | inl one ↦ record { m = m; t = s; loads = first; binds = binds_stub s m stub one }
        | inr other ↦ entered_by m rest s (first_binds rest) loading.answer refl other
      ]

-- in a step
module _ (w : World) (stub : Stub) where
  abbrev IsSo : Type 0
  IsSo = IsBoundIn w stub

  -- what a service leaves by which the loader's thread returns, or another
  abbrev served : ℕ → Served
  served code = served_by (takes_events w.iop) code

  module _ (code : ℕ) (turn : turn_of w ≡ Executes (Serves code)) where
    ended_by : (value : ℕ) (o : Option BegunModule) → w.iop.begun ≡ o
        → (served code).left.after ≡ ModuleReturned value
        → Contains (returns_by (serves (takes_events w.iop) (served code)).state o value).bound stub
        → IsSo
    unfolding ends_module
    ended_by value None e after h = absurd (omega (arith, h.1))
    ended_by value (Some ended) e after h =
        let v = behind_end (takes_events w.iop) code ended value in
        let r = first_binds stub (modules_of v.modules) v h in
        record {
          m = r.m;
          s = r.t;
          loads = returning code value ended turn after e r.loads;
          binds = r.binds;
        }

    called_by : (a : After) → (served code).left.after ≡ a
        → Contains (calls_by (takes_events w.iop) (served code) a).bound stub
        → IsSo
    called_by Resume e h = absurd (omega (arith, h.1))
    called_by Switch e h = absurd (omega (arith, h.1))
    called_by (ModuleReturned value) e h = ended_by value w.iop.begun refl e h
    called_by (Fault kind) e h = absurd (omega (arith, h.1))

  performed_by : (r : Row) → turn_of w ≡ Executes r
      → Contains (performs (takes_events w.iop) r).bound stub → IsSo
  unfolding calls
  performed_by (Goes after None) turn h = absurd (omega (arith, h.1))
  performed_by (Goes after (Some storing)) turn h = absurd (omega (arith, h.1))
  performed_by (Serves code) turn h =
      called_by code turn (served code).left.after refl h
  performed_by (Faults kind) turn h = absurd (omega (arith, h.1))

  taken_by : (turn : Turn) → turn_of w ≡ turn → Contains (takes_turn w turn).bound stub → IsSo
  unfolding boots
  taken_by Stays e h = absurd (omega (arith, h.1))
  taken_by Boots e h =
      let r = first_binds stub (modules_of w.iop.modules) (with_kernel w.iop) h in
      record { m = r.m; s = r.t; loads = booting e r.loads; binds = r.binds }
  taken_by (Delivers d) e h = absurd (omega (arith, h.1))
  taken_by (Dispatches d) e h = absurd (omega (arith, h.1))
  taken_by (Executes r) e h = performed_by r e h
  taken_by (Waits None) e h = absurd (omega (arith, h.1))
  taken_by (Waits (Some moment)) e h = absurd (omega (arith, h.1))

  pub is_bound_in : Contains (step w).bound stub → IsSo
  unfolding step
  is_bound_in h = taken_by (turn_of w) refl h
