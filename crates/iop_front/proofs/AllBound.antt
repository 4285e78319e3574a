-- Each stub that the loading of a module is to bind is bound in the step.
use Rattle.std.proofs.Common.{◌≡◌, inl, inr, ℕ, zero, suc, ◌/◌, Option, Some, None, option_map, Result, Ok, Err, List, [], ◌∷◌, Contains, flat_map, filter_map, length, refl, ap, sym, ◌∙◌, subst, arith}
use Rattle.std.specs.List.{cons_option}
use Rattle.std.proofs.lemmas.List.Elements.{Contains-append_cases, Contains-append_left, Contains-append_right}
use Rattle.iop_base.specs.declared.code.Code.{Code}
use Rattle.iop_exec.specs.Row.{Serves}
use Rattle.iop_kernel.specs.declared.after.After.{After}
use Rattle.iop_linker.specs.Linking.{bound_by, bound_stub, export_table_of, first_without_library, linking, links, target_of, text_stubs}
use Rattle.iop_linker.specs.declared.link_fault.LinkFault.{LinkFault}
use Rattle.iop_machine.specs.Iop.{Iop, Transition}
use Rattle.iop_machine.specs.Loading.{boots, enters_or, loading_of, loads_first, places}
use Rattle.iop_machine.specs.Looking.{takes_events}
use Rattle.iop_machine.specs.Modules.{Module}
use Rattle.iop_machine.specs.Services.{calls, calls_by, ends_module, returns_by, serves}
use Rattle.iop_machine.specs.Stepping.{Boots, Executes, step}
use Rattle.iop_machine.specs.World.{World}
use Rattle.iop_saved_machine.specs.declared.begun_module.BegunModule.{BegunModule}
use Rattle.iop_modload.specs.Loading.{links_it, loads, loads_at, loads_parts}
use Rattle.iop_modload.specs.declared.loaded.Loaded.{Loaded}
use Rattle.iop_registry.specs.declared.registry.Entry.{Entry}
use Rattle.iop_stubs.specs.declared.live_stub.Stub.{Stub}
use Rattle.iop_sysmem.specs.Allocating.{allocating}
use Rattle.iop_sysmem.specs.BlockMap.{BlockMap}
use Rattle.irx_tables.specs.Exports.{functions}
use Rattle.irx_tables.specs.Imports.{ImportTable}
use Rattle.iop_front.specs.Loadings.{BindsStub, IsBoundFor, IsBoundIn, ComesToLoad, LoadsIn, first, behind, booting, returning, imaged, place_of, served_by, tables_in}
use Rattle.iop_front.proofs.Bindings.{all_given, here, only}
use Rattle.iop_front.proofs.LoadingLines.{step_as}
use Rattle.iop_front.proofs.Loadings.{answered, loads_exactly}

-- what stands in the list of one item stands in that which is made of all
module _ {X Y : Type 0} (f : X → List Y) where
  into_flat : (xs : List X) (x : X) (y : Y) → Contains xs x → Contains (f x) y
      → Contains (flat_map f xs) y
  into_flat [] x y h one = absurd (omega (arith, h.1))
  into_flat (z ∷ xs) x y h one = elim (Contains-append_cases (z ∷ []) xs x h) [
    | inl same ↦
        Contains-append_left (f z) (flat_map f xs) y
        (subst (λ (v : X). Contains (f v) y) (sym (only z x same)) one)
    | inr later ↦ Contains-append_right (f z) (flat_map f xs) y (into_flat xs x y later one)
  ]

-- and what is given of an item stands in those that are given
module _ {X Y : Type 0} (f : X → Option Y) where
  behind_option : (o : Option Y) (ys : List Y) (y : Y) → Contains ys y
      → Contains (cons_option o ys) y
  behind_option None ys y h = h
  behind_option (Some z) ys y h = Contains-append_right (z ∷ []) ys y h

  into_given : (xs : List X) (x : X) (y : Y) → Contains xs x → f x ≡ Some y
      → Contains (filter_map f xs) y
  into_given [] x y h e = absurd (omega (arith, h.1))
  into_given (z ∷ xs) x y h e = elim (Contains-append_cases (z ∷ []) xs x h) [
    | inl same ↦
        subst (λ (o : Option Y). Contains (cons_option o (filter_map f xs)) y)
        (sym (ap f (only z x same) ∙ e)) (here y (filter_map f xs))
    | inr later ↦ behind_option (f z) (filter_map f xs) y (into_given xs x y later e)
  ]

-- a stub is made of its place, its index, its table's name and version, and its function's word
made_of : (ram : List ℕ) (entries : List Entry) (table : ImportTable) (stub : Stub)
    (h : IsBoundFor ram entries table stub)
    → bound_stub table.name (table.version / 256) (functions ram h.library.entry.table)
    (stub.at, stub.index) ≡ Some stub
made_of ram entries table stub h =
    let made : List ℕ → ℕ → ℕ → Stub = λ name major target. record {
      at = stub.at;
      name = name;
      major = major;
      index = stub.index;
      target = target;
    } in
    ap (option_map (λ word. made table.name (table.version / 256) (target_of word))) h.function
    ∙ ap (λ name. Some (made name (table.version / 256) (target_of h.word))) (sym h.name)
    ∙ ap (λ major. Some (made stub.name major (target_of h.word))) (sym h.major)
    ∙ ap (λ target. Some (made stub.name stub.major target)) (sym h.target)

-- the linking of a table gives it
table_binds : (ram : List ℕ) (entries : List Entry) (table : ImportTable) (stub : Stub)
    → IsBoundFor ram entries table stub
    → Contains (bound_by ram table (export_table_of entries table)) stub
table_binds ram entries table stub h =
    let words = functions ram h.library.entry.table in
    subst (λ (o : Option ℕ). Contains (bound_by ram table o) stub) (sym h.is_first)
    (into_given (bound_stub table.name (table.version / 256) words) table.stubs
    (stub.at, stub.index) stub h.is_stub (made_of ram entries table stub h))

-- the loading of a module binds it
module _ (s : Iop) (m : Module) (stub : Stub) (b : BindsStub s m stub) where
  abbrev taken : BlockMap
  taken = (allocating s.blocks 0 b.parts.length 0).1

  abbrev linked : ℕ → Result (List Stub) LinkFault
  linked n = linking (imaged s b.parts (suc n)) s.libraries (suc n) b.parts.info.text_size

  -- it is one of the text's
  in_text : (n : ℕ) → place_of s b.parts ≡ suc n
      → Contains (text_stubs (imaged s b.parts (suc n)).ram s.libraries (suc n)
      b.parts.info.text_size) stub
  in_text n at =
      subst (λ (base : ℕ). Contains (text_stubs (imaged s b.parts base).ram s.libraries base
      b.parts.info.text_size) stub) at
      (into_flat (λ t. bound_by (imaged s b.parts (place_of s b.parts)).ram t
      (export_table_of s.libraries t))
      (tables_in s b.parts (place_of s b.parts)).whole b.table stub b.among
      (table_binds (imaged s b.parts (place_of s b.parts)).ram s.libraries b.table stub b.bound))

  given_by : (n : ℕ) → place_of s b.parts ≡ suc n → (r : Result (List Stub) LinkFault)
      → linked n ≡ r → Contains (loading_of s m).bound stub
  unfolding loads links
  given_by n at (Err fault) e =
      let refused = answered s m b.parts b.is_file n at (Err fault) e in
      let loaded = b.is_loaded in
      absurd (cc)
  given_by n at (Ok stubs) e =
      let memory = imaged s b.parts (suc n) in
      let tables = tables_in s b.parts (suc n) in
      let all = text_stubs memory.ram s.libraries (suc n) b.parts.info.text_size in
      let same = all_given tables.bad (first_without_library s.libraries tables.whole)
      (length memory.live) all stubs e in
      let binds : (loading_of s m).bound ≡ stubs =
      ap (λ r. (loads_parts s.kernel.clock s.memory s.blocks s.libraries r).bound) b.is_file
      ∙ ap (λ place. (loads_at s.kernel.clock s.memory s.blocks s.libraries b.parts
      (place, taken)).bound) at
      ∙ ap (λ r. (links_it s.kernel.clock s.memory s.blocks s.libraries b.parts (suc n) taken
      r).bound) e in
      subst (λ (xs : List Stub). Contains xs stub) (same ∙ sym binds) (in_text n at)

  given_at : (place : ℕ) → place_of s b.parts ≡ place → Contains (loading_of s m).bound stub
  given_at zero at =
      let refused = (loads_exactly s m).room b.parts b.is_file at in
      let loaded = b.is_loaded in
      absurd (cc)
  given_at (suc n) at = given_by n at (linked n) refl

  loading_binds : Contains (loading_of s m).bound stub
  loading_binds = given_at (place_of s b.parts) refl

-- so do those that come to be loaded
come_to_bind : {modules : List Module} {s t : Iop} {m : Module} (stub : Stub)
    → ComesToLoad modules s m t → Contains (loading_of t m).bound stub
    → Contains (loads_first modules s).bound stub
unfolding loads_first
come_to_bind stub (first {m = m} {rest = rest} {s = s}) one =
    let loading = loading_of s m in
    let placed = (places s loading).state in
    Contains-append_left loading.bound (enters_or (loads_first rest) placed m loading.answer).bound
    stub one
come_to_bind stub (behind {m = m} {other = other} {rest = rest} {s = s} {t = t} code e h) one =
    let loading = loading_of s m in
    let placed = (places s loading).state in
    Contains-append_right loading.bound (enters_or (loads_first rest) placed m loading.answer).bound
    stub
    (subst (λ (r : Result Loaded Code). Contains (enters_or (loads_first rest) placed m r).bound
    stub) (sym e) (come_to_bind stub h one))

-- and so does the step
loads_in_bind : (w : World) (stub : Stub) {m : Module} {t : Iop} → LoadsIn w m t
    → Contains (loading_of t m).bound stub → Contains (step w).bound stub
unfolding boots calls ends_module
loads_in_bind w stub (booting {m = m} {t = t} turn h) one =
    subst (λ (x : Transition World). Contains x.bound stub) (sym (step_as w Boots turn))
    (come_to_bind stub h one)
loads_in_bind w stub (returning {m = m} {t = t} code value ended turn after begun h) one =
    let s = takes_events w.iop in
    let d = served_by s code in
    let v = (serves s d).state in
    subst (λ (x : Transition World). Contains x.bound stub)
    (sym (step_as w (Executes (Serves code)) turn))
    (subst (λ (a : After). Contains (calls_by s d a).bound stub) (sym after)
    (subst (λ (o : Option BegunModule). Contains (returns_by v o value).bound stub) (sym begun)
    (come_to_bind stub h one)))

pub all_bound : (w : World) (stub : Stub) → IsBoundIn w stub → Contains (step w).bound stub
all_bound w stub h = loads_in_bind w stub h.loads (loading_binds h.s h.m stub h.binds)
