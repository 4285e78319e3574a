-- Which modules come to be loaded in a run, and which of them link, said with no search: each
-- import table has to find a registered library of its name and major version (ps2sdk's irx.h).
-- What else refuses a module, and in which order, is this project's profile.
use Rattle.std.specs.Prelude.{◌≡◌, ℕ, ◌+◌, ◌/◌, ◌<◌, ◌≤◌, ◌↔◌, true, None, Some, Result, Ok, Err, is_err, List, [], ◌∷◌, ◌++◌, length, slice_get, All, Contains}
use Rattle.iop_base.specs.Piece.{Piece, Traced}
use Rattle.iop_base.specs.Text.{line_bytes}
use Rattle.iop_base.specs.declared.code.Code.{Code}
use Rattle.iop_base.specs.declared.code.TheConstants.Code.{ILLEGAL_OBJECT, LINK_ERROR, NO_MEMORY}
use Rattle.iop_base.specs.declared.line.Line.TheVariants.{Load, Refused}
use Rattle.iop_exec.specs.Row.{Serves}
use Rattle.iop_kernel.specs.Serving.{services}
use Rattle.iop_kernel.specs.System.{Served}
use Rattle.iop_kernel.specs.declared.after.After.TheVariants.{ModuleReturned}
use Rattle.iop_linker.specs.Linking.{export_table_of, target_of, text_stubs}
use Rattle.iop_machine.specs.Iop.{Iop}
use Rattle.iop_machine.specs.Loading.{loading_of, places, with_kernel}
use Rattle.iop_machine.specs.Looking.{takes_events}
use Rattle.iop_machine.specs.Modules.{Module, modules_of}
use Rattle.iop_machine.specs.Services.{leaves, serves, calling}
use Rattle.iop_machine.specs.Stepping.{Boots, Executes, step, turn_of}
use Rattle.iop_machine.specs.World.{World}
use Rattle.iop_saved_machine.specs.declared.begun_module.BegunModule.{BegunModule}
use Rattle.iop_modload.specs.Finishing.{finishes}
use Rattle.iop_modload.specs.Loading.{loaded_at, with_image}
use Rattle.iop_modload.specs.Modules.{module_of_file}
use Rattle.iop_modload.specs.declared.loaded.Loaded.{Loaded}
use Rattle.iop_registry.specs.declared.registry.Entry.{Entry}
use Rattle.iop_stubs.specs.Stubs.{Memory}
use Rattle.iop_stubs.specs.declared.live_stub.Stub.{Stub}
use Rattle.iop_stubs.specs.declared.live_stub.TheConstants.Stub.{MOST_LIVE}
use Rattle.iop_sysmem.specs.Allocating.{allocating}
use Rattle.irx_elf.specs.Parts.{Parts}
use Rattle.irx_tables.specs.Exports.{functions}
use Rattle.irx_tables.specs.Imports.{ImportTable, ImportTables, tables_of}

-- a library is registered that has the name and the major version of an import table. The minor
-- version, which is the low byte of the table's version, does not count
pub record FindsLibrary (libraries : List Entry) (table : ImportTable) : Type 0 where
  pub entry : Entry
  pub registered : Contains libraries entry
  pub name : entry.name ≡ table.name
  pub major : entry.major ≡ table.version / 256

-- where a module's image stands, 0 where there is no room for it; and memory with its image, which
-- is relocated for a base
abbrev pub place_of : Iop → Parts → ℕ
place_of s parts = (allocating s.blocks 0 parts.length 0).0

abbrev pub imaged : Iop → Parts → (base : ℕ) → Memory
imaged s parts base = with_image s.kernel.clock s.memory s.blocks s.libraries parts base

-- the import tables of its text
abbrev pub tables_in : Iop → Parts → (base : ℕ) → ImportTables
tables_in s parts base = tables_of (imaged s parts base).ram base parts.info.text_size

-- there is room for its stubs beside those that are live
abbrev pub HasRoomForStubs : Iop → Parts → (base : ℕ) → Type 0
HasRoomForStubs s parts base =
    let memory = imaged s parts base in
    length memory.live + length (text_stubs memory.ram s.libraries base parts.info.text_size)
    ≤ MOST_LIVE

-- each of its tables finds its library
abbrev pub FindLibraries : Iop → Parts → (base : ℕ) → Type 0
FindLibraries s parts base = All (FindsLibrary s.libraries) (tables_in s parts base).whole

-- what the loading of a module answers: where it stands, or with which code it is refused
abbrev pub answer_to : Iop → Module → Result Loaded Code
answer_to s m = (loading_of s m).answer

-- how a module links whose file has these parts, and whose image stands at a base
pub record LinksExactly (s : Iop) (m : Module) (parts : Parts) (base : ℕ) : Type 0 where
  -- with a bad import table it is refused with -201
  pub bad : (at : ℕ) → (tables_in s parts base).bad ≡ Some at → answer_to s m ≡ Err ILLEGAL_OBJECT
  -- else, where there is room for its stubs, it is loaded exactly where each table finds its
  -- library
  pub links : (tables_in s parts base).bad ≡ None → HasRoomForStubs s parts base
      → (answer_to s m ≡ Ok (loaded_at parts base)) ↔ FindLibraries s parts base
  -- where a table finds none, it is refused with -200
  pub missing : (tables_in s parts base).bad ≡ None → ¬ FindLibraries s parts base
      → answer_to s m ≡ Err LINK_ERROR
  -- and where all find theirs, but there is no room for its stubs, with -400
  pub full : (tables_in s parts base).bad ≡ None → FindLibraries s parts base
      → ¬ HasRoomForStubs s parts base → answer_to s m ≡ Err NO_MEMORY

-- what becomes of a module that is loaded in a state of the core
pub record LoadsExactly (s : Iop) (m : Module) : Type 0 where
  -- a file that is no module is refused with -201
  pub file : (code : Code) → module_of_file m.file ≡ Err code
      → answer_to s m ≡ Err ILLEGAL_OBJECT
  -- one for whose image there is no room is refused with -400
  pub room : (parts : Parts) → module_of_file m.file ≡ Ok parts → place_of s parts ≡ 0
      → answer_to s m ≡ Err NO_MEMORY
  -- each other one is linked
  pub text : (parts : Parts) → module_of_file m.file ≡ Ok parts → 0 < place_of s parts
      → LinksExactly s m parts (place_of s parts)

-- a stub that linking binds for a table: one of the table's by its place and index, bound to the
-- function of that index of the library that the table finds, which goes to bits 2 to 27 of the
-- function's word. The library is the first registered one of its name and major version
pub record IsBoundFor (ram : List ℕ) (libraries : List Entry) (table : ImportTable) (stub : Stub)
    : Type 0 where
  pub library : FindsLibrary libraries table
  pub is_first : export_table_of libraries table ≡ Some library.entry.table
  pub is_stub : Contains table.stubs (stub.at, stub.index)
  pub name : stub.name ≡ table.name
  pub major : stub.major ≡ table.version / 256
  pub word : ℕ
  pub function : slice_get (functions ram library.entry.table) stub.index ≡ Some word
  pub target : stub.target ≡ target_of word

-- the loading of a module binds a stub: the module is loaded, and the stub is for one of its import
-- tables, in memory with its image
pub record BindsStub (s : Iop) (m : Module) (stub : Stub) : Type 0 where
  pub parts : Parts
  pub is_file : module_of_file m.file ≡ Ok parts
  pub is_loaded : answer_to s m ≡ Ok (loaded_at parts (place_of s parts))
  pub table : ImportTable
  pub among : Contains (tables_in s parts (place_of s parts)).whole table
  pub bound : IsBoundFor (imaged s parts (place_of s parts)).ram s.libraries table stub

-- the pieces tell of it: a `load` line with its place and its length, or with the code of its
-- refusal
pub record TellLoading (pieces : List Piece) (s : Iop) (m : Module) : Type 0 where
  pub loaded : (l : Loaded) → answer_to s m ≡ Ok l
      → Contains pieces (Traced (line_bytes s.kernel.clock (Load m.number l.place.base l.place.len)))
  pub refused : (code : Code) → answer_to s m ≡ Err code
      → Contains pieces (Traced (line_bytes s.kernel.clock (Refused m.number code)))

-- of these modules, which are loaded one after the other from a state on until one is not refused,
-- this one comes to be loaded, and then in this state
pub data ComesToLoad : List Module → Iop → Module → Iop → Type 0 where
  first : {m : Module} {rest : List Module} {s : Iop} → ComesToLoad (m ∷ rest) s m s
  behind : {m other : Module} {rest : List Module} {s t : Iop} (code : Code)
      → answer_to s m ≡ Err code
      → ComesToLoad rest (places s (loading_of s m)).state other t
      → ComesToLoad (m ∷ rest) s other t

-- of those that are left in a state
abbrev pub ComesNext : Iop → Module → Iop → Type 0
ComesNext s m t = ComesToLoad (modules_of s.modules) s m t

-- what a call of a code leaves
abbrev pub served_by : Iop → (code : ℕ) → Served
served_by s code = services (calling s) code

-- by it a module has returned a value, and is kept or removed
abbrev pub behind_end : Iop → (code : ℕ) → BegunModule → (value : ℕ) → Iop
behind_end s code ended value =
    let v = (serves s (served_by s code)).state in
    (leaves v (finishes v.kernel.clock v.memory v.blocks v.libraries ended.number ended.place
    value)).state

-- in the next step this module comes to be loaded, in this state of the core
pub data LoadsIn (w : World) : Module → Iop → Type 0 where
  -- the first step, which boots, loads those of the command from the first one on
  booting : {m : Module} {t : Iop} → turn_of w ≡ Boots
      → ComesNext (with_kernel w.iop) m t → LoadsIn w m t
  -- one in which a module returns loads those that are left
  returning : {m : Module} {t : Iop} (code value : ℕ) (ended : BegunModule)
      → turn_of w ≡ Executes (Serves code)
      → (served_by (takes_events w.iop) code).left.after ≡ ModuleReturned value
      → w.iop.begun ≡ Some ended
      → ComesNext (behind_end (takes_events w.iop) code ended value) m t
      → LoadsIn w m t

-- a stub is bound in the next step: by the loading of a module
pub record IsBoundIn (w : World) (stub : Stub) : Type 0 where
  pub m : Module
  pub s : Iop
  pub loads : LoadsIn w m s
  pub binds : BindsStub s m stub

-- what the next step leaves of the modules that are not loaded yet
pub record LeavesModules (w : World) : Type 0 where
  -- all, where none comes to be loaded
  pub stay : ((m : Module) (s : Iop) → ¬ LoadsIn w m s)
      → (step w).state.iop.modules ≡ w.iop.modules
  -- those behind the one that is loaded
  pub left : (m : Module) (s : Iop) (l : Loaded) → LoadsIn w m s → answer_to s m ≡ Ok l
      → (before : List Module)
      × (modules_of w.iop.modules ≡ before ++ m ∷ modules_of (step w).state.iop.modules)
  -- none, where each that comes to be loaded is refused
  pub none : (m : Module) (s : Iop) → LoadsIn w m s
      → ((other : Module) (t : Iop) → LoadsIn w other t → is_err (answer_to t other) ≡ true)
      → modules_of (step w).state.iop.modules ≡ []
