-- The registered libraries stay a registry whose tables have their headers in RAM, whatever is
-- served, and where a module ends.
use Rattle.std.proofs.Common.{◌≡◌, ◌≢◌, ℕ, suc, ◌+◌, ◌%◌, ◌/◌, ◌<◌, ◌≤◌, ◌==◌, nat_le, nat_lt, ◌&&◌, Bool, true, false, cond, not, Option, Some, None, is_some, Result, Ok, Err, List, [], take, drop, length, refl, sym, subst, arith}
use Rattle.std.specs.Prelude.{All, option_and_then, find, position, remove}
use Rattle.std.proofs.lemmas.Bool.{cond_both, leb-true, ltb-true}
use Rattle.std.proofs.lemmas.Bool.Decides.{nat_tests}
use Rattle.std.proofs.lemmas.List.Edits.{length-remove}
use Rattle.std.proofs.lemmas.List.Elements.{All-append, All-drop, All-filter, All-push, All-take}
use Rattle.std.proofs.lemmas.List.Quantifiers.{all_pairs_remove, position-Some}
use Rattle.iop_base.specs.Keeping.{kept_of}
use Rattle.iop_base.specs.Places.{phys, range_at, is_mapped}
use Rattle.iop_base.specs.declared.code.Code.{Code}
use Rattle.iop_base.specs.declared.code.TheConstants.Code.{LIBRARY_FOUND, LIBRARY_IN_USE, NO_MEMORY}
use Rattle.iop_base.specs.declared.guest_fault.GuestFault.{GuestFault}
use Rattle.iop_base.specs.declared.kept.Kept.{Kept}
use Rattle.iop_base.specs.declared.kept.Kept.TheVariants.{Resident, Removed, Removable}
use Rattle.iop_kernel.specs.Serving.{sight, answers_or_faults, serves, calls_row, calls_library, services}
use Rattle.iop_kernel.specs.System.{System, Served, in_handler}
use Rattle.iop_kernel_laws.proofs.Codes.Libraries.{serves_apart}
use Rattle.iop_libs.specs.Calls.{argument, table_place, registers_header, registers_at, is_bound, releases_library, releases_at, serves_loadcore}
use Rattle.iop_modload.specs.Finishing.{has_block, keeps, removes, stays, finishes}
use Rattle.iop_modload.specs.declared.image_place.ImagePlace.{ImagePlace}
use Rattle.iop_base.specs.BlockSizes.{block_len}
use Rattle.iop_registry.specs.Entries.{is_library, has_table, lies_in, register, release, release_at, library_of, IsTable, IsRegistry}
use Rattle.iop_registry.specs.declared.registry.Entry.{Entry}
use Rattle.iop_registry.specs.declared.registry.TheConstants.{MOST_LIBRARIES}
use Rattle.iop_registry.proofs.Keeping.{one_more, without_range}
use Rattle.iop_resumable.proofs.Calls.{any_call}
use Rattle.iop_services.proofs.Rows.{home}
use Rattle.iop_services.specs.Table.{row_of, allows}
use Rattle.iop_services.specs.declared.codes.TheConstants.{LOADCORE}
use Rattle.iop_services.specs.declared.loadcore_service.LoadcoreService.{LoadcoreService}
use Rattle.iop_services.specs.declared.loadcore_service.LoadcoreService.TheVariants.{FlushIcache, FlushDcache, RegisterLibraryEntries, ReleaseLibraryEntries}
use Rattle.iop_services.specs.declared.row.Row.{Row}
use Rattle.iop_services.specs.declared.service.Service.{Service}
use Rattle.iop_services.specs.declared.service.Service.TheVariants.{Loadcore, Sysmem, Intrman, Thbase, Thsemap, Thevent, Thmsgbx, Stdio, Thvpool, Thfpool, Sysclib}
use Rattle.iop_stubs.specs.Stubs.{Memory}
use Rattle.irx_tables.specs.declared.words.TheConstants.{HEADER_BYTES}
use Rattle.iop_sysmem.specs.BlockMap.{BlockMap}

-- a registry, in a RAM of so many bytes
pub record AreRegistered (size : ℕ) (entries : List Entry) : Type 0 where
  pub registry : IsRegistry entries
  pub headers : All (λ entry. entry.table + HEADER_BYTES ≤ size) entries

-- the place of a table whose header has so many bytes
abbrev IsTableOf : (size len place : ℕ) → Type 0
IsTableOf size len place = IsTable place × (place + len ≤ size)

-- an address that is a multiple of 4 has its table at one
place_of_table : (size at len place : ℕ) → at % 4 ≡ 0
    → range_at size at len ≡ Some place
    → IsTableOf size len place
place_of_table size at len place aligned is =
    by (is_mapped (at / 0x20000000) && nat_lt (at % 0x20000000) size) is
  where
    inside : (b : Bool) → nat_le (at % 0x20000000 + len) size ≡ b
        → cond b (Some (at % 0x20000000)) None ≡ Some place
        → (place ≡ at % 0x20000000) × (at % 0x20000000 + len ≤ size)
    inside true fits is = (cc is, leb-true _ _ fits)
    inside false fits is = absurd (cc is)

    by : (b : Bool)
        → option_and_then (λ p. cond (nat_le (p + len) size) (Some p) None)
        (cond b (Some (at % 0x20000000)) None) ≡ Some place → IsTableOf size len place
    by true is =
        let found = inside (nat_le (at % 0x20000000 + len) size) refl is in
        let same = found.0 in
        ((omega (arith, same), omega (arith, same, aligned)), omega (arith, same, found.1))
    by false is = absurd (cc is)

table_is : (ram : List ℕ) (at place : ℕ) → table_place ram at ≡ Some place
    → IsTableOf (length ram) HEADER_BYTES place
table_is ram at place is = by (at % 4 == 0) refl is
  where
    by : (b : Bool) → (at % 4 == 0) ≡ b
        → cond b (range_at (length ram) at HEADER_BYTES) None ≡ Some place
        → IsTableOf (length ram) HEADER_BYTES place
    by true aligned is =
        place_of_table (length ram) at HEADER_BYTES place (grind (arith, nat_tests, aligned)) is
    by false other is = absurd (cc is)

abbrev no_entry : Entry
no_entry = record { name = []; major = 0; table = 0 }

module _ (size : ℕ) (libraries : List Entry) (h : AreRegistered size libraries) where
  abbrev Is : List Entry → Type 0
  Is = AreRegistered size

  abbrev HasHeader : Entry → Type 0
  HasHeader entry = entry.table + HEADER_BYTES ≤ size

  abbrev IsTableIn : ℕ → Type 0
  IsTableIn = IsTableOf size HEADER_BYTES

  -- a library is registered, if none has its name and major version and there is room
  registered : (name : List ℕ) (major table : ℕ) → IsTableIn table
      → Is (register libraries name major table).1
  registered name major table place =
      cond_both (is_some (find (is_library name major) libraries)) (LIBRARY_FOUND, libraries) _
      (λ (r : Code × List Entry). Is r.1) (λ found. h)
      (λ none. cond_both (nat_lt (length libraries) MOST_LIBRARIES) _ (NO_MEMORY, libraries)
      (λ (r : Code × List Entry). Is r.1)
      (λ room. record {
        registry = one_more libraries _ h.registry place.0 none (ltb-true _ _ room);
        headers = All-push HasHeader libraries _ h.headers place.1;
      }) (λ full. h))

  header_registered : (place : ℕ) → IsTableIn place → (header : Option (List ℕ × ℕ))
      → Is (registers_header libraries place header).1
  header_registered place is None = h
  header_registered place is (Some (name, version)) = registered name (version / 256) place is

  place_registered : (ram : List ℕ) (o : Option ℕ)
      → ((place : ℕ) → o ≡ Some place → IsTableIn place)
      → Is (registers_at ram libraries o).1
  place_registered ram None is = h
  place_registered ram (Some place) is = header_registered place (is place refl) _

  -- one is taken out
  without : (i : ℕ) (P : Entry → Type 0) → All P libraries → All P (remove libraries i)
  without i P all =
      All-append P (take i libraries) (drop (suc i) libraries) (All-take P i libraries all)
      (All-drop P (suc i) libraries all)

  one_out : (o : Option ℕ) → ((i : ℕ) → o ≡ Some i → i < length libraries)
      → Is (release_at libraries o).1
  one_out None below = h
  one_out (Some i) below =
      let inside = below i refl in
      record {
        registry = record {
          few = omega (arith, length-remove libraries i inside, h.registry.few);
          tables = without i (λ e. IsTable e.table) h.registry.tables;
          distinct = all_pairs_remove
              (λ first second. is_library second.name second.major first ≡ false) libraries i
              inside h.registry.distinct;
        };
        headers = without i HasHeader h.headers;
      }

  released : (table : ℕ) → Is (release libraries table).1
  released table =
      one_out (position (has_table table) libraries)
      (λ i is. (position-Some (has_table table) libraries i no_entry is).0)

  library_released : (m : Memory) (place : ℕ) (o : Option (List ℕ × ℕ))
      → Is (releases_library m libraries place o).1
  library_released m place None = h
  library_released m place (Some (name, major)) =
      cond_both (is_bound m name major) (LIBRARY_IN_USE, libraries) _
      (λ (r : Code × List Entry). Is r.1) (λ bound. h) (λ free. released place)

  place_released : (m : Memory) (o : Option ℕ) → Is (releases_at m libraries o).1
  place_released m None = h
  place_released m (Some place) = library_released m place (library_of libraries place)

  -- where a module ends, those are dropped whose tables lie in its block, if it is removed
  ends_by : (t : ℕ) (memory : Memory) (blocks : BlockMap) (place : ImagePlace) (kept : Kept)
      → Is (keeps t memory blocks libraries place kept).libraries
  ends_by t memory blocks place Resident = h
  ends_by t memory blocks place Removable = h
  ends_by t memory blocks place Removed =
      let len = block_len place.len in
      cond_both (has_block blocks place.base len)
      (removes t memory blocks libraries place.base len) (stays t memory blocks libraries)
      (λ left. Is left.libraries)
      (λ has. record {
        registry = without_range libraries place.base len h.registry;
        headers = All-filter (λ entry. not (lies_in place.base len entry)) HasHeader libraries
            h.headers;
      }) (λ none. h)

  pub ended_registry : (t : ℕ) (memory : Memory) (blocks : BlockMap) (k : ℕ) (place : ImagePlace)
      (value : ℕ) → Is (finishes t memory blocks libraries k place value).libraries
  unfolding finishes
  ended_registry t memory blocks k place value = ends_by t memory blocks place (kept_of value)

module _ (s : System) (h : AreRegistered (length s.memory.ram) s.libraries) where
  abbrev size : ℕ
  size = length s.memory.ram

  abbrev IsLeft : Served → Type 0
  IsLeft d = AreRegistered size d.left.state.libraries

  -- a service of loadcore
  loadcore_leaves : (x : LoadcoreService)
      → AreRegistered size (serves_loadcore (sight s) s.libraries x).1
  loadcore_leaves FlushIcache = h
  loadcore_leaves FlushDcache = h
  loadcore_leaves RegisterLibraryEntries =
      let at = argument (sight s) 0 in
      place_registered size s.libraries h s.memory.ram (table_place s.memory.ram at)
      (λ place is. table_is s.memory.ram at place is)
  loadcore_leaves ReleaseLibraryEntries =
      place_released size s.libraries h s.memory (phys (length s.memory.ram) (argument (sight s) 0))

  answered : (libraries : List Entry) → AreRegistered size libraries → (r : Result ℕ GuestFault)
      → AreRegistered size
      (answers_or_faults (record s { libraries = libraries }) r).state.libraries
  answered libraries is (Ok word) = is
  answered libraries is (Err kind) = is

  -- one of another library leaves them
  others_leave : (x : Service) → home x ≢ LOADCORE → IsLeft (serves s x)
  others_leave x other = subst (AreRegistered size) (sym ((serves_apart s x).libraries other)) h

  serves_registry : (x : Service) → IsLeft (serves s x)
  unfolding serves
  serves_registry (Loadcore x) = answered _ (loadcore_leaves x) _
  serves_registry (Sysmem x) = others_leave (Sysmem x) (λ is. cc is)
  serves_registry (Intrman x) = others_leave (Intrman x) (λ is. cc is)
  serves_registry (Thbase x) = others_leave (Thbase x) (λ is. cc is)
  serves_registry (Thsemap x) = others_leave (Thsemap x) (λ is. cc is)
  serves_registry (Thevent x) = others_leave (Thevent x) (λ is. cc is)
  serves_registry (Thmsgbx x) = others_leave (Thmsgbx x) (λ is. cc is)
  serves_registry (Stdio x) = others_leave (Stdio x) (λ is. cc is)
  serves_registry (Thvpool x) = others_leave (Thvpool x) (λ is. cc is)
  serves_registry (Thfpool x) = others_leave (Thfpool x) (λ is. cc is)
  serves_registry (Sysclib x) = others_leave (Sysclib x) (λ is. cc is)

  row_registry : (library number : ℕ) (o : Option Row) → IsLeft (calls_row library number s o)
  row_registry library number None = h
  row_registry library number (Some row) =
      cond_both (allows row.context (in_handler s.core.kernel)) _ _ IsLeft
      (λ allowed. serves_registry row.service) (λ elsewhere. h)

  library_registry : (library number : ℕ) → IsLeft (calls_library library number s)
  unfolding calls_library
  library_registry library number = row_registry library number (row_of library number)

  -- a `syscall` of any code
  pub services_registry : (code : ℕ) → IsLeft (services s code)
  services_registry =
      any_call IsLeft s (record {
        thread = h;
        handler = h;
        returns = h;
        library = library_registry;
        none = h;
      })
