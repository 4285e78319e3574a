-- What the services of loadcore, sysmem and stdio do (ps2sdk's loadcore.h, sysmem.h, stdio.h; the codes
-- are those of its kerr.h). The order of refusals and the answers of the queries for memory are this
-- project's own profile.
use Rattle.std.specs.Prelude.{ℕ, ◌+◌, ◌/◌, ◌%◌, ◌==◌, Bool, if◌then◌else◌, is_some, Option, Some, None, option_map, unwrap_or, Result, Ok, Err, List, [], ◌∷◌, length, find}
use Rattle.std.specs.Int.{cast_unsigned, w32}
use Rattle.iop_base.specs.Piece.{Piece, Told}
use Rattle.iop_base.specs.Places.{phys, range_at}
use Rattle.iop_base.specs.declared.code.Code.{Code}
use Rattle.iop_base.specs.declared.code.TheConstants.Code.{BAD_TABLE, LIBRARY_NOT_FOUND, LIBRARY_IN_USE}
use Rattle.iop_base.specs.declared.guest_fault.GuestFault.{GuestFault}
use Rattle.iop_base.specs.declared.guest_fault.GuestFault.TheVariants.{Address}
use Rattle.iop_exec.specs.declared.cpu.Cpu.{Cpu}
use Rattle.iop_exec.specs.Row.{reg}
use Rattle.irx_tables.specs.Exports.{header_of}
use Rattle.irx_tables.specs.declared.words.TheConstants.{HEADER_BYTES}
use Rattle.iop_registry.specs.declared.registry.Entry.{Entry}
use Rattle.iop_registry.specs.Entries.{register, release, library_of}
use Rattle.iop_sysmem.specs.BlockMap.{BlockMap, freeing, holder}
use Rattle.iop_sysmem.specs.Allocating.{allocating, most_free, free_bytes}
use Rattle.iop_sysmem.specs.declared.blocks.TheConstants.{NOWHERE}
use Rattle.iop_stubs.specs.Stubs.{Memory, is_of}
use Rattle.iop_services.specs.declared.loadcore_service.LoadcoreService.{LoadcoreService}
use Rattle.iop_services.specs.declared.loadcore_service.LoadcoreService.TheVariants.{FlushIcache, FlushDcache, RegisterLibraryEntries, ReleaseLibraryEntries}
use Rattle.iop_services.specs.declared.stdio_service.StdioService.{StdioService}
use Rattle.iop_services.specs.declared.stdio_service.StdioService.TheVariants.{Printf}
use Rattle.iop_services.specs.declared.sysmem_service.SysmemService.{SysmemService}
use Rattle.iop_services.specs.declared.sysmem_service.SysmemService.TheVariants.{AllocSysMemory, FreeSysMemory, QueryMemSize, QueryMaxFreeMemSize, QueryTotalFreeMemSize, QueryBlockTopAddress, QueryBlockSize, Kprintf}
use Rattle.iop_libs.specs.declared.stdio.TheConstants.{STACK_POINTER}
use Rattle.iop_printf.specs.Formatting.{format_text}

-- what services look at and do not change
pub record Sight : Type 0 where
  pub memory : Memory
  pub cpu : Cpu

-- the first arguments of a call, from 0 on
abbrev pub argument : Sight → ℕ → ℕ
argument s k = reg s.cpu (4 + k)

-- the word of a code
abbrev pub code_word : Code → ℕ
code_word code = cast_unsigned w32 code.0

-- the place of an export table: an address that is a multiple of 4, with its header in RAM
abbrev pub table_place : List ℕ → ℕ → Option ℕ
table_place ram at = if at % 4 == 0 then range_at (length ram) at HEADER_BYTES else None

-- a library is registered by the header of its table
abbrev pub registers_header : List Entry → ℕ → Option (List ℕ × ℕ) → ℕ × List Entry
registers_header libraries place None = (code_word BAD_TABLE, libraries)
registers_header libraries place (Some (name, version)) =
    let registered = register libraries name (version / 256) place in
    (code_word registered.0, registered.1)

abbrev pub registers_at : List ℕ → List Entry → Option ℕ → Result ℕ GuestFault × List Entry
registers_at ram libraries None = (Err Address, libraries)
registers_at ram libraries (Some place) =
    let registered = registers_header libraries place (header_of ram place) in
    (Ok registered.0, registered.1)

-- what to register the library of a table answers, and the libraries that it leaves
abbrev pub registers : List ℕ → List Entry → ℕ → Result ℕ GuestFault × List Entry
registers ram libraries at = registers_at ram libraries (table_place ram at)

-- whether a live stub is bound to a library
abbrev pub is_bound : Memory → List ℕ → ℕ → Bool
is_bound m name major = is_some (find (is_of name major) m.live)

abbrev pub releases_library : Memory → List Entry → ℕ → Option (List ℕ × ℕ) → Code × List Entry
releases_library m libraries place None = (LIBRARY_NOT_FOUND, libraries)
releases_library m libraries place (Some (name, major)) =
    if is_bound m name major then (LIBRARY_IN_USE, libraries) else release libraries place

abbrev pub releases_at : Memory → List Entry → Option ℕ → Code × List Entry
releases_at m libraries None = (LIBRARY_NOT_FOUND, libraries)
releases_at m libraries (Some place) =
    releases_library m libraries place (library_of libraries place)

-- what to release the library of a table answers, and the libraries that it leaves
abbrev pub releases : Memory → List Entry → ℕ → Code × List Entry
releases m libraries at = releases_at m libraries (phys (length m.ram) at)

-- the text that a call prints: that of the format of the first argument, with those behind it
abbrev pub text_of : Sight → List ℕ
text_of s = format_text s.memory.ram (argument s 0) (argument s 1 ∷ argument s 2 ∷ argument s 3 ∷ [])
    (reg s.cpu STACK_POINTER)

module _ (s : Sight) where
  -- what a service of loadcore answers, and the libraries that it leaves
  abbrev pub serves_loadcore : List Entry → LoadcoreService → Result ℕ GuestFault × List Entry
  serves_loadcore libraries FlushIcache = (Ok 0, libraries)
  serves_loadcore libraries FlushDcache = (Ok 0, libraries)
  serves_loadcore libraries RegisterLibraryEntries =
      registers s.memory.ram libraries (argument s 0)
  serves_loadcore libraries ReleaseLibraryEntries =
      let done = releases s.memory libraries (argument s 0) in (Ok (code_word done.0), done.1)

  -- what a service of sysmem answers, and the blocks that it leaves
  abbrev pub serves_sysmem : BlockMap → SysmemService → ℕ × BlockMap
  serves_sysmem blocks AllocSysMemory =
      allocating blocks (argument s 0) (argument s 1) (argument s 2)
  serves_sysmem blocks FreeSysMemory =
      let done = freeing blocks (argument s 0) in (code_word done.0, done.1)
  serves_sysmem blocks QueryMemSize = (blocks.size, blocks)
  serves_sysmem blocks QueryMaxFreeMemSize = (most_free blocks, blocks)
  serves_sysmem blocks QueryTotalFreeMemSize = (free_bytes blocks, blocks)
  serves_sysmem blocks QueryBlockTopAddress =
      let block = holder blocks (argument s 0) in
      (unwrap_or (option_map (λ block. block.start) block) NOWHERE, blocks)
  serves_sysmem blocks QueryBlockSize =
      let block = holder blocks (argument s 0) in
      (unwrap_or (option_map (λ block. block.size) block) NOWHERE, blocks)
  serves_sysmem blocks Kprintf = (length (text_of s), blocks)

  -- what it gives to the console
  abbrev pub sysmem_pieces : SysmemService → List Piece
  sysmem_pieces Kprintf = Told (text_of s) ∷ []
  sysmem_pieces other = []

  -- what a service of stdio answers
  abbrev pub serves_stdio : StdioService → ℕ
  serves_stdio Printf = length (text_of s)

  -- what it gives to the console
  abbrev pub stdio_pieces : StdioService → List Piece
  stdio_pieces Printf = Told (text_of s) ∷ []
