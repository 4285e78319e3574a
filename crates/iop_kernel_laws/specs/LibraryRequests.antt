-- What the law of libraries' requests says: what services of loadcore, sysmem, stdio and sysclib do,
-- and the returns of modules and threads: with which of their words, and what they answer.
use Rattle.std.specs.Prelude.{◌≡◌, ◌/◌, ℕ, true, false, Some, None, List, [], ◌∷◌, length}
use Rattle.iop_base.specs.Piece.{Told}
use Rattle.iop_base.specs.Places.{phys}
use Rattle.iop_base.specs.declared.guest_fault.GuestFault.TheVariants.{Address}
use Rattle.iop_base.specs.declared.code.TheConstants.Code.{BAD_TABLE, LIBRARY_NOT_FOUND, LIBRARY_IN_USE}
use Rattle.iop_exec.specs.Row.{reg}
use Rattle.iop_libs.specs.Calls.{table_place, is_bound}
use Rattle.iop_printf.specs.Formatting.{format_text}
use Rattle.iop_registry.specs.Entries.{register, release, library_of}
use Rattle.iop_registry.specs.declared.registry.Entry.{Entry}
use Rattle.iop_services.specs.declared.loadcore_service.LoadcoreService.TheVariants.{FlushIcache, FlushDcache, RegisterLibraryEntries, ReleaseLibraryEntries}
use Rattle.iop_services.specs.declared.service.Service.{Service}
use Rattle.iop_services.specs.declared.service.Service.TheVariants.{Loadcore, Sysmem, Stdio, Sysclib}
use Rattle.iop_services.specs.declared.stdio_service.StdioService.TheVariants.{Printf}
use Rattle.iop_services.specs.declared.sysclib_service.SysclibService.{SysclibService}
use Rattle.iop_services.specs.declared.sysmem_service.SysmemService.TheVariants.{AllocSysMemory, FreeSysMemory, QueryMemSize, QueryMaxFreeMemSize, QueryTotalFreeMemSize, QueryBlockTopAddress, QueryBlockSize, Kprintf}
use Rattle.iop_stubs.specs.Stubs.{range_place}
use Rattle.iop_sysclib.specs.Calls.{serves_sysclib}
use Rattle.iop_sysclib.specs.Outcomes.{Outcome, Write}
use Rattle.iop_sysmem.specs.Allocating.{allocating, most_free, free_bytes}
use Rattle.iop_sysmem.specs.BlockMap.{BlockMap, freeing, holder}
use Rattle.iop_sysmem.specs.declared.block.Block.{Block}
use Rattle.iop_sysmem.specs.declared.blocks.TheConstants.{NOWHERE}
use Rattle.iop_thread.specs.declared.thread.TheConstants.{LOADER}
use Rattle.irx_tables.specs.Exports.{header_of}
use Rattle.iop_kernel.specs.Serving.{serves, calls}
use Rattle.iop_kernel.specs.System.{System, argument, caller, code_word, opened, resumes, faults, silent, on_core, stores, storing_lines}
use Rattle.iop_kernel.specs.declared.after.After.TheVariants.{ModuleReturned}
use Rattle.iop_kernel.specs.declared.call.Call.TheVariants.{ThreadReturn, ModuleReturn}

module _ (s : System) where
  abbrev pub first : ℕ
  first = argument s.core 0

  -- a service answers a word, and leaves these blocks
  abbrev pub LeavesBlocks : Service → ℕ × BlockMap → Type 0
  LeavesBlocks service done =
      serves s service ≡ silent (on_core (record s { blocks = done.1 }) (resumes s.core done.0))

  -- it answers a word, and leaves these libraries
  abbrev pub LeavesLibraries : Service → ℕ × List Entry → Type 0
  LeavesLibraries service done =
      serves s service ≡ silent (on_core (record s { libraries = done.1 }) (resumes s.core done.0))

  -- it answers a word, and nothing changes
  abbrev pub OnlyAnswers : Service → ℕ → Type 0
  OnlyAnswers service word = serves s service ≡ silent (on_core s (resumes s.core word))

  -- it prints the text of a format with the words behind it, and answers its length
  abbrev pub printed : List ℕ
  printed =
      let words = argument s.core 1 ∷ argument s.core 2 ∷ argument s.core 3 ∷ [] in
      format_text s.memory.ram first words (reg s.core.cpu 29)

  abbrev pub Prints : Service → Type 0
  Prints service =
      serves s service ≡ record {
        left = on_core s (resumes s.core (length printed));
        pieces = Told printed ∷ [];
      }

  -- it answers a word, and bytes are stored at an address at the moment of the call
  abbrev pub StoresAndAnswers : Service → ℕ → Write → Type 0
  StoresAndAnswers service word write =
      let place = range_place s.memory write.at (length write.bytes) in
      serves s service ≡ record {
        left = on_core (stores s place write.bytes) (resumes s.core word);
        pieces = storing_lines s place write.bytes;
      }

  pub record ServesLibraries : Type 0 where
    -- AllocSysMemory: by a mode, a size and an address, in this order
    pub alloc : LeavesBlocks (Sysmem AllocSysMemory)
        (allocating s.blocks first (argument s.core 1) (argument s.core 2))
    -- FreeSysMemory: of the block at an address
    pub free : let done = freeing s.blocks first in
        LeavesBlocks (Sysmem FreeSysMemory) (code_word done.0, done.1)
    -- what is asked of memory, and of the block that holds an address
    pub size : OnlyAnswers (Sysmem QueryMemSize) s.blocks.size
    pub most : OnlyAnswers (Sysmem QueryMaxFreeMemSize) (most_free s.blocks)
    pub total : OnlyAnswers (Sysmem QueryTotalFreeMemSize) (free_bytes s.blocks)
    pub block : (block : Block) → holder s.blocks first ≡ Some block
        → OnlyAnswers (Sysmem QueryBlockTopAddress) block.start
        × OnlyAnswers (Sysmem QueryBlockSize) block.size
    pub no_block : holder s.blocks first ≡ None
        → OnlyAnswers (Sysmem QueryBlockTopAddress) NOWHERE
        × OnlyAnswers (Sysmem QueryBlockSize) NOWHERE
    -- RegisterLibraryEntries: the library of the export table at an address, by its header
    pub register : (place version : ℕ) (name : List ℕ)
        → table_place s.memory.ram first ≡ Some place
        → header_of s.memory.ram place ≡ Some (name, version)
        → let done = register s.libraries name (version / 256) place in
        LeavesLibraries (Loadcore RegisterLibraryEntries) (code_word done.0, done.1)
    pub register_none : (place : ℕ) → table_place s.memory.ram first ≡ Some place
        → header_of s.memory.ram place ≡ None
        → OnlyAnswers (Loadcore RegisterLibraryEntries) (code_word BAD_TABLE)
    -- ReleaseLibraryEntries: the library of the table at an address, unless a live stub is bound to
    -- it
    pub release : (place major : ℕ) (name : List ℕ)
        → phys (length s.memory.ram) first ≡ Some place
        → library_of s.libraries place ≡ Some (name, major)
        → is_bound s.memory name major ≡ false → let done = release s.libraries place in
        LeavesLibraries (Loadcore ReleaseLibraryEntries) (code_word done.0, done.1)
    pub release_bound : (place major : ℕ) (name : List ℕ)
        → phys (length s.memory.ram) first ≡ Some place
        → library_of s.libraries place ≡ Some (name, major)
        → is_bound s.memory name major ≡ true
        → OnlyAnswers (Loadcore ReleaseLibraryEntries) (code_word LIBRARY_IN_USE)
    pub release_none : (place : ℕ) → phys (length s.memory.ram) first ≡ Some place
        → library_of s.libraries place ≡ None
        → OnlyAnswers (Loadcore ReleaseLibraryEntries) (code_word LIBRARY_NOT_FOUND)
    -- FlushIcache and FlushDcache
    pub flush : OnlyAnswers (Loadcore FlushIcache) 0 × OnlyAnswers (Loadcore FlushDcache) 0
    -- printf of stdio, and Kprintf
    pub print : Prints (Stdio Printf)
    pub kernel_print : Prints (Sysmem Kprintf)
    -- each service of sysclib: by its outcome, and where it has none
    pub sysclib_reads : (x : SysclibService) (outcome : Outcome)
        → serves_sysclib s.memory.ram s.core.cpu x ≡ Some outcome → outcome.write ≡ None
        → OnlyAnswers (Sysclib x) outcome.answer
    pub sysclib_writes : (x : SysclibService) (outcome : Outcome) (write : Write)
        → serves_sysclib s.memory.ram s.core.cpu x ≡ Some outcome → outcome.write ≡ Some write
        → StoresAndAnswers (Sysclib x) outcome.answer write
    pub sysclib_faults : (x : SysclibService)
        → serves_sysclib s.memory.ram s.core.cpu x ≡ None
        → serves s (Sysclib x) ≡ silent (faults s Address)
    -- a module returns what stands in `$v0`, and where its thread returns, 0
    pub module_return : caller s.core ≡ Some LOADER
        → calls s (Some ModuleReturn)
        ≡ silent
        (on_core s (record { state = opened s.core; after = ModuleReturned (reg s.core.cpu 2) }))
    pub thread_return : caller s.core ≡ Some LOADER
        → calls s (Some ThreadReturn)
        ≡ silent (on_core s (record { state = opened s.core; after = ModuleReturned 0 }))

-- each of them by its service
abbrev pub LibraryRequestsAreServed : Type 0
LibraryRequestsAreServed = (s : System) → ServesLibraries s
