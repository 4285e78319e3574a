-- What a `syscall` asks of the kernel. The codes are this project's own profile.
use Rattle.std.specs.Prelude.{ℕ, ◌/◌, ◌%◌, ◌==◌, nat_lt, ◌&&◌, if◌then◌else◌, Option, Some, None, Result, Ok, Err, [], ◌∷◌, length}
use Rattle.iop_base.specs.Piece.{Traced}
use Rattle.iop_base.specs.Text.{line_bytes}
use Rattle.iop_base.specs.declared.code.TheConstants.Code.{ILLEGAL_CONTEXT}
use Rattle.iop_base.specs.declared.libraries.TheConstants.{KERNEL_LIBRARIES}
use Rattle.iop_base.specs.declared.guest_fault.GuestFault.{GuestFault}
use Rattle.iop_base.specs.declared.guest_fault.GuestFault.TheVariants as faults_of
use Rattle.iop_base.specs.declared.line.Line.TheVariants as lines
use Rattle.iop_libs.specs.Calls.{Sight, sysmem_pieces, stdio_pieces}
use Rattle.iop_libs.specs.Calls as libs
use Rattle.iop_services.specs.Table.{row_of, allows}
use Rattle.iop_services.specs.declared.codes.TheConstants.{LIBRARY_CODES, SERVICES}
use Rattle.iop_services.specs.declared.loadcore_service.LoadcoreService.{LoadcoreService}
use Rattle.iop_services.specs.declared.row.Row.{Row}
use Rattle.iop_services.specs.declared.service.Service.{Service}
use Rattle.iop_services.specs.declared.service.Service.TheVariants.{Loadcore, Sysmem, Intrman, Thbase, Thsemap, Thevent, Thmsgbx, Stdio, Thvpool, Thfpool, Sysclib}
use Rattle.iop_services.specs.declared.stdio_service.StdioService.{StdioService}
use Rattle.iop_services.specs.declared.sysclib_service.SysclibService.{SysclibService}
use Rattle.iop_services.specs.declared.sysmem_service.SysmemService.{SysmemService}
use Rattle.iop_sysclib.specs.Calls as sysclib
use Rattle.iop_sysclib.specs.Outcomes.{Outcome, result_of, write_of, after_write, write_lines}
use Rattle.iop_kernel.specs.Boards.{board_of, on_board}
use Rattle.iop_kernel.specs.EventFlags.{serves_thevent}
use Rattle.iop_kernel.specs.FixedPools.{serves_thfpool}
use Rattle.iop_kernel.specs.Handlers.{return_handler}
use Rattle.iop_kernel.specs.Interrupts.{serves_intrman}
use Rattle.iop_kernel.specs.Mailboxes.{serves_thmsgbx}
use Rattle.iop_kernel.specs.Semaphores.{serves_thsemap}
use Rattle.iop_kernel.specs.System.{Left, System, Served, in_handler, resumes, answers, faults, silent, on_core}
use Rattle.iop_kernel.specs.Thbase.{serves_thbase}
use Rattle.iop_kernel.specs.ThreadStarts.{exit_thread, return_module}
use Rattle.iop_kernel.specs.VariablePools.{serves_thvpool}
use Rattle.iop_kernel.specs.declared.call.Call.{Call}
use Rattle.iop_kernel.specs.declared.call.Call.TheVariants.{Library, ThreadReturn, HandlerReturn, ModuleReturn}
use Rattle.iop_kernel.specs.declared.call.TheConstants.{THREAD_RETURN_CALL, HANDLER_RETURN_CALL, MODULE_RETURN_CALL}

-- what a code calls, if it has a meaning: the codes of a library's services begin at its number
-- times LIBRARY_CODES
abbrev pub call_of : ℕ → Option Call
call_of code =
    let library = code / LIBRARY_CODES in
    let number = code % LIBRARY_CODES in
    if code == THREAD_RETURN_CALL then Some ThreadReturn
    else if code == HANDLER_RETURN_CALL then Some HandlerReturn
    else if code == MODULE_RETURN_CALL then Some ModuleReturn
    else if nat_lt library (length KERNEL_LIBRARIES) && nat_lt number SERVICES
    then Some (Library library number)
    else None

module _ (s : System) where
  -- what the services of loadcore, sysmem and stdio look at
  abbrev pub sight : Sight
  sight = record { memory = s.memory; cpu = s.core.cpu }

  -- the caller goes on with a word, or the `syscall` faults
  abbrev pub answers_or_faults : Result ℕ GuestFault → Left System
  answers_or_faults (Ok word) = on_core s (resumes s.core word)
  answers_or_faults (Err kind) = faults s kind

-- a service of loadcore; what those of this library, of sysmem and of stdio do is told by iop_libs,
-- so that here each is one case
abbrev pub serves_loadcore : System → LoadcoreService → Served
serves_loadcore s x =
    let done = libs.serves_loadcore (sight s) s.libraries x in
    silent (answers_or_faults (record s { libraries = done.1 }) done.0)

-- a service of sysmem
abbrev pub serves_sysmem : System → SysmemService → Served
serves_sysmem s x =
    let done = libs.serves_sysmem (sight s) s.blocks x in record {
      left = on_core (record s { blocks = done.1 }) (resumes s.core done.0);
      pieces = sysmem_pieces (sight s) x;
    }

-- a service of stdio
abbrev pub serves_stdio : System → StdioService → Served
serves_stdio s x = record {
  left = on_core s (resumes s.core (libs.serves_stdio (sight s) x));
  pieces = stdio_pieces (sight s) x;
}

-- what an outcome of sysclib leaves and gives: what it writes is stored, and its answer answered
abbrev pub serves_outcome : System → Option Outcome → Served
serves_outcome s outcome =
    let write = write_of outcome in record {
      left =
          answers_or_faults (record s { memory = after_write s.memory write }) (result_of outcome);
      pieces = write_lines s.core.kernel.clock s.memory write;
    }

-- a service of sysclib; its outcome is told by iop_sysclib
abbrev pub serves_sysclib : System → SysclibService → Served
serves_sysclib s x = serves_outcome s (sysclib.serves_sysclib s.memory.ram s.core.cpu x)

-- a service, by its library
unfoldable pub serves : System → Service → Served
serves s (Loadcore x) = serves_loadcore s x
serves s (Sysmem x) = serves_sysmem s x
serves s (Intrman x) = on_board s (serves_intrman (board_of s) x)
serves s (Thbase x) = serves_thbase s x
serves s (Thsemap x) = on_board s (serves_thsemap (board_of s) x)
serves s (Thevent x) = on_board s (serves_thevent (board_of s) x)
serves s (Thmsgbx x) = on_board s (serves_thmsgbx (board_of s) x)
serves s (Stdio x) = serves_stdio s x
serves s (Thvpool x) = serves_thvpool s x
serves s (Thfpool x) = serves_thfpool s x
serves s (Sysclib x) = serves_sysclib s x

module _ (library number : ℕ) where
  -- by the row of a number; one that is not listed answers -1 and is told
  abbrev pub calls_row : System → Option Row → Served
  calls_row s None = record {
    left = on_core s (resumes s.core 0xFFFFFFFF);
    pieces = Traced (line_bytes s.core.kernel.clock (lines.Unlisted library number)) ∷ [];
  }
  calls_row s (Some row) =
      if allows row.context (in_handler s.core.kernel) then serves s row.service
      else silent (on_core s (answers s.core ILLEGAL_CONTEXT))

  -- a call of service `number` of a library, from a handler or from a thread
  unfoldable pub calls_library : System → Served
  calls_library s = calls_row s (row_of library number)

-- by what is called; the thread's return is its end. From a handler its own return alone has a
-- meaning, and only there
abbrev pub calls : System → Option Call → Served
calls s None = silent (faults s faults_of.Service)
calls s (Some ThreadReturn) = silent (on_core s (exit_thread s.core))
calls s (Some HandlerReturn) = silent (on_core s (return_handler s.core))
calls s (Some ModuleReturn) = silent (on_core s (return_module s.core))
calls s (Some (Library library number)) = calls_library library number s

-- what a `syscall` of a code leaves and gives, with the processor behind it
abbrev pub services : System → (code : ℕ) → Served
services s code = calls s (call_of code)
