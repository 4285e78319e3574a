-- The kernel's area, the first 0x10000 bytes of RAM: what stands where is this project's own
-- profile. The words of an export table are those of ps2sdk's irx.h, the instructions those of MIPS
-- I.
use Rattle.std.specs.Prelude.{ℕ, zero, suc, ◌+◌, ◌*◌, ◌^◌, List, [], ◌++◌, slice_index_or, length, replicate}
use Rattle.iop_base.specs.Numbers.{bytes_of, with_bytes}
use Rattle.iop_base.specs.declared.libraries.TheConstants.{KERNEL_LIBRARIES}
use Rattle.iop_base.specs.declared.words.TheConstants.{EXPORT_MAGIC, JUMP_BACK}
use Rattle.iop_kernel.specs.declared.call.TheConstants.{THREAD_RETURN_CALL, HANDLER_RETURN_CALL, MODULE_RETURN_CALL}
use Rattle.iop_machine.specs.World.{zeros}
use Rattle.iop_machine.specs.declared.kernel_area.TheConstants.{AREA_LEN, VERSION, TABLE_REST, LATER_LIBRARIES, SERVICES_AT, SERVICES_LEN, SERVICE_LEN}
use Rattle.iop_registry.specs.declared.registry.TheConstants.{KERNEL_TABLES_AT, FIRST_LIBRARIES, LATER_TABLES_AT}
use Rattle.iop_services.specs.Codes.{service_code}
use Rattle.iop_services.specs.declared.codes.TheConstants.{SERVICES}
use Rattle.iop_thread.specs.declared.thread.TheConstants.{THREAD_RETURN}

-- syscall code
abbrev pub syscall_word : ℕ → ℕ
syscall_word code = code * 2 ^ 6 + 0xC

-- the place of a service
abbrev pub service_at : (library number : ℕ) → ℕ
service_at library number = SERVICES_AT + library * SERVICES_LEN + number * SERVICE_LEN

-- the first n of a row, one behind the other
unfoldable pub each : (ℕ → List ℕ) → ℕ → List ℕ
each item zero = []
each item (suc n) = each item n ++ item n

-- a function of an export table: where its service stands
abbrev pub function_of : (library number : ℕ) → List ℕ
function_of library number = bytes_of 4 (service_at library number)

-- the export table of a kernel library: the magic, a word 0, version 1.1 and mode 0, the name, the
-- functions, a word 0, and zeros up to the next table
unfoldable pub table_of : ℕ → List ℕ
table_of library =
    bytes_of 4 EXPORT_MAGIC ++ bytes_of 4 0 ++ bytes_of 4 VERSION
    ++ slice_index_or KERNEL_LIBRARIES library []
    ++ each (function_of library) SERVICES ++ bytes_of 4 0 ++ zeros TABLE_REST

-- a service: a syscall of its code, jr $ra, and two words that do nothing
abbrev pub service_of : (library number : ℕ) → List ℕ
service_of library number =
    bytes_of 4 (syscall_word (service_code library number)) ++ bytes_of 4 JUMP_BACK ++ replicate 8 0

abbrev pub services_of : ℕ → List ℕ
services_of library = each (service_of library) SERVICES

-- where a thread, a handler or a module returns to: a syscall of a code, and zeros up to the next
abbrev pub return_of : ℕ → List ℕ
return_of code = bytes_of 4 (syscall_word code) ++ replicate 12 0

-- the export tables of so many kernel libraries from one on
abbrev pub tables : (first count : ℕ) → List ℕ
tables first count = each (λ i. table_of (first + i)) count

abbrev pub first_tables : List ℕ
first_tables = tables 0 FIRST_LIBRARIES

abbrev pub later_tables : List ℕ
later_tables = tables FIRST_LIBRARIES LATER_LIBRARIES

-- the three returns, and the services of all libraries
abbrev pub returns : List ℕ
returns =
    return_of THREAD_RETURN_CALL ++ return_of HANDLER_RETURN_CALL ++ return_of MODULE_RETURN_CALL

abbrev pub services : List ℕ
services = each services_of (length KERNEL_LIBRARIES)

-- each of these in its place, over zeros
abbrev pub with_tables : List ℕ
with_tables =
    with_bytes (with_bytes (zeros AREA_LEN) LATER_TABLES_AT later_tables) KERNEL_TABLES_AT
    first_tables

unfoldable pub kernel_area : List ℕ
kernel_area = with_bytes (with_bytes with_tables THREAD_RETURN returns) SERVICES_AT services
