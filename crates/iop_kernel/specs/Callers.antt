-- What has become of who called, by what its `syscall` calls (ps2sdk: thbase.h).
use Rattle.std.specs.Prelude.{◌≡◌, ◌≢◌, ℕ, Bool, true, false, ◌&&◌, not, Option, Some, None}
use Rattle.iop_exec.specs.Row.{with_reg}
use Rattle.iop_exec.specs.declared.cpu.Cpu.{Cpu}
use Rattle.iop_services.specs.Table.{row_of, allows}
use Rattle.iop_services.specs.declared.row.Row.{Row}
use Rattle.iop_services.specs.declared.service.Service.{Service}
use Rattle.iop_services.specs.declared.service.Service.TheVariants.{Thbase, Thsemap, Thevent, Thmsgbx, Thvpool, Thfpool}
use Rattle.iop_services.specs.declared.thbase_service.ThbaseService.TheVariants.{ExitThread, ExitDeleteThread, RotateThreadReadyQueue, SleepThread, DelayThread}
use Rattle.iop_services.specs.declared.thevent_service.TheventService.TheVariants.{WaitEventFlag}
use Rattle.iop_services.specs.declared.thfpool_service.ThfpoolService.TheVariants.{AllocateFpl}
use Rattle.iop_services.specs.declared.thmsgbx_service.ThmsgbxService.TheVariants.{ReceiveMbx}
use Rattle.iop_services.specs.declared.thsemap_service.ThsemapService.TheVariants.{WaitSema}
use Rattle.iop_services.specs.declared.thvpool_service.ThvpoolService.TheVariants.{AllocateVpl}
use Rattle.iop_thread.specs.Placing.{times, is_in_state}
use Rattle.iop_thread.specs.States.{is_dormant}
use Rattle.iop_thread.specs.ThreadTable.{ThreadTable}
use Rattle.iop_thread.specs.Waits.{is_live}
use Rattle.iop_thread.specs.Waking.{state_in}
use Rattle.iop_thread.specs.declared.state.State.TheVariants.{Waiting, Ready}
use Rattle.iop_thread.specs.declared.thread.TheConstants.{LOADER}
use Rattle.iop_thread.specs.declared.wait.Wait.{Wait}
use Rattle.iop_kernel.specs.Serving.{call_of, services}
use Rattle.iop_kernel.specs.System.{System, in_handler}
use Rattle.iop_kernel.specs.declared.after.After.{After}
use Rattle.iop_kernel.specs.declared.after.After.TheVariants.{Switch, ModuleReturned}
use Rattle.iop_kernel.specs.declared.call.Call.{Call}
use Rattle.iop_kernel.specs.declared.call.Call.TheVariants.{Library, ThreadReturn, HandlerReturn, ModuleReturn}

-- what has become of a thread that called with these registers and does not go on. The loader's
-- thread never ends
pub data HasLeft (registers : Cpu) (left : ThreadTable) (id : ℕ) : Type 0 where
  -- it waits, and keeps its registers
  waits : (wait : Wait) → state_in left id ≡ Some (Waiting wait registers)
      → HasLeft registers left id
  -- it is in the ready list, once, and goes on with 0 in `$v0`
  is_ready : times id left.ready ≡ 1 → state_in left id ≡ Some (Ready (with_reg registers 2 0))
      → HasLeft registers left id
  -- it has ended: it is dormant, or gone where it was deleted
  ends : id ≢ LOADER → is_in_state is_dormant left.live id ≡ true → HasLeft registers left id
  goes : id ≢ LOADER → is_live left id ≡ false → HasLeft registers left id

-- the services after which their caller need not go on: it ends, gives way or waits
unfoldable pub may_leave : Service → Bool
may_leave (Thbase ExitThread) = true
may_leave (Thbase ExitDeleteThread) = true
may_leave (Thbase RotateThreadReadyQueue) = true
may_leave (Thbase SleepThread) = true
may_leave (Thbase DelayThread) = true
may_leave (Thsemap WaitSema) = true
may_leave (Thevent WaitEventFlag) = true
may_leave (Thmsgbx ReceiveMbx) = true
may_leave (Thvpool AllocateVpl) = true
may_leave (Thfpool AllocateFpl) = true
may_leave other = false

-- whether the caller does not go on, though its call does not fault
abbrev pub has_left : After → Bool
has_left Switch = true
has_left (ModuleReturned word) = true
has_left other = false

-- whether a row is of such a service and allows a call from a handler, where one runs, else from a
-- thread. A number that is not listed answers
abbrev pub row_may_leave : (handling : Bool) → Option Row → Bool
row_may_leave handling None = false
row_may_leave handling (Some row) = allows row.context handling && may_leave row.service

-- whether what is called may leave its caller: the return of a thread or of a module while no
-- handler runs, that of a handler while one does, and such a row. What has no meaning faults
abbrev pub call_may_leave : (handling : Bool) → Option Call → Bool
call_may_leave handling None = false
call_may_leave handling (Some ThreadReturn) = not handling
call_may_leave handling (Some HandlerReturn) = handling
call_may_leave handling (Some ModuleReturn) = not handling
call_may_leave handling (Some (Library library number)) =
    row_may_leave handling (row_of library number)

-- the same of the code of a `syscall`
abbrev pub may_leave_at : System → (code : ℕ) → Bool
may_leave_at s code = call_may_leave (in_handler s.core.kernel) (call_of code)

-- after each other one who called goes on, or the `syscall` faults
abbrev pub CallersGoOn : Type 0
CallersGoOn =
    (s : System) (code : ℕ) → may_leave_at s code ≡ false
    → has_left (services s code).left.after ≡ false

-- a word stands in `$v0` of a processor, which is otherwise as it was
abbrev pub HasAnswer : (was is : Cpu) → Type 0
HasAnswer was is = (word : ℕ) × (is ≡ with_reg was 2 word)
