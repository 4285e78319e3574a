-- The services of the kernel's libraries. Libraries, names and numbers are those of ps2sdk's headers
-- (loadcore.h, sysmem.h, intrman.h, thbase.h, thsemap.h, thevent.h, thmsgbx.h, stdio.h); of thvpool,
-- thfpool and sysclib libraries and names alone (thvpool.h, thfpool.h, sysclib.h), their numbers are
-- this project's own.
-- Which libraries and numbers the kernel has, and from where each may be called, is its own profile.
use Rattle.std.specs.Prelude.{ℕ, ◌==◌, if◌then◌else◌, Bool, true, not, Option, List, [], ◌∷◌, find, option_map}
use Rattle.iop_services.specs.declared.codes.TheConstants.{LOADCORE, SYSMEM, INTRMAN, THBASE, THSEMAP, THEVENT, THMSGBX, STDIO, THVPOOL, THFPOOL, SYSCLIB}
use Rattle.iop_services.specs.declared.context.Context.{Context}
use Rattle.iop_services.specs.declared.context.Context.TheVariants.{Thread, Handler, Both}
use Rattle.iop_services.specs.declared.row.Row.{Row}
use Rattle.iop_services.specs.declared.service.Service.{Service}
use Rattle.iop_services.specs.declared.service.Service.TheVariants.{Loadcore, Sysmem, Intrman, Thbase, Thsemap, Thevent, Thmsgbx, Stdio, Thvpool, Thfpool, Sysclib}
use Rattle.iop_services.specs.declared.intrman_service.IntrmanService.TheVariants.{RegisterIntrHandler, ReleaseIntrHandler, EnableIntr, DisableIntr, CpuDisableIntr, CpuEnableIntr, CpuSuspendIntr, CpuResumeIntr, QueryIntrContext}
use Rattle.iop_services.specs.declared.loadcore_service.LoadcoreService.TheVariants.{FlushIcache, FlushDcache, RegisterLibraryEntries, ReleaseLibraryEntries}
use Rattle.iop_services.specs.declared.stdio_service.StdioService.TheVariants.{Printf}
use Rattle.iop_services.specs.declared.sysclib_service.SysclibService.TheVariants.{Memchr, Memcmp, Memcpy, Memmove, Memset, Bzero, Sprintf, Strcat, Strchr, Strcmp, Strcpy, Strlen, Strncmp, Strncpy, Strrchr, Strtol}
use Rattle.iop_services.specs.declared.sysmem_service.SysmemService.TheVariants.{AllocSysMemory, FreeSysMemory, QueryMemSize, QueryMaxFreeMemSize, QueryTotalFreeMemSize, QueryBlockTopAddress, QueryBlockSize, Kprintf}
use Rattle.iop_services.specs.declared.thbase_service.ThbaseService.TheVariants.{CreateThread, DeleteThread, StartThread, ExitThread, ExitDeleteThread, TerminateThread, DisableDispatchThread, EnableDispatchThread, ChangeThreadPriority, RotateThreadReadyQueue, ReleaseWaitThread, GetThreadId, ReferThreadStatus, SleepThread, WakeupThread, CancelWakeupThread, SuspendThread, ResumeThread, DelayThread, GetSystemTime, SetAlarm, CancelAlarm, USec2SysClock, SysClock2USec}
use Rattle.iop_services.specs.declared.thevent_service.TheventService.TheVariants.{CreateEventFlag, DeleteEventFlag, SetEventFlag, ClearEventFlag, WaitEventFlag, PollEventFlag, ReferEventFlagStatus}
use Rattle.iop_services.specs.declared.thmsgbx_service.ThmsgbxService.TheVariants.{CreateMbx, DeleteMbx, SendMbx, ReceiveMbx, PollMbx, ReferMbxStatus}
use Rattle.iop_services.specs.declared.thsemap_service.ThsemapService.TheVariants.{CreateSema, DeleteSema, SignalSema, WaitSema, PollSema, ReferSemaStatus}
use Rattle.iop_services.specs.declared.thvpool_service.ThvpoolService.TheVariants.{CreateVpl, DeleteVpl, AllocateVpl, PAllocateVpl, FreeVpl, ReferVplStatus}
use Rattle.iop_services.specs.declared.thfpool_service.ThfpoolService.TheVariants.{CreateFpl, DeleteFpl, AllocateFpl, PAllocateFpl, FreeFpl, ReferFplStatus}

-- a number, the service that it lists, and from where it may be called
pub record Numbered : Type 0 where
  pub number : ℕ
  pub service : Service
  pub context : Context

-- the same, of a library
abbrev pub of : {A : Type 0} → (A → Service) → ℕ → A → Context → Numbered
of library number service context =
    record { number = number; service = library service; context = context }

abbrev pub loadcore : List Numbered
loadcore =
    let lists = of Loadcore in
    lists 4 FlushIcache Both
    ∷ lists 5 FlushDcache Both
    ∷ lists 6 RegisterLibraryEntries Thread
    ∷ lists 7 ReleaseLibraryEntries Thread
    ∷ []

abbrev pub sysmem : List Numbered
sysmem =
    let lists = of Sysmem in
    lists 4 AllocSysMemory Both
    ∷ lists 5 FreeSysMemory Both
    ∷ lists 6 QueryMemSize Both
    ∷ lists 7 QueryMaxFreeMemSize Both
    ∷ lists 8 QueryTotalFreeMemSize Both
    ∷ lists 9 QueryBlockTopAddress Both
    ∷ lists 10 QueryBlockSize Both
    ∷ lists 14 Kprintf Both
    ∷ []

abbrev pub intrman : List Numbered
intrman =
    let lists = of Intrman in
    lists 4 RegisterIntrHandler Thread
    ∷ lists 5 ReleaseIntrHandler Thread
    ∷ lists 6 EnableIntr Both
    ∷ lists 7 DisableIntr Both
    ∷ lists 8 CpuDisableIntr Both
    ∷ lists 9 CpuEnableIntr Both
    ∷ lists 17 CpuSuspendIntr Both
    ∷ lists 18 CpuResumeIntr Both
    ∷ lists 23 QueryIntrContext Both
    ∷ []

abbrev pub thbase : List Numbered
thbase =
    let lists = of Thbase in
    lists 4 CreateThread Thread
    ∷ lists 5 DeleteThread Thread
    ∷ lists 6 StartThread Thread
    ∷ lists 8 ExitThread Thread
    ∷ lists 9 ExitDeleteThread Thread
    ∷ lists 10 TerminateThread Thread
    ∷ lists 11 TerminateThread Handler
    ∷ lists 12 DisableDispatchThread Thread
    ∷ lists 13 EnableDispatchThread Thread
    ∷ lists 14 ChangeThreadPriority Thread
    ∷ lists 15 ChangeThreadPriority Handler
    ∷ lists 16 RotateThreadReadyQueue Thread
    ∷ lists 17 RotateThreadReadyQueue Handler
    ∷ lists 18 ReleaseWaitThread Thread
    ∷ lists 19 ReleaseWaitThread Handler
    ∷ lists 20 GetThreadId Thread
    ∷ lists 22 ReferThreadStatus Thread
    ∷ lists 23 ReferThreadStatus Handler
    ∷ lists 24 SleepThread Thread
    ∷ lists 25 WakeupThread Thread
    ∷ lists 26 WakeupThread Handler
    ∷ lists 27 CancelWakeupThread Thread
    ∷ lists 28 CancelWakeupThread Handler
    ∷ lists 29 SuspendThread Thread
    ∷ lists 30 SuspendThread Handler
    ∷ lists 31 ResumeThread Thread
    ∷ lists 32 ResumeThread Handler
    ∷ lists 33 DelayThread Thread
    ∷ lists 34 GetSystemTime Both
    ∷ lists 35 SetAlarm Thread
    ∷ lists 36 SetAlarm Handler
    ∷ lists 37 CancelAlarm Thread
    ∷ lists 38 CancelAlarm Handler
    ∷ lists 39 USec2SysClock Both
    ∷ lists 40 SysClock2USec Both
    ∷ []

abbrev pub thsemap : List Numbered
thsemap =
    let lists = of Thsemap in
    lists 4 CreateSema Thread
    ∷ lists 5 DeleteSema Thread
    ∷ lists 6 SignalSema Thread
    ∷ lists 7 SignalSema Handler
    ∷ lists 8 WaitSema Thread
    ∷ lists 9 PollSema Thread
    ∷ lists 11 ReferSemaStatus Thread
    ∷ lists 12 ReferSemaStatus Handler
    ∷ []

abbrev pub thevent : List Numbered
thevent =
    let lists = of Thevent in
    lists 4 CreateEventFlag Thread
    ∷ lists 5 DeleteEventFlag Thread
    ∷ lists 6 SetEventFlag Thread
    ∷ lists 7 SetEventFlag Handler
    ∷ lists 8 ClearEventFlag Thread
    ∷ lists 9 ClearEventFlag Handler
    ∷ lists 10 WaitEventFlag Thread
    ∷ lists 11 PollEventFlag Thread
    ∷ lists 13 ReferEventFlagStatus Thread
    ∷ lists 14 ReferEventFlagStatus Handler
    ∷ []

abbrev pub thmsgbx : List Numbered
thmsgbx =
    let lists = of Thmsgbx in
    lists 4 CreateMbx Thread
    ∷ lists 5 DeleteMbx Thread
    ∷ lists 6 SendMbx Thread
    ∷ lists 7 SendMbx Handler
    ∷ lists 8 ReceiveMbx Thread
    ∷ lists 9 PollMbx Thread
    ∷ lists 11 ReferMbxStatus Thread
    ∷ lists 12 ReferMbxStatus Handler
    ∷ []

abbrev pub stdio : List Numbered
stdio =
    let lists = of Stdio in
    lists 4 Printf Both
    ∷ []

abbrev pub thvpool : List Numbered
thvpool =
    let lists = of Thvpool in
    lists 4 CreateVpl Thread
    ∷ lists 5 DeleteVpl Thread
    ∷ lists 6 AllocateVpl Thread
    ∷ lists 7 PAllocateVpl Both
    ∷ lists 8 FreeVpl Thread
    ∷ lists 9 FreeVpl Handler
    ∷ lists 11 ReferVplStatus Thread
    ∷ lists 12 ReferVplStatus Handler
    ∷ []

abbrev pub thfpool : List Numbered
thfpool =
    let lists = of Thfpool in
    lists 4 CreateFpl Thread
    ∷ lists 5 DeleteFpl Thread
    ∷ lists 6 AllocateFpl Thread
    ∷ lists 7 PAllocateFpl Both
    ∷ lists 8 FreeFpl Thread
    ∷ lists 9 FreeFpl Handler
    ∷ lists 11 ReferFplStatus Thread
    ∷ lists 12 ReferFplStatus Handler
    ∷ []

abbrev pub sysclib : List Numbered
sysclib =
    let lists = of Sysclib in
    lists 10 Memchr Both
    ∷ lists 11 Memcmp Both
    ∷ lists 12 Memcpy Both
    ∷ lists 13 Memmove Both
    ∷ lists 14 Memset Both
    ∷ lists 17 Bzero Both
    ∷ lists 19 Sprintf Both
    ∷ lists 20 Strcat Both
    ∷ lists 21 Strchr Both
    ∷ lists 22 Strcmp Both
    ∷ lists 23 Strcpy Both
    ∷ lists 27 Strlen Both
    ∷ lists 29 Strncmp Both
    ∷ lists 30 Strncpy Both
    ∷ lists 32 Strrchr Both
    ∷ lists 36 Strtol Both
    ∷ []

-- the rows of a library by its number
abbrev pub rows_of : ℕ → List Numbered
rows_of library =
    if library == LOADCORE then loadcore
    else if library == SYSMEM then sysmem
    else if library == INTRMAN then intrman
    else if library == THBASE then thbase
    else if library == THSEMAP then thsemap
    else if library == THEVENT then thevent
    else if library == THMSGBX then thmsgbx
    else if library == STDIO then stdio
    else if library == THVPOOL then thvpool
    else if library == THFPOOL then thfpool
    else if library == SYSCLIB then sysclib
    else []

-- what the row of a number says
abbrev pub find_row : ℕ → List Numbered → Option Row
find_row number rows =
    option_map (λ r. record { service = r.service; context = r.context })
    (find (λ r. r.number == number) rows)

-- the service of a number of a library, and from where it may be called
abbrev pub row_of : ℕ → ℕ → Option Row
row_of library number = find_row number (rows_of library)

-- whether a call comes from where it may
abbrev pub allows : Context → (in_handler : Bool) → Bool
allows Thread in_handler = not in_handler
allows Handler in_handler = in_handler
allows Both in_handler = true
