-- What holds after each service of a library, if it lasts over each small change.
use Rattle.std.proofs.Common.{◌≡◌, ℕ, ◌+◌, ◌≤◌, ◌==◌, true, false, Option, Some, None, Result, Ok, Err, List, [], length, replicate, refl, arith}
use Rattle.std.proofs.lemmas.Bool.{cond_both}
use Rattle.std.proofs.lemmas.List.{length-replicate}
use Rattle.iop_base.specs.BlockSizes.{block_len}
use Rattle.iop_base.specs.Piece.{Piece}
use Rattle.iop_base.specs.declared.code.Code.{Code}
use Rattle.iop_libs.specs.Calls.{table_place, registers_at}
use Rattle.iop_ready.specs.Priorities.{priority_of as priority_of_word}
use Rattle.iop_services.specs.declared.intrman_service.IntrmanService.{IntrmanService}
use Rattle.iop_services.specs.declared.intrman_service.IntrmanService.TheVariants as intrman
use Rattle.iop_services.specs.declared.loadcore_service.LoadcoreService.{LoadcoreService}
use Rattle.iop_services.specs.declared.loadcore_service.LoadcoreService.TheVariants as loadcore
use Rattle.iop_services.specs.declared.service.Service.{Service}
use Rattle.iop_services.specs.declared.service.Service.TheVariants.{Thbase, Thsemap, Thevent, Thmsgbx, Thvpool, Thfpool}
use Rattle.iop_services.specs.declared.stdio_service.StdioService.{StdioService}
use Rattle.iop_services.specs.declared.stdio_service.StdioService.TheVariants as stdio
use Rattle.iop_services.specs.declared.sysmem_service.SysmemService.{SysmemService}
use Rattle.iop_services.specs.declared.sysmem_service.SysmemService.TheVariants as sysmem
use Rattle.iop_services.specs.declared.thbase_service.ThbaseService.{ThbaseService}
use Rattle.iop_services.specs.declared.thbase_service.ThbaseService.TheVariants as thbase
use Rattle.iop_services.specs.declared.thevent_service.TheventService.{TheventService}
use Rattle.iop_services.specs.declared.thevent_service.TheventService.TheVariants as thevent
use Rattle.iop_services.specs.declared.thfpool_service.ThfpoolService.{ThfpoolService}
use Rattle.iop_services.specs.declared.thfpool_service.ThfpoolService.TheVariants as thfpool
use Rattle.iop_services.specs.declared.thmsgbx_service.ThmsgbxService.{ThmsgbxService}
use Rattle.iop_services.specs.declared.thmsgbx_service.ThmsgbxService.TheVariants as thmsgbx
use Rattle.iop_services.specs.declared.thsemap_service.ThsemapService.{ThsemapService}
use Rattle.iop_services.specs.declared.thsemap_service.ThsemapService.TheVariants as thsemap
use Rattle.iop_services.specs.declared.thvpool_service.ThvpoolService.{ThvpoolService}
use Rattle.iop_services.specs.declared.thvpool_service.ThvpoolService.TheVariants as thvpool
use Rattle.iop_stubs.specs.Stubs.{range_place}
use Rattle.iop_sysmem.specs.Allocating.{allocating}
use Rattle.iop_sysmem.specs.BlockMap.{BlockMap}
use Rattle.iop_thread.specs.ThreadTable.{thread_of, has_room}
use Rattle.iop_thread.specs.declared.kind.Kind.TheVariants as kinds
use Rattle.iop_thread.specs.declared.param.Param.{Param}
use Rattle.iop_thread.specs.declared.thread.Thread.{Thread}
use Rattle.iop_time.specs.ClockTime.{ticks_of}
use Rattle.iop_kernel.specs.Boards.{board_of}
use Rattle.iop_kernel.specs.Callers.{may_leave}
use Rattle.iop_kernel.specs.EventFlags.{flag_words, wanted, serves_thevent}
use Rattle.iop_kernel.specs.FixedPools.{fpl_words, serves_thfpool}
use Rattle.iop_kernel.specs.Interrupts.{serves_intrman}
use Rattle.iop_kernel.specs.Mailboxes.{mailbox_words, serves_thmsgbx}
use Rattle.iop_kernel.specs.NamedThreads.{named}
use Rattle.iop_kernel.specs.Semaphores.{semaphore_words, serves_thsemap}
use Rattle.iop_kernel.specs.Serving.{answers_or_faults, serves_loadcore, serves_sysmem, serves_stdio}
use Rattle.iop_kernel.specs.Stacks.{creates_at, creates_with, creates_from}
use Rattle.iop_kernel.specs.System.{System, argument, caller, silent, words_place}
use Rattle.iop_kernel.specs.Thbase.{serves_thbase}
use Rattle.iop_kernel.specs.ThreadStatus.{refers_it, refers_to, refers_at, status_bytes}
use Rattle.iop_kernel.specs.VariablePools.{vpl_words, serves_thvpool}
use Rattle.iop_kernel.specs.declared.after.After.{After}
use Rattle.iop_kernel.specs.declared.event_flags.TheConstants.{FLAG_WORDS, FLAG_STATUS_WORDS}
use Rattle.iop_kernel.specs.declared.fixed_pools.TheConstants.{FPL_WORDS, FPL_STATUS_WORDS}
use Rattle.iop_kernel.specs.declared.mailboxes.TheConstants.{MAILBOX_WORDS, MAILBOX_STATUS_WORDS}
use Rattle.iop_kernel.specs.declared.semaphores.TheConstants.{SEMAPHORE_WORDS, SEMAPHORE_STATUS_WORDS}
use Rattle.iop_kernel.specs.declared.stacks.TheConstants.{PARAM_WORDS, FROM_ABOVE}
use Rattle.iop_kernel.specs.declared.system_clock.TheConstants.{TIME_WORDS}
use Rattle.iop_kernel.specs.declared.thread_status.TheConstants.{STATUS_WORDS}
use Rattle.iop_kernel.specs.declared.variable_pools.TheConstants.{VPL_WORDS, VPL_STATUS_WORDS}
use Rattle.iop_kernel.proofs.Keeping.Memory.{range_inside, words_inside, length-status_bytes}
use Rattle.iop_kernel.proofs.Walk.Callers.{asks_for_thread}
use Rattle.iop_kernel.proofs.Walk.EventFlags.{clears_go, creates_flag_goes, sets_flag_goes, waits_flag_goes, polls_flag_goes}
use Rattle.iop_kernel.proofs.Walk.FixedPools.{creates_fpl_goes, deletes_fpl_goes, allocates_fpl_goes, polls_fpl_go, frees_fpl_go}
use Rattle.iop_kernel.proofs.Walk.Interrupts.{sets_alarm_goes, disables_go, disables_line_goes, suspends_goes}
use Rattle.iop_kernel.proofs.Walk.Mailboxes.{creates_mbx_goes, sends_go, waits_mbx_goes, polls_mbx_goes}
use Rattle.iop_kernel.proofs.Walk.Moves.{EachMoves, RegistryMoves, BlockMoves, InterruptMoves, AlarmMoves, ThreadMoves, ObjectMoves, Sets, Meets, BoardEnds, Ends}
use Rattle.iop_kernel.proofs.Walk.Objects.{deletes_goes}
use Rattle.iop_kernel.proofs.Walk.Semaphores.{creates_sema_goes, signals_go, wait_sema_goes, polls_sema_go}
use Rattle.iop_kernel.proofs.Walk.Stores.{stored, status_goes, writes_time_goes, converts_go}
use Rattle.iop_kernel.proofs.Walk.Threads.{answers_after, only, start_goes, exits_go, terminate_goes, set_goes, changes_go, rotates_by_go, release_goes, sleep_goes, wakeup_goes, cancels_go, suspend_goes, resume_goes, delay_goes, delete_goes, exits_deleted_by_go}
use Rattle.iop_kernel.proofs.Walk.VariablePools.{creates_vpl_goes, deletes_vpl_goes, allocates_vpl_goes, polls_vpl_go, frees_vpl_go}

-- the arguments of a call, and a place of so many words
abbrev a : System → ℕ → ℕ
a s k = argument s.core k

abbrev place : System → (at count : ℕ) → Option ℕ
place s at count = words_place s.memory at count

-- what is known of a service that asks for a thread that calls it
abbrev pub IsAsked : Service → Type 0 → Type 0
IsAsked x Asks = asks_for_thread x ≡ true → Asks

-- and of one after which its caller may not go on
abbrev pub IsLeft : Service → Type 0 → Type 0
IsLeft x MayLeave = may_leave x ≡ true → MayLeave

module _ {P : System → List Piece → Type 0} {Q : After → System → List Piece → Type 0}
    {Asks MayLeave : Type 0} {s : System} (e : EachMoves P Q Asks s)
    (t : ThreadMoves P Q Asks s MayLeave) where
  -- a thread is made, by the block that is taken for its stack
  creates_at_goes : (param : Param) (r : ℕ × BlockMap)
      → allocating s.blocks FROM_ABOVE param.stack_size 0 ≡ r → Ends Q (creates_at s param r)
  creates_at_goes param (stack, blocks) is =
      let size = block_len param.stack_size in
      let fill = replicate size 0xFF in
      cond_both (stack == 0) _ _ (Ends Q) (λ none. only e _)
      (λ some. e.goes_on _ _ _ (stored e _ [] (range_place s.memory stack size) fill
      (λ p e. rw (length-replicate {A = ℕ} size 0xFF) (range_inside s.memory stack size p e))
      (t.creates param.stack_size (record param { stack_size = size }) stack blocks is)))

  -- by what the words ask for
  creates_with_goes : (r : Result Param Code) → Ends Q (creates_with s r)
  creates_with_goes (Err code) = only e _
  creates_with_goes (Ok param) =
      cond_both (has_room s.core.kernel.threads) _ _ (Ends Q)
      (λ room. creates_at_goes param (allocating s.blocks FROM_ABOVE param.stack_size 0) refl)
      (λ full. only e _)

  creates_go : (o : Option ℕ) → Ends Q (creates_from s o)
  creates_go None = e.bad_place
  creates_go (Some place) = creates_with_goes _

module _ {P : System → List Piece → Type 0} {Q : After → System → List Piece → Type 0}
    {Asks : Type 0} {s : System} (e : EachMoves P Q Asks s) where
  -- the status of a thread is written, if it is found
  refers_it_goes : (at : ℕ) → at + 48 ≤ length s.memory.ram → (o : Option Thread)
      → Ends Q (refers_it s at o)
  refers_it_goes at fits None = only e _
  refers_it_goes at fits (Some t) =
      e.goes_on _ _ _ (e.stores s [] at (status_bytes t)
      (omega (arith, fits, length-status_bytes t)) e.begins)

  refers_to_goes : (at : ℕ) → at + 48 ≤ length s.memory.ram → (o : Option ℕ)
      → Ends Q (refers_to s at o)
  refers_to_goes at fits None = only e _
  refers_to_goes at fits (Some id) =
      refers_it_goes at fits (thread_of s.core.kernel.threads.live id)

  refers_go : (id : ℕ) (o : Option ℕ) → ((p : ℕ) → o ≡ Some p → p + 48 ≤ length s.memory.ram)
      → Ends Q (refers_at s id o)
  refers_go id None fits = e.bad_place
  refers_go id (Some at) fits = refers_to_goes at (fits at refl) (named (caller s.core) id)

module _ {P : System → List Piece → Type 0} {Q : After → System → List Piece → Type 0}
    {Asks : Type 0} {s : System} (e : EachMoves P Q Asks s) where
  -- by the place of a table
  registers_go : RegistryMoves P Q Asks s → (o : Option ℕ)
      → let done = registers_at s.memory.ram s.libraries o in
      Ends Q (silent (answers_or_faults (record s { libraries = done.1 }) done.0))
  registers_go moves None = e.bad_place
  registers_go moves (Some place) = e.goes_on _ _ _ (moves.registers _)

  pub loadcore_goes : RegistryMoves P Q Asks s → (x : LoadcoreService)
      → Ends Q (serves_loadcore s x)
  loadcore_goes moves loadcore.FlushIcache = only e _
  loadcore_goes moves loadcore.FlushDcache = only e _
  loadcore_goes moves loadcore.RegisterLibraryEntries =
      registers_go moves (table_place s.memory.ram (a s 0))
  loadcore_goes moves loadcore.ReleaseLibraryEntries = e.goes_on _ _ _ (moves.registers _)

  pub sysmem_goes : BlockMoves P Q Asks s → (x : SysmemService) → Ends Q (serves_sysmem s x)
  sysmem_goes moves sysmem.AllocSysMemory = e.goes_on _ _ _ (moves.takes (a s 0) (a s 1) (a s 2))
  sysmem_goes moves sysmem.FreeSysMemory = e.goes_on _ _ _ (moves.frees (a s 0))
  sysmem_goes moves sysmem.QueryMemSize = only e _
  sysmem_goes moves sysmem.QueryMaxFreeMemSize = only e _
  sysmem_goes moves sysmem.QueryTotalFreeMemSize = only e _
  sysmem_goes moves sysmem.QueryBlockTopAddress = only e _
  sysmem_goes moves sysmem.QueryBlockSize = only e _
  sysmem_goes moves sysmem.Kprintf = e.goes_on _ _ _ (e.prints _)

  pub stdio_goes : (x : StdioService) → Ends Q (serves_stdio s x)
  stdio_goes stdio.Printf = e.goes_on _ _ _ (e.prints _)

  pub intrman_goes : InterruptMoves P Q Asks s → (x : IntrmanService)
      → BoardEnds Q s (serves_intrman (board_of s) x)
  unfolding serves_intrman
  intrman_goes moves intrman.RegisterIntrHandler = answers_after e _ _ (moves.lines _)
  intrman_goes moves intrman.ReleaseIntrHandler = answers_after e _ _ (moves.lines _)
  intrman_goes moves intrman.EnableIntr = answers_after e _ _ (moves.lines _)
  intrman_goes moves intrman.DisableIntr = disables_line_goes e moves (a s 0) (a s 1)
  intrman_goes moves intrman.CpuDisableIntr = disables_go e moves
  intrman_goes moves intrman.CpuEnableIntr = answers_after e _ _ (moves.turns true)
  intrman_goes moves intrman.CpuSuspendIntr =
      suspends_goes e moves (place s (a s 0) 1) (words_inside s.memory (a s 0) 1)
  intrman_goes moves intrman.CpuResumeIntr = answers_after e _ _ (moves.turns _)
  intrman_goes moves intrman.QueryIntrContext = only e _

module _ {P : System → List Piece → Type 0} {Q : After → System → List Piece → Type 0}
    {Asks MayLeave : Type 0} {s : System} (e : EachMoves P Q Asks s) where
  pub thsemap_goes : ObjectMoves P Q Asks s MayLeave kinds.Semaphore → (x : ThsemapService)
      → IsAsked (Thsemap x) Asks → IsLeft (Thsemap x) MayLeave
      → BoardEnds Q s (serves_thsemap (board_of s) x)
  unfolding serves_thsemap asks_for_thread may_leave
  thsemap_goes moves thsemap.CreateSema asks leave =
      creates_sema_goes e moves (place s (a s 0) SEMAPHORE_WORDS)
  thsemap_goes moves thsemap.DeleteSema asks leave = deletes_goes e kinds.Semaphore moves (λ x. refl) (a s 0)
  thsemap_goes moves thsemap.SignalSema asks leave = signals_go e moves (a s 0)
  thsemap_goes moves thsemap.WaitSema asks leave =
      wait_sema_goes e moves (asks refl) (leave refl) (a s 0)
  thsemap_goes moves thsemap.PollSema asks leave = polls_sema_go e moves (a s 0)
  thsemap_goes moves thsemap.ReferSemaStatus asks leave =
      status_goes e kinds.Semaphore semaphore_words SEMAPHORE_STATUS_WORDS (λ o. refl) (a s 0)
      (place s (a s 1) SEMAPHORE_STATUS_WORDS)
      (words_inside s.memory (a s 1) SEMAPHORE_STATUS_WORDS)

  pub thevent_goes : ObjectMoves P Q Asks s MayLeave kinds.EventFlag → Sets P Q Asks s
      → (x : TheventService) → IsAsked (Thevent x) Asks → IsLeft (Thevent x) MayLeave
      → BoardEnds Q s (serves_thevent (board_of s) x)
  unfolding serves_thevent asks_for_thread may_leave
  thevent_goes moves setting thevent.CreateEventFlag asks leave =
      creates_flag_goes e moves (place s (a s 0) FLAG_WORDS)
  thevent_goes moves setting thevent.DeleteEventFlag asks leave =
      deletes_goes e kinds.EventFlag moves (λ x. refl) (a s 0)
  thevent_goes moves setting thevent.SetEventFlag asks leave =
      sets_flag_goes e moves setting (a s 0) (a s 1)
  thevent_goes moves setting thevent.ClearEventFlag asks leave = clears_go e moves (a s 0) (a s 1)
  thevent_goes moves setting thevent.WaitEventFlag asks leave =
      waits_flag_goes e moves (a s 0) (wanted s.core) (asks refl) (leave refl)
  thevent_goes moves setting thevent.PollEventFlag asks leave =
      polls_flag_goes e moves (a s 0) (wanted s.core)
  thevent_goes moves setting thevent.ReferEventFlagStatus asks leave =
      status_goes e kinds.EventFlag flag_words FLAG_STATUS_WORDS (λ o. refl) (a s 0)
      (place s (a s 1) FLAG_STATUS_WORDS)
      (words_inside s.memory (a s 1) FLAG_STATUS_WORDS)

  pub thmsgbx_goes : ObjectMoves P Q Asks s MayLeave kinds.Mailbox → (x : ThmsgbxService)
      → IsAsked (Thmsgbx x) Asks → IsLeft (Thmsgbx x) MayLeave
      → BoardEnds Q s (serves_thmsgbx (board_of s) x)
  unfolding serves_thmsgbx asks_for_thread may_leave
  thmsgbx_goes moves thmsgbx.CreateMbx asks leave =
      creates_mbx_goes e moves (place s (a s 0) MAILBOX_WORDS)
  thmsgbx_goes moves thmsgbx.DeleteMbx asks leave = deletes_goes e kinds.Mailbox moves (λ x. refl) (a s 0)
  thmsgbx_goes moves thmsgbx.SendMbx asks leave = sends_go e moves (a s 0) (a s 1)
  thmsgbx_goes moves thmsgbx.ReceiveMbx asks leave =
      waits_mbx_goes e moves (asks refl) (leave refl) (a s 0) (a s 1)
  thmsgbx_goes moves thmsgbx.PollMbx asks leave = polls_mbx_goes e moves (a s 0) (a s 1)
  thmsgbx_goes moves thmsgbx.ReferMbxStatus asks leave =
      status_goes e kinds.Mailbox mailbox_words MAILBOX_STATUS_WORDS (λ o. refl) (a s 0)
      (place s (a s 1) MAILBOX_STATUS_WORDS)
      (words_inside s.memory (a s 1) MAILBOX_STATUS_WORDS)

  pub thvpool_goes : ObjectMoves P Q Asks s MayLeave kinds.VariablePool → Meets P Q Asks s
      → (x : ThvpoolService) → IsAsked (Thvpool x) Asks → IsLeft (Thvpool x) MayLeave
      → Ends Q (serves_thvpool s x)
  unfolding serves_thvpool asks_for_thread may_leave
  thvpool_goes moves meet thvpool.CreateVpl asks leave =
      creates_vpl_goes e moves (place s (a s 0) VPL_WORDS)
  thvpool_goes moves meet thvpool.DeleteVpl asks leave = deletes_vpl_goes e moves (a s 0)
  thvpool_goes moves meet thvpool.AllocateVpl asks leave =
      allocates_vpl_goes e moves (a s 0) (a s 1) (asks refl) (leave refl)
  thvpool_goes moves meet thvpool.PAllocateVpl asks leave = polls_vpl_go e moves (a s 0) (a s 1)
  thvpool_goes moves meet thvpool.FreeVpl asks leave = frees_vpl_go e moves meet (a s 0) (a s 1)
  thvpool_goes moves meet thvpool.ReferVplStatus asks leave =
      status_goes e kinds.VariablePool vpl_words VPL_STATUS_WORDS (λ o. refl) (a s 0)
      (place s (a s 1) VPL_STATUS_WORDS) (words_inside s.memory (a s 1) VPL_STATUS_WORDS)

  pub thfpool_goes : ObjectMoves P Q Asks s MayLeave kinds.FixedPool → (x : ThfpoolService)
      → IsAsked (Thfpool x) Asks → IsLeft (Thfpool x) MayLeave → Ends Q (serves_thfpool s x)
  unfolding serves_thfpool asks_for_thread may_leave
  thfpool_goes moves thfpool.CreateFpl asks leave =
      creates_fpl_goes e moves (place s (a s 0) FPL_WORDS)
  thfpool_goes moves thfpool.DeleteFpl asks leave = deletes_fpl_goes e moves (a s 0)
  thfpool_goes moves thfpool.AllocateFpl asks leave =
      allocates_fpl_goes e moves (a s 0) (asks refl) (leave refl)
  thfpool_goes moves thfpool.PAllocateFpl asks leave = polls_fpl_go e moves (a s 0)
  thfpool_goes moves thfpool.FreeFpl asks leave = frees_fpl_go e moves (a s 0) (a s 1)
  thfpool_goes moves thfpool.ReferFplStatus asks leave =
      status_goes e kinds.FixedPool fpl_words FPL_STATUS_WORDS (λ o. refl) (a s 0)
      (place s (a s 1) FPL_STATUS_WORDS) (words_inside s.memory (a s 1) FPL_STATUS_WORDS)

  pub thbase_goes : ThreadMoves P Q Asks s MayLeave → AlarmMoves P Q Asks s
      → (x : ThbaseService) → IsAsked (Thbase x) Asks → IsLeft (Thbase x) MayLeave
      → Ends Q (serves_thbase s x)
  unfolding serves_thbase asks_for_thread may_leave
  thbase_goes t alarms thbase.CreateThread asks leave =
      creates_go e t (place s (a s 0) PARAM_WORDS)
  thbase_goes t alarms thbase.DeleteThread asks leave = delete_goes e t (a s 0)
  thbase_goes t alarms thbase.StartThread asks leave = start_goes e t (a s 0) (a s 1)
  thbase_goes t alarms thbase.ExitThread asks leave =
      exits_go e t (e.no_thread (asks refl)) (leave refl) (caller s.core) refl
  thbase_goes t alarms thbase.ExitDeleteThread asks leave =
      exits_deleted_by_go e t (asks refl) (leave refl) (caller s.core) refl
  thbase_goes t alarms thbase.TerminateThread asks leave = terminate_goes e t (a s 0)
  thbase_goes t alarms thbase.DisableDispatchThread asks leave =
      set_goes e t false (λ off. asks refl)
  thbase_goes t alarms thbase.EnableDispatchThread asks leave =
      set_goes e t true (λ off. absurd (cc off))
  thbase_goes t alarms thbase.ChangeThreadPriority asks leave =
      changes_go e t (a s 0) (priority_of_word (a s 1))
  thbase_goes t alarms thbase.RotateThreadReadyQueue asks leave =
      rotates_by_go e t (leave refl) (a s 0) (priority_of_word (a s 0))
  thbase_goes t alarms thbase.ReleaseWaitThread asks leave = release_goes e t (a s 0)
  thbase_goes t alarms thbase.GetThreadId asks leave = only e _
  thbase_goes t alarms thbase.ReferThreadStatus asks leave =
      refers_go e (a s 0) (place s (a s 1) STATUS_WORDS)
      (words_inside s.memory (a s 1) STATUS_WORDS)
  thbase_goes t alarms thbase.SleepThread asks leave = sleep_goes e t (asks refl) (leave refl)
  thbase_goes t alarms thbase.WakeupThread asks leave = wakeup_goes e t (a s 0)
  thbase_goes t alarms thbase.CancelWakeupThread asks leave =
      cancels_go e t (named (caller s.core) (a s 0))
  thbase_goes t alarms thbase.SuspendThread asks leave = suspend_goes e t (a s 0)
  thbase_goes t alarms thbase.ResumeThread asks leave = resume_goes e t (a s 0)
  thbase_goes t alarms thbase.DelayThread asks leave =
      delay_goes e t (asks refl) (leave refl) (a s 0)
  thbase_goes t alarms thbase.GetSystemTime asks leave =
      writes_time_goes e s.core.kernel.clock (place s (a s 0) TIME_WORDS)
      (words_inside s.memory (a s 0) TIME_WORDS)
  thbase_goes t alarms thbase.SetAlarm asks leave =
      sets_alarm_goes e alarms (place s (a s 0) TIME_WORDS) (a s 1) (a s 2)
  thbase_goes t alarms thbase.CancelAlarm asks leave =
      answers_after e _ _ (alarms.cancels (a s 0) (a s 1))
  thbase_goes t alarms thbase.USec2SysClock asks leave =
      writes_time_goes e (ticks_of (a s 0)) (place s (a s 1) TIME_WORDS)
      (words_inside s.memory (a s 1) TIME_WORDS)
  thbase_goes t alarms thbase.SysClock2USec asks leave =
      converts_go e (place s (a s 0) TIME_WORDS) (place s (a s 1) 1) (place s (a s 2) 1)
      (words_inside s.memory (a s 1) 1) (words_inside s.memory (a s 2) 1)
