-- What holds of threads stays so, whichever service of threads is called.
use Rattle.std.proofs.Common.{◌≡◌, ℕ, ◌+◌, ◌*◌, ◌==◌, ◌&&◌, ◌||◌, not, Bool, true, false, if◌then◌else◌, Option, Some, None, Result, Ok, Err, refl, arith}
use Rattle.std.proofs.lemmas.Bool.Decides.{nat_tests}
use Rattle.std.proofs.lemmas.Bool.{cond_both}
use Rattle.iop_base.specs.Numbers.{number_at}
use Rattle.iop_base.specs.declared.code.Code.{Code}
use Rattle.iop_base.specs.declared.code.TheConstants.Code.{WAIT_RELEASED}
use Rattle.iop_ready.specs.Priorities.{IsPriority, priority_of as priority_of_word}
use Rattle.iop_services.specs.declared.thbase_service.ThbaseService.{ThbaseService}
use Rattle.iop_services.specs.declared.thbase_service.ThbaseService.TheVariants as service
use Rattle.iop_sysmem.specs.Allocating.{allocating}
use Rattle.iop_sysmem.specs.BlockMap.{BlockMap}
use Rattle.iop_thread.specs.Operations as threads
use Rattle.iop_thread.specs.States.{wait_in}
use Rattle.iop_thread.specs.ThreadTable.{ThreadTable, thread_of, priority_of, has_room, is_it, has_priority, running_thread}
use Rattle.iop_thread.specs.declared.param.Param.{Param}
use Rattle.iop_thread.specs.declared.thread.TheConstants.{LOADER}
use Rattle.iop_thread.specs.declared.thread.Thread.{Thread}
use Rattle.iop_thread.specs.declared.wait.Wait.{Wait}
use Rattle.iop_thread.specs.declared.wait.Wait.TheVariants.{Sleep, Delay, Object}
use Rattle.iop_time.specs.ClockTime.{ticks_of}
use Rattle.iop_kernel.specs.NamedThreads.{named, is_nobody_else}
use Rattle.iop_kernel.specs.Priorities.{set_dispatch, answers_change, changes_named, changes_if_priority, rotates_to, rotates_own, rotates_by}
use Rattle.iop_kernel.specs.Stacks.{param_of, creates_at, creates_with, creates_from, deletes_by, delete_thread, exits_deleted, exits_deleted_by, owner_of, Owner}
use Rattle.iop_kernel.specs.System.{Core, Left, Served, System, may_switch, argument, caller, opened, with_threads, words_place}
use Rattle.iop_kernel.specs.SystemClock.{waits_until, delay_thread, sets_alarm_at, writes_time, converts_at}
use Rattle.iop_kernel.specs.Boards.{board_of}
use Rattle.iop_kernel.specs.Thbase.{serves_thbase}
use Rattle.iop_kernel.specs.ThreadStarts.{start_thread, exits_by, returns_by, terminates_by, terminate_thread}
use Rattle.iop_kernel.specs.ThreadStatus.{refers_it, refers_to, refers_at}
use Rattle.iop_kernel.specs.ThreadWaits.{releases_from, releases_it, release_wait, sleeps_by, sleep_thread, wakeup_thread, cancels_of, suspend_thread, resume_thread}
use Rattle.iop_kernel.specs.Waits.{wakes_with, core_leaves, core_requeues}
use Rattle.iop_kernel.specs.declared.stacks.TheConstants.{FROM_ABOVE}
use Rattle.iop_resumable.proofs.AskedThreads.{IsAsked, CanCreate, word_so, asked_so}
use Rattle.iop_resumable.proofs.ServedThreads.{StillOf, Lasts, called_runs}

-- a thread no longer waits for an object, or with another priority
module _ (Of : ThreadTable → Type 0) where
  leaving_have : (c : Core) (thread : ℕ) (wait : Option Wait) → Of c.kernel.threads
      → Of (core_leaves c thread wait).kernel.threads
  leaving_have c thread (Some Delay) h = h
  leaving_have c thread (Some (Object kind id)) h = h
  leaving_have c thread other h = h

  requeueing_have : (c : Core) (thread priority : ℕ) (wait : Option Wait)
      → Of c.kernel.threads
      → Of (core_requeues c thread priority wait).kernel.threads
  requeueing_have c thread priority (Some (Object kind id)) h = h
  requeueing_have c thread priority other h = h

module _ (Of : ThreadTable → Type 0) (lasts : Lasts Of) (s : System)
    (h : Of s.core.kernel.threads) (makes : CanCreate Of s) where
  abbrev c : Core
  c = s.core

  abbrev table : ThreadTable
  table = s.core.kernel.threads

  abbrev CoreGoes : Left Core → Type 0
  CoreGoes left = Of left.state.kernel.threads

  abbrev OwnerGoes : Left Owner → Type 0
  OwnerGoes left = Of left.state.core.kernel.threads

  abbrev Goes : Served → Type 0
  Goes d = Of d.left.state.core.kernel.threads

  still : StillOf Of s.core.kernel.threads
  still = lasts s.core.kernel.threads h

  creates_at_go : (param : Param) → IsAsked param → (r : ℕ × BlockMap)
      → allocating s.blocks FROM_ABOVE param.stack_size 0 ≡ r → Goes (creates_at s param r)
  creates_at_go param asked (stack, blocks) is =
      cond_both (stack == 0) _ _ Goes (λ none. h)
      (λ some. makes param stack blocks asked is some)

  creates_with_go : (r : Result Param Code)
      → ((param : Param) → r ≡ Ok param → IsAsked param) → Goes (creates_with s r)
  creates_with_go (Err code) so = h
  creates_with_go (Ok param) so =
      cond_both (has_room table) _ _ Goes
      (λ room. creates_at_go param (so param refl) _ refl) (λ full. h)

  creates_go : (o : Option ℕ) → Goes (creates_from s o)
  creates_go None = h
  creates_go (Some place) =
      let word : ℕ → ℕ = λ k. number_at s.memory.ram (place + 4 * k) 4 in
      creates_with_go (param_of (word 0) (word 1) (word 2) (word 3) (word 4))
      (asked_so (word 0) (word 1) (word 2) (word 3) (word 4))

  deletes_go : (r : Result ℕ Code × ThreadTable) → Of r.1
      → OwnerGoes (deletes_by (owner_of s) r)
  deletes_go (Ok stack, left) is = is
  deletes_go (Err code, left) is = h

  delete_go : (id : ℕ) → OwnerGoes (delete_thread (owner_of s) id)
  delete_go id =
      cond_both (id == 0 || id == LOADER) _ _ OwnerGoes (λ refused. h)
      (λ other.
      let another : (id == LOADER) ≡ false = grind (arith, nat_tests, other) in
      deletes_go (threads.deletes table id) (still.deletes id another))

  start_go : (id argument : ℕ) → CoreGoes (start_thread c id argument)
  start_go id argument =
      cond_both (id == 0 || id == LOADER) _ _ CoreGoes (λ refused. h)
      (λ other. still.starts id argument (grind (arith, nat_tests, other)))

  -- the thread that calls ends
  called_ends : (id : ℕ) → caller c ≡ Some id → (id == LOADER) ≡ false
      → Of (threads.ends_running table)
  called_ends id calls other =
      still.ends_running id (called_runs c.kernel.handler table.running id calls) other

  pub exits_have : (who : Option ℕ) → caller c ≡ who → CoreGoes (exits_by c who)
  exits_have None calls = h
  exits_have (Some id) calls =
      cond_both (id == LOADER) _ _ CoreGoes (λ loader. h) (λ other. called_ends id calls other)

  pub returns_have : (who : Option ℕ) → CoreGoes (returns_by c who)
  returns_have None = h
  returns_have (Some id) = cond_both (id == LOADER) _ _ CoreGoes (λ loader. h) (λ other. h)

  exits_deleted_go : Of (threads.ends_running table) → (r : Result ℕ Code × ThreadTable)
      → Of r.1 → OwnerGoes (exits_deleted (owner_of s) r)
  exits_deleted_go ended (Ok stack, left) is = is
  exits_deleted_go ended (Err code, left) is = ended

  exits_deleted_by_go : (who : Option ℕ) → caller c ≡ who
      → OwnerGoes (exits_deleted_by (owner_of s) who)
  exits_deleted_by_go None calls = h
  exits_deleted_by_go (Some id) calls =
      cond_both (id == LOADER) _ _ OwnerGoes (λ loader. h)
      (λ other. let ended = called_ends id calls other in
      exits_deleted_go ended (threads.deletes (threads.ends_running table) id)
      ((lasts (threads.ends_running table) ended).deletes id other))

  terminates_go : (id : ℕ) (r : Result (Option Wait) Code × ThreadTable) → Of r.1
      → CoreGoes (terminates_by c id r)
  terminates_go id (Err code, left) is = h
  terminates_go id (Ok wait, left) is = leaving_have Of
      (with_threads (if is_it table.running id then opened c else c) left) id wait is

  terminate_go : (id : ℕ) → CoreGoes (terminate_thread c id)
  terminate_go id =
      cond_both (is_nobody_else c id || id == LOADER) _ _ CoreGoes (λ refused. h)
      (λ other.
      let another : (id == LOADER) ≡ false = grind (arith, nat_tests, other) in
      terminates_go id (threads.terminates table id) (still.terminates id another))

  set_go : (enabled : Bool) → CoreGoes (set_dispatch c enabled)
  set_go enabled = cond_both c.kernel.interrupts _ _ CoreGoes (λ on. h) (λ off. h)

  answers_change_go : (id priority : ℕ) (r : Result (Option Wait) Code × ThreadTable)
      → Of r.1 → CoreGoes (answers_change c id priority r)
  answers_change_go id priority (Err code, left) is = h
  answers_change_go id priority (Ok wait, left) is =
      requeueing_have Of (with_threads c left) id priority wait is

  changes_named_go : (priority : ℕ) → IsPriority priority → (o : Option ℕ)
      → CoreGoes (changes_named c priority o)
  changes_named_go priority so None = h
  changes_named_go priority so (Some id) =
      answers_change_go id priority (threads.changes table id priority)
      (still.changes id priority so)

  changes_go : (id : ℕ) (o : Option ℕ) → ((p : ℕ) → o ≡ Some p → IsPriority p)
      → CoreGoes (changes_if_priority c id o)
  changes_go id None so = h
  changes_go id (Some priority) so =
      changes_named_go priority (so priority refl) (named (caller c) id)

  rotates_go : (priority : ℕ) → CoreGoes (rotates_to c priority)
  rotates_go priority =
      cond_both (not (has_priority priority (running_thread table))) _ _ CoreGoes
      (λ other. still.rotates priority _)
      (λ own. cond_both (may_switch c.kernel) _ _ CoreGoes (λ may. still.rotates priority _)
      (λ cannot. h))

  rotates_own_go : (who : Option ℕ) → CoreGoes (rotates_own c who)
  rotates_own_go None = h
  rotates_own_go (Some id) = rotates_go (priority_of table.live id)

  rotates_by_go : (word : ℕ) (o : Option ℕ) → CoreGoes (rotates_by c word o)
  rotates_by_go word (Some priority) = rotates_go priority
  rotates_by_go word None =
      cond_both (word == 0) _ _ CoreGoes (λ own. rotates_own_go (caller c)) (λ other. h)

  releases_from_go : (id : ℕ) (o : Option Wait) → CoreGoes (releases_from c id o)
  releases_from_go id None = h
  releases_from_go id (Some wait) =
      leaving_have Of (wakes_with c id WAIT_RELEASED) id (Some wait) (still.wakes id _)

  releases_it_go : (o : Option Thread) → CoreGoes (releases_it c o)
  releases_it_go None = h
  releases_it_go (Some t) = releases_from_go t.id (wait_in t.state)

  release_go : (id : ℕ) → CoreGoes (release_wait c id)
  release_go id =
      cond_both (is_nobody_else c id) _ _ CoreGoes (λ refused. h)
      (λ other. releases_it_go (thread_of table.live id))

  sleeps_go : (r : Bool × ThreadTable) → Of r.1 → CoreGoes (sleeps_by c r)
  sleeps_go (true, left) is = is
  sleeps_go (false, left) is = still.blocks Sleep _

  sleep_go : CoreGoes (sleep_thread c)
  sleep_go =
      cond_both (may_switch c.kernel) _ _ CoreGoes
      (λ may. sleeps_go (threads.takes_wakeup table) still.takes_wakeup) (λ cannot. h)

  wakeup_go : (id : ℕ) → CoreGoes (wakeup_thread c id)
  wakeup_go id =
      cond_both (is_nobody_else c id) _ _ CoreGoes (λ refused. h) (λ other. still.wakes_up id)

  cancels_go : (o : Option ℕ) → CoreGoes (cancels_of c o)
  cancels_go None = h
  cancels_go (Some id) = still.cancels id

  suspend_go : (id : ℕ) → CoreGoes (suspend_thread c id)
  suspend_go id =
      cond_both (is_nobody_else c id) _ _ CoreGoes (λ refused. h)
      (λ other. cond_both (is_it table.running id && not c.kernel.dispatching) _ _ CoreGoes
      (λ refused. h) (λ may. still.suspends id _))

  resume_go : (id : ℕ) → CoreGoes (resume_thread c id)
  resume_go id =
      cond_both (is_nobody_else c id) _ _ CoreGoes (λ refused. h) (λ other. still.resumes id)

  waits_until_go : (moment : ℕ) (who : Option ℕ) → CoreGoes (waits_until c moment who)
  waits_until_go moment None = h
  waits_until_go moment (Some thread) = still.blocks Delay _

  delay_go : (us : ℕ) → CoreGoes (delay_thread c us)
  delay_go us =
      cond_both (may_switch c.kernel) _ _ CoreGoes (λ may. waits_until_go _ (caller c))
      (λ cannot. h)

  sets_alarm_go : (o : Option ℕ) (handler arg : ℕ)
      → CoreGoes (sets_alarm_at c s.memory o handler arg)
  sets_alarm_go None handler arg = h
  sets_alarm_go (Some place) handler arg = h

  refers_it_go : (place : ℕ) (o : Option Thread) → Goes (refers_it s place o)
  refers_it_go place None = h
  refers_it_go place (Some t) = h

  refers_to_go : (place : ℕ) (o : Option ℕ) → Goes (refers_to s place o)
  refers_to_go place None = h
  refers_to_go place (Some id) = refers_it_go place (thread_of table.live id)

  refers_go : (id : ℕ) (o : Option ℕ) → Goes (refers_at s id o)
  refers_go id None = h
  refers_go id (Some place) = refers_to_go place (named (caller c) id)

  writes_go : (ticks : ℕ) (o : Option ℕ)
      → Of (writes_time (board_of s) ticks o).left.state.core.kernel.threads
  writes_go ticks None = h
  writes_go ticks (Some place) = h

  converts_go : (time seconds rest : Option ℕ)
      → Of (converts_at (board_of s) time seconds rest).left.state.core.kernel.threads
  converts_go (Some time) (Some seconds) (Some rest) = h
  converts_go time seconds rest = h

  pub thbase_has : (x : ThbaseService) → Goes (serves_thbase s x)
  unfolding serves_thbase
  thbase_has service.CreateThread = creates_go _
  thbase_has service.DeleteThread = delete_go (argument c 0)
  thbase_has service.StartThread = start_go (argument c 0) (argument c 1)
  thbase_has service.ExitThread = exits_have (caller c) refl
  thbase_has service.ExitDeleteThread = exits_deleted_by_go (caller c) refl
  thbase_has service.TerminateThread = terminate_go (argument c 0)
  thbase_has service.DisableDispatchThread = set_go false
  thbase_has service.EnableDispatchThread = set_go true
  thbase_has service.ChangeThreadPriority =
      changes_go (argument c 0) (priority_of_word (argument c 1)) (word_so (argument c 1))
  thbase_has service.RotateThreadReadyQueue =
      rotates_by_go (argument c 0) (priority_of_word (argument c 0))
  thbase_has service.ReleaseWaitThread = release_go (argument c 0)
  thbase_has service.GetThreadId = h
  thbase_has service.ReferThreadStatus =
      refers_go (argument c 0) (words_place s.memory (argument c 1) 12)
  thbase_has service.SleepThread = sleep_go
  thbase_has service.WakeupThread = wakeup_go (argument c 0)
  thbase_has service.CancelWakeupThread = cancels_go (named (caller c) (argument c 0))
  thbase_has service.SuspendThread = suspend_go (argument c 0)
  thbase_has service.ResumeThread = resume_go (argument c 0)
  thbase_has service.DelayThread = delay_go (argument c 0)
  thbase_has service.GetSystemTime =
      writes_go s.core.kernel.clock (words_place s.memory (argument c 0) 2)
  thbase_has service.SetAlarm =
      sets_alarm_go (words_place s.memory (argument c 0) 2) (argument c 1) (argument c 2)
  thbase_has service.CancelAlarm = h
  thbase_has service.USec2SysClock =
      writes_go (ticks_of (argument c 0)) (words_place s.memory (argument c 1) 2)
  thbase_has service.SysClock2USec =
      converts_go (words_place s.memory (argument c 0) 2) (words_place s.memory (argument c 1) 1)
      (words_place s.memory (argument c 2) 1)
