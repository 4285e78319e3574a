-- What holds after each service of threads that looks at the kernel alone.
use Rattle.std.proofs.Common.{◌≡◌, ℕ, ◌==◌, Bool, true, false, not, ◌&&◌, ◌||◌, if◌then◌else◌, Option, Some, None, Result, Ok, Err, List, [], refl, arith}
use Rattle.std.proofs.lemmas.Bool.{cond_both}
use Rattle.std.proofs.lemmas.Bool.Decides.{nat_tests}
use Rattle.iop_base.specs.Piece.{Piece}
use Rattle.iop_base.specs.declared.code.Code.{Code}
use Rattle.iop_base.specs.declared.code.TheConstants.Code.{OK}
use Rattle.iop_base.specs.declared.guest_fault.GuestFault.TheVariants.{Service}
use Rattle.iop_thread.specs.Operations as threads
use Rattle.iop_thread.specs.States.{wait_in}
use Rattle.iop_thread.specs.ThreadTable.{ThreadTable, thread_of, priority_of, is_it, has_priority, running_thread}
use Rattle.iop_thread.specs.declared.thread.TheConstants.{LOADER}
use Rattle.iop_thread.specs.declared.thread.Thread.{Thread}
use Rattle.iop_thread.specs.declared.wait.Wait.{Wait}
use Rattle.iop_time.specs.ClockTime.{ticks_of, moment_after}
use Rattle.iop_kernel.specs.NamedThreads.{named, is_nobody_else}
use Rattle.iop_kernel.specs.Priorities.{set_dispatch, answers_change, changes_named, changes_if_priority, after_leaving, rotates_to, rotates_own, rotates_by}
use Rattle.iop_kernel.specs.Stacks.{deletes_by, delete_thread, exits_deleted, exits_deleted_by, owner_of}
use Rattle.iop_kernel.specs.System.{Core, Left, System, may_switch, caller, running_registers, with_threads, opened, answered, answers}
use Rattle.iop_kernel.specs.SystemClock.{waits_until, delay_thread}
use Rattle.iop_kernel.specs.ThreadStarts.{start_thread, exits_by, returns_by, terminates_by, terminate_thread, ended}
use Rattle.iop_kernel.specs.ThreadWaits.{releases_from, releases_it, release_wait, sleeps_by, sleep_thread, wakeup_thread, cancels_of, suspend_thread, resume_thread}
use Rattle.iop_kernel.specs.Waits.{core_leaves}
use Rattle.iop_kernel.specs.declared.after.After.{After}
use Rattle.iop_kernel.specs.declared.after.After.TheVariants.{Resume, Fault}
use Rattle.iop_kernel.proofs.Walk.Moves.{EachMoves, ThreadMoves, CoreEnds, OwnerEnds}

module _ {P : System → List Piece → Type 0} {Q : After → System → List Piece → Type 0}
    {Asks : Type 0} {s : System} (e : EachMoves P Q Asks s) where
  -- a word is answered after a change
  pub answers_after : (d : Core) (word : ℕ) → P (record s { core = d }) []
      → Q Resume (record s { core = answered d word }) []
  answers_after d word h = e.goes_on (record s { core = d }) [] word h

  -- or with none
  pub only : (word : ℕ) → Q Resume (record s { core = answered s.core word }) []
  only word = e.goes_on s [] word e.begins

  -- of two ways, both are such
  pub either : (b : Bool) (x y : Left Core) → (b ≡ true → CoreEnds Q s x)
      → (b ≡ false → CoreEnds Q s y)
      → CoreEnds Q s (if b then x else y)
  either b x y = cond_both b x y (CoreEnds Q s)

module _ {P : System → List Piece → Type 0} {Q : After → System → List Piece → Type 0}
    {Asks MayLeave : Type 0} {s : System} (e : EachMoves P Q Asks s)
    (h : ThreadMoves P Q Asks s MayLeave) where
  abbrev c : Core
  c = s.core

  abbrev CoreGoes : Left Core → Type 0
  CoreGoes = CoreEnds Q s

  -- a thread is started
  pub start_goes : (id argument : ℕ) → CoreGoes (start_thread c id argument)
  start_goes id argument =
      either e (id == 0 || id == LOADER) _ _ (λ refused. only e _)
      (λ other. answers_after e _ _ (h.starts id argument))

  -- the thread that calls ends
  pub exits_go : (caller c ≡ None → Q (Fault Service) s []) → MayLeave → (who : Option ℕ)
      → caller c ≡ who → CoreGoes (exits_by c who)
  exits_go faults leave None is = faults is
  exits_go faults leave (Some id) is =
      either e (id == LOADER) _ _ (λ loader. h.returns id 0 is loader leave)
      (λ other. h.ends id is other leave)

  -- its module returns
  pub returns_go : Q (Fault Service) s [] → MayLeave → (who : Option ℕ) → caller c ≡ who
      → CoreGoes (returns_by c who)
  returns_go faults leave None is = faults
  returns_go faults leave (Some id) is =
      either e (id == LOADER) _ _ (λ loader. h.returns id _ is loader leave)
      (λ other. faults)

  -- another thread ends, by what that comes to
  terminates_go : (id : ℕ) → is_nobody_else c id ≡ false
      → (r : Result (Option Wait) Code × ThreadTable) → threads.terminates c.kernel.threads id ≡ r
      → CoreGoes (terminates_by c id r)
  terminates_go id other (Err code, left) is = only e _
  terminates_go id other (Ok wait, left) is =
      cond_both (is_it c.kernel.threads.running id) (opened c) c
      (λ (d : Core). CoreGoes (answers (core_leaves (with_threads d left) id wait) OK))
      (λ runs. answers_after e _ _ (h.terminates_running id wait left other is runs))
      (λ rests. answers_after e _ _ (h.terminates id wait left other is rests))

  pub terminate_goes : (id : ℕ) → CoreGoes (terminate_thread c id)
  terminate_goes id =
      either e (is_nobody_else c id || id == LOADER) _ _ (λ refused. only e _)
      (λ other. terminates_go id (grind (arith, nat_tests, other))
      (threads.terminates c.kernel.threads id) refl)

  -- dispatch is enabled or disabled
  pub set_goes : (enabled : Bool) → (enabled ≡ false → Asks) → CoreGoes (set_dispatch c enabled)
  set_goes enabled asks =
      either e c.kernel.interrupts _ _
      (λ on. answers_after e _ _ (h.dispatch enabled on asks)) (λ off. only e _)

  -- a priority changes, by what that comes to
  answers_change_goes : (id priority : ℕ) (r : Result (Option Wait) Code × ThreadTable)
      → threads.changes c.kernel.threads id priority ≡ r
      → CoreGoes (answers_change c id priority r)
  answers_change_goes id priority (Err code, left) is = only e _
  answers_change_goes id priority (Ok wait, left) is =
      answers_after e _ _ (h.changes id priority wait left is)

  -- by the thread that is named
  changes_named_go : (priority : ℕ) (o : Option ℕ) → CoreGoes (changes_named c priority o)
  changes_named_go priority None = only e _
  changes_named_go priority (Some id) =
      answers_change_goes id priority (threads.changes c.kernel.threads id priority) refl

  -- by whether the word is a priority
  pub changes_go : (id : ℕ) (o : Option ℕ) → CoreGoes (changes_if_priority c id o)
  changes_go id None = only e _
  changes_go id (Some priority) = changes_named_go priority (named (caller c) id)

  -- the running thread is put behind the others, by whether it calls
  leaving_goes : MayLeave → (priority : ℕ)
      → has_priority priority (running_thread c.kernel.threads) ≡ true
      → may_switch c.kernel ≡ true → (who : Option ℕ) → caller c ≡ who
      → CoreGoes (record {
        state = with_threads (answered c 0)
            (threads.rotates c.kernel.threads priority (running_registers (answered c 0)));
        after = after_leaving c who;
      })
  leaving_goes leave priority own may None is =
      answers_after e _ 0 (h.rotates_beside priority own may is)
  leaving_goes leave priority own may (Some id) is = h.rotates_own priority id own may is leave

  -- the ready threads of a priority are rotated
  rotates_go : MayLeave → (priority : ℕ) → CoreGoes (rotates_to c priority)
  rotates_go leave priority =
      either e (not (has_priority priority (running_thread c.kernel.threads))) _ _
      (λ other. answers_after e _ 0 (h.rotates priority (grind (arith, nat_tests, other))))
      (λ own. either e (may_switch c.kernel) _ _
      (λ may. leaving_goes leave priority (grind (arith, nat_tests, own)) may (caller c) refl)
      (λ cannot. only e 0))

  rotates_own_go : MayLeave → (who : Option ℕ) → CoreGoes (rotates_own c who)
  rotates_own_go leave None = only e _
  rotates_own_go leave (Some id) = rotates_go leave (priority_of c.kernel.threads.live id)

  pub rotates_by_go : MayLeave → (word : ℕ) (o : Option ℕ) → CoreGoes (rotates_by c word o)
  rotates_by_go leave word (Some priority) = rotates_go leave priority
  rotates_by_go leave word None =
      either e (word == 0) _ _ (λ own. rotates_own_go leave (caller c)) (λ other. only e _)

  -- a wait ends, if there is one
  releases_from_go : (id : ℕ) (t : Thread) → thread_of c.kernel.threads.live id ≡ Some t
      → (o : Option Wait) → wait_in t.state ≡ o → CoreGoes (releases_from c t.id o)
  releases_from_go id t found None is = only e _
  releases_from_go id t found (Some wait) is =
      answers_after e _ _ (h.releases id t wait found is)

  releases_it_goes : (id : ℕ) (o : Option Thread) → thread_of c.kernel.threads.live id ≡ o
      → CoreGoes (releases_it c o)
  releases_it_goes id None found = only e _
  releases_it_goes id (Some t) found = releases_from_go id t found (wait_in t.state) refl

  pub release_goes : (id : ℕ) → CoreGoes (release_wait c id)
  release_goes id =
      either e (is_nobody_else c id) _ _ (λ refused. only e _)
      (λ other. releases_it_goes id (thread_of c.kernel.threads.live id) refl)

  -- the thread that calls sleeps, by whether it has a wakeup
  sleeps_go : Asks → MayLeave → may_switch c.kernel ≡ true → (r : Bool × ThreadTable)
      → threads.takes_wakeup c.kernel.threads ≡ r → CoreGoes (sleeps_by c r)
  sleeps_go asks leave may (true, left) is = answers_after e _ _ (h.takes_wakeup left is)
  sleeps_go asks leave may (false, left) is = h.sleeps left is may asks leave

  pub sleep_goes : Asks → MayLeave → CoreGoes (sleep_thread c)
  sleep_goes asks leave =
      either e (may_switch c.kernel) _ _
      (λ may. sleeps_go asks leave may (threads.takes_wakeup c.kernel.threads) refl)
      (λ cannot. only e _)

  -- a thread is woken
  pub wakeup_goes : (id : ℕ) → CoreGoes (wakeup_thread c id)
  wakeup_goes id =
      either e (is_nobody_else c id) _ _ (λ refused. only e _)
      (λ other. answers_after e _ _ (h.wakes_up id other))

  -- its wakeups are forgotten
  pub cancels_go : (o : Option ℕ) → CoreGoes (cancels_of c o)
  cancels_go None = only e _
  cancels_go (Some id) = answers_after e _ _ (h.cancels id)

  -- a thread is suspended
  pub suspend_goes : (id : ℕ) → CoreGoes (suspend_thread c id)
  suspend_goes id =
      either e (is_nobody_else c id) _ _ (λ refused. only e _)
      (λ other. either e (is_it c.kernel.threads.running id && not c.kernel.dispatching) _ _
      (λ refused. only e _) (λ may. answers_after e _ _ (h.suspends id other may)))

  -- it is resumed
  pub resume_goes : (id : ℕ) → CoreGoes (resume_thread c id)
  resume_goes id =
      either e (is_nobody_else c id) _ _ (λ refused. only e _)
      (λ other. answers_after e _ _ (h.resumes id other))

  -- the thread that calls waits for a time
  waits_until_goes : Asks → MayLeave → (moment : ℕ) → may_switch c.kernel ≡ true
      → (who : Option ℕ) → caller c ≡ who → CoreGoes (waits_until c moment who)
  waits_until_goes asks leave moment may None is = e.no_thread asks is
  waits_until_goes asks leave moment may (Some thread) is = h.delays moment thread is may leave

  pub delay_goes : Asks → MayLeave → (us : ℕ) → CoreGoes (delay_thread c us)
  delay_goes asks leave us =
      either e (may_switch c.kernel) _ _
      (λ may. waits_until_goes asks leave (moment_after c.kernel.clock (ticks_of us)) may
      (caller c) refl)
      (λ cannot. only e _)

  -- a dormant thread is deleted
  deletes_go : (id : ℕ) (r : Result ℕ Code × ThreadTable)
      → threads.deletes c.kernel.threads id ≡ r → OwnerEnds Q s (deletes_by (owner_of s) r)
  deletes_go id (Ok stack, left) is = e.goes_on _ [] _ (h.deletes id stack left is)
  deletes_go id (Err code, left) is = only e _

  pub delete_goes : (id : ℕ) → OwnerEnds Q s (delete_thread (owner_of s) id)
  delete_goes id =
      cond_both (id == 0 || id == LOADER) _ _ (OwnerEnds Q s) (λ refused. only e _)
      (λ other. deletes_go id (threads.deletes c.kernel.threads id) refl)

  -- the thread that calls has ended, and is deleted
  exits_deleted_go : MayLeave → (id : ℕ) → caller c ≡ Some id → (id == LOADER) ≡ false
      → (r : Result ℕ Code × ThreadTable) → threads.deletes (ended c).kernel.threads id ≡ r
      → OwnerEnds Q s (exits_deleted (owner_of s) r)
  exits_deleted_go leave id is other (Ok stack, left) did =
      h.ends_deleted id stack left is other did leave
  exits_deleted_go leave id is other (Err code, left) did = h.ends id is other leave

  pub exits_deleted_by_go : Asks → MayLeave → (who : Option ℕ) → caller c ≡ who
      → OwnerEnds Q s (exits_deleted_by (owner_of s) who)
  exits_deleted_by_go asks leave None is = e.no_thread asks is
  exits_deleted_by_go asks leave (Some id) is =
      cond_both (id == LOADER) _ _ (OwnerEnds Q s) (λ loader. h.returns id 0 is loader leave)
      (λ other.
      exits_deleted_go leave id is other (threads.deletes (ended c).kernel.threads id) refl)
