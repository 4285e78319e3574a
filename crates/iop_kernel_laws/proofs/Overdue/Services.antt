-- No wait is overdue, whatever is served.
use Rattle.std.proofs.Common.{◌≡◌, ℕ, Bool, true, false, Option, Some, None, IfSome, List, nat_lt, ◌-◌, ap, subst, arith, sym}
use Rattle.std.specs.Prelude.{⊤, bit_or}
use Rattle.std.proofs.lemmas.Bool.{cond_both, ltb-false}
use Rattle.iop_base.specs.Piece.{Piece}
use Rattle.iop_base.specs.declared.code.TheConstants.Code.{OK, OBJECT_DELETED, WAIT_RELEASED}
use Rattle.iop_event.specs.WakeConditions.{settles}
use Rattle.iop_event.proofs.Settling.{none_overdue}
use Rattle.iop_exec.specs.Row.{reg}
use Rattle.iop_thread.specs.Operations as threads
use Rattle.iop_thread.specs.ThreadTable.{ThreadTable, running_thread, with_wakeups}
use Rattle.iop_thread.specs.declared.kind.Kind.TheVariants.{EventFlag}
use Rattle.iop_thread.specs.declared.thread.Thread.{Thread}
use Rattle.iop_thread.specs.declared.wait.Wait.TheVariants.{Sleep, Delay, Object}
use Rattle.iop_time.specs.Timers.{delays}
use Rattle.iop_kernel.specs.Kinds.{table, waits_by_priority}
use Rattle.iop_kernel.specs.ObjectServices.{threads_in_order}
use Rattle.iop_kernel.specs.Overdue.{NoneOverdue}
use Rattle.iop_kernel.specs.Serving.{services}
use Rattle.iop_kernel.specs.System.{Kernel, System, running_registers, answered, code_word, opened}
use Rattle.iop_kernel.specs.ThreadStarts.{ended}
use Rattle.iop_kernel.specs.declared.after.After.{After}
use Rattle.iop_kernel_laws.proofs.Keeping.Handlers.{gives_to}
use Rattle.iop_kernel.proofs.Keeping.Meetings.{met_of, threads_met}
use Rattle.iop_kernel.proofs.Overdue.Kernels.{sleepers, with_other_threads, threads_come, woken_in_time, blocked_in_time, beside_in_time, opened_in_time, leaves_in_time, requeues_in_time, in_time_of, with_other_objects}
use Rattle.iop_kernel.proofs.Overdue.Kinds.{settles_in_time, chosen_in_time, waits_in_time, creates_in_time, deletes_in_time, changes_in_time}
use Rattle.iop_kernel_laws.proofs.Overdue.Meeting.{met_in_time}
use Rattle.iop_kernel.proofs.Walk.Moves.{Moves, CallMoves}
use Rattle.iop_kernel.proofs.Walk.Services.{services_go, asked_not}

-- where the running thread found no wakeup it has none
none_to_take : (s : ThreadTable) (o : Option Thread) → (threads.takes_wakeup_it s o).0 ≡ false
    → IfSome o (λ t. t.wakeups ≡ 0)
none_to_take s None = λ found. tt
none_to_take s (Some t) =
    cond_both (nat_lt 0 t.wakeups) (true, with_wakeups s t (t.wakeups - 1)) (false, s)
    (λ (r : Bool × ThreadTable). r.0 ≡ false → t.wakeups ≡ 0) (λ some found. cc)
    (λ none found. omega (arith, ltb-false 0 t.wakeups none))

module _ (s : System) (h : NoneOverdue s.core.kernel) where
  abbrev k : Kernel
  k = s.core.kernel

  abbrev InTimeSystem : System → List Piece → Type 0
  InTimeSystem d given = NoneOverdue d.core.kernel

  abbrev InTimeAfter : After → System → List Piece → Type 0
  InTimeAfter after d given = NoneOverdue d.core.kernel

  -- the running thread ends
  ended_so : NoneOverdue (ended s.core).kernel
  ended_so =
      with_other_threads (opened s.core).kernel (opened_in_time k h) _ (sleepers k h).ends_running

  -- ready threads are rotated
  rotated : (priority : ℕ) → NoneOverdue (record k {
    threads = threads.rotates k.threads priority (running_registers (answered s.core 0));
  })
  rotated priority =
      with_other_threads k h _
      ((sleepers k h).rotates priority (running_registers (answered s.core 0)) tt)

  in_time : (library : ℕ) → Moves InTimeSystem InTimeAfter ⊤ s library
  in_time library = record {
    each = record {
      begins = h;
      stores = λ d given place bytes inside now. now;
      goes_on = λ d given word now. now;
      bad_place = h;
      no_thread = λ asked none. h;
      prints = λ text. h;
    };
    registry = λ own_library. record { registers = λ libraries. h };
    blocks = λ own_library. record { takes = λ mode size at. h; frees = λ at. h };
    interrupts = λ own_library. record {
      lines = λ left. beside_in_time k h _ _ _ _ _ _;
      turns = λ on. beside_in_time k h _ _ _ _ _ _;
    };
    alarms = λ own_library. record {
      sets = λ moment handler arg. beside_in_time k h _ _ _ _ _ _;
      cancels = λ handler arg. beside_in_time k h _ _ _ _ _ _;
    };
    threads = λ own_library. record {
      dispatch = λ enabled on asks. beside_in_time k h _ _ _ _ _ _;
      creates = λ size param stack blocks is.
          with_other_threads k h _ ((sleepers k h).creates param stack (reg s.core.cpu 28));
      deletes = λ id stack left is. threads_come k h is ((sleepers k h).deletes id);
      starts = λ id argument. with_other_threads k h _ ((sleepers k h).starts id argument);
      ends = λ id is other leave. ended_so;
      ends_deleted = λ id stack left is other did leave. let e = (ended s.core).kernel in
          threads_come e ended_so did ((sleepers e ended_so).deletes id);
      returns = λ id word is loader leave. opened_in_time k h;
      terminates = λ id wait left other is rests.
          leaves_in_time _ (threads_come k h is ((sleepers k h).terminates id)) id wait;
      terminates_running = λ id wait left other is runs.
          leaves_in_time _ (threads_come (opened s.core).kernel (opened_in_time k h) is
          ((sleepers k h).terminates id)) id wait;
      changes = λ id priority wait left is.
          requeues_in_time _ (threads_come k h is ((sleepers k h).changes id priority)) id priority
          wait;
      rotates = λ priority other. rotated priority;
      rotates_beside = λ priority own may is. rotated priority;
      rotates_own = λ priority id own may is leave. rotated priority;
      releases = λ id t wait found is.
          leaves_in_time _
          (with_other_threads k h _ ((sleepers k h).wakes t.id (code_word WAIT_RELEASED))) t.id
          (Some wait);
      takes_wakeup = λ left is. threads_come k h is (sleepers k h).takes_wakeup;
      sleeps = λ left is may asks leave.
          with_other_threads k h _
          ((sleepers k h).blocks Sleep (running_registers s.core) tt (λ asleep.
          none_to_take k.threads (running_thread k.threads)
          (ap (λ (r : Bool × ThreadTable). r.0) is)));
      wakes_up = λ id other. with_other_threads k h _ ((sleepers k h).wakes_up id);
      cancels = λ id. with_other_threads k h _ ((sleepers k h).cancels id);
      suspends = λ id other may.
          with_other_threads k h _ ((sleepers k h).suspends id (running_registers s.core) tt);
      resumes = λ id other. with_other_threads k h _ ((sleepers k h).resumes id);
      delays = λ moment thread is may leave.
          blocked_in_time _ (beside_in_time k h _ _ _ _ (delays k.timers moment thread) _) Delay
          (running_registers s.core) (λ asleep. cc asleep);
    };
    objects = λ kind own_library. let t = table kind k in let due = in_time_of k h kind in record {
      makes = λ x blocks legal made. with_other_objects k h kind _ (creates_in_time kind t due x);
      deletes = λ o blocks found gone.
          with_other_objects _ (woken_in_time k h (threads_in_order kind o)
          (code_word OBJECT_DELETED)) kind _ (deletes_in_time kind t due o.id);
      changes = λ id x y known how.
          with_other_objects k h kind _ (changes_in_time kind t due id x y known how);
      wakes = λ id word x one known chosen is.
          with_other_threads _
          (with_other_objects k h kind _
          (chosen_in_time kind t due id (waits_by_priority kind x) one chosen)) _
          ((sleepers k h).wakes one.one.item.thread word);
      waits = λ id thread x wants is may known must place leave.
          blocked_in_time _ (with_other_objects k h kind _
          (waits_in_time kind t due id x _ known must)) (Object kind id)
          (running_registers s.core) (λ asleep. cc asleep);
    };
    sets = λ own_library bits o found. let now = bit_or o.state.pattern bits in
        woken_in_time _ (with_other_objects k h EventFlag _
        (settles_in_time k.event_flags (in_time_of k h EventFlag) o.id (settles now o.waiters)
        (none_overdue now o.waiters))) (threads_met (met_of o bits)) (code_word OK);
    meets = λ own_library id block x known there. met_in_time s.core h id block x known;
  }

  in_time_calls : CallMoves InTimeSystem InTimeAfter ⊤ s
  in_time_calls = record {
    unlisted = λ library number. h;
    no_service = h;
    handler = λ handler is.
        subst (λ (left : Kernel). NoneOverdue (record left { interrupts = true; handler = None }))
        (sym (gives_to k handler.cause (reg s.core.cpu 2)).is)
        (beside_in_time k h _ _ _ _ _ _);
  }

-- whatever is served, whoever calls and wherever threads stand
pub services_overdue : (s : System) (code : ℕ) → NoneOverdue s.core.kernel
    → NoneOverdue (services s code).left.state.core.kernel
services_overdue s code h = services_go (in_time s h) (in_time_calls s h) (asked_not s) code
