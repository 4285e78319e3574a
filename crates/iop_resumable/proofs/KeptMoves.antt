-- What is kept can be read back, whatever is served.
use Rattle.std.proofs.Common.{◌≡◌, ℕ, ◌+◌, true, Option, Some, None, List, ap, sym, subst, arith}
use Rattle.std.specs.Prelude.{⊤, IfSome}
use Rattle.iop_base.specs.Piece.{Piece}
use Rattle.iop_base.specs.declared.code.TheConstants.Code.{OK, OBJECT_DELETED, WAIT_RELEASED}
use Rattle.iop_exec.specs.Row.{reg}
use Rattle.iop_pools.specs.Pools.{with_ranges}
use Rattle.iop_pools.specs.Ranges.{without}
use Rattle.iop_thread.specs.Laws.{Keeps, AnyWait}
use Rattle.iop_thread.specs.Operations as threads
use Rattle.iop_thread.specs.ThreadTable.{ThreadTable}
use Rattle.iop_thread.specs.declared.wait.Wait.TheVariants.{Sleep, Delay, Object}
use Rattle.iop_kernel.specs.ObjectServices.{threads_in_order}
use Rattle.iop_kernel.specs.Serving.{services}
use Rattle.iop_kernel.specs.System.{Kernel, Core, System, running_registers, with_threads, with_timers, with_variable_pools, opened, answered, code_word}
use Rattle.iop_kernel.specs.ThreadStarts.{ended}
use Rattle.iop_time.specs.Timers.{delays}
use Rattle.iop_kernel.specs.Waits.{wakes_with}
use Rattle.iop_kernel.specs.declared.active_handler.ActiveHandler.{ActiveHandler}
use Rattle.iop_kernel.specs.declared.after.After.{After}
use Rattle.iop_kernel_laws.proofs.Keeping.Handlers.{gives_to}
use Rattle.iop_kernel.proofs.Keeping.Meetings.{met_of, threads_met}
use Rattle.iop_kernel.proofs.Walk.Meeting.{all_met}
use Rattle.iop_kernel.proofs.Walk.Moves.{Moves, CallMoves}
use Rattle.iop_kernel.proofs.Walk.Services.{services_go, asked_not}
use Rattle.iop_saved_kernel.specs.Laws.{IsReadableKept}
use Rattle.iop_resumable.proofs.Kept.{HoldsOf, with_them, numbered, answered_holds, running_kept, woken_kept, met_kept, leaving_holds, requeueing_holds, sets_later, cancels_later}
use Rattle.iop_resumable.proofs.KeptRegisters.{AreKept, keeps_kept}

-- what a handler keeps
pub kept_by : (o : Option ActiveHandler) (handler : ActiveHandler)
    → IfSome o (λ handler. IsReadableKept handler.kept) → o ≡ Some handler
    → IsReadableKept handler.kept
kept_by o handler keeps is =
    subst (λ (x : Option ActiveHandler). IfSome x (λ handler. IsReadableKept handler.kept)) is keeps

-- the threads are what an operation comes to
made : {A : Type 0} (r : A × ThreadTable) (a : A) (t : ThreadTable) → r ≡ (a, t) → AreKept r.1
    → AreKept t
made r a t is = subst AreKept (ap (λ x. x.1) is)

ended_holds : (c : Core) → HoldsOf c → HoldsOf (ended c)
ended_holds c h = with_them c h _ (keeps_kept c.kernel.threads h.threads).ends_running

module _ (s : System) (h : HoldsOf s.core) where
  abbrev now : Core
  now = s.core

  abbrev table : ThreadTable
  table = s.core.kernel.threads

  abbrev P : System → List Piece → Type 0
  P d given = HoldsOf d.core

  abbrev Q : After → System → List Piece → Type 0
  Q after d given = HoldsOf d.core

  keeps : Keeps AreKept IsReadableKept AnyWait s.core.kernel.threads
  keeps = keeps_kept s.core.kernel.threads h.threads

  abbrev rotating : (priority : ℕ) → ThreadTable
  rotating priority = threads.rotates table priority (running_registers (answered now 0))

  rotated : (priority : ℕ) → HoldsOf (with_threads now (rotating priority))
  rotated priority =
      let done = answered now 0 in
      with_them now h _ (keeps.rotates priority (running_registers done)
      (running_kept done (answered_holds now 0 h)))

  kept_moves : (library : ℕ) → Moves P Q ⊤ s library
  kept_moves library = record {
    each = record {
      begins = h;
      stores = λ d given place bytes inside x. x;
      goes_on = λ d given word x. answered_holds d.core word x;
      bad_place = h;
      no_thread = λ asked none. h;
      prints = λ text. h;
    };
    registry = λ own_library. record { registers = λ libraries. h };
    blocks = λ own_library. record { takes = λ mode size at. h; frees = λ at. h };
    interrupts = λ own_library. record { lines = λ left. h; turns = λ on. h };
    alarms = λ own_library. record {
      sets = λ moment handler arg.
          numbered now h _ (sets_later now.kernel.timers moment handler arg (reg now.cpu 28));
      cancels = λ handler arg. numbered now h _ (cancels_later now.kernel.timers handler arg);
    };
    threads = λ own_library. record {
      dispatch = λ enabled on asks. h;
      creates = λ size param stack blocks is.
          with_them now h _ (keeps.creates param stack (reg now.cpu 28));
      deletes = λ id stack left is.
          with_them now h left (made (threads.deletes table id) _ left is (keeps.deletes id));
      starts = λ id argument. with_them now h _ (keeps.starts id argument);
      ends = λ id is other leave. ended_holds now h;
      ends_deleted = λ id stack left is other did leave.
          let e = ended_holds now h in
          with_them (ended now) e left
          (made (threads.deletes (ended now).kernel.threads id) _ left did
          ((keeps_kept (ended now).kernel.threads e.threads).deletes id));
      returns = λ id word is loader leave. h;
      terminates = λ id wait left other is rests.
          leaving_holds (with_threads now left) id wait
          (with_them now h left
          (made (threads.terminates table id) _ left is (keeps.terminates id)));
      terminates_running = λ id wait left other is runs.
          leaving_holds (with_threads (opened now) left) id wait
          (with_them now h left
          (made (threads.terminates table id) _ left is (keeps.terminates id)));
      changes = λ id priority wait left is.
          requeueing_holds (with_threads now left) id priority wait
          (with_them now h left (made (threads.changes table id priority) _ left is
          (keeps.changes id priority)));
      rotates = λ priority other. rotated priority;
      rotates_beside = λ priority own may is. rotated priority;
      rotates_own = λ priority id own may is leave.
          answered_holds (with_threads now (rotating priority)) 0 (rotated priority);
      releases = λ id t wait found is.
          leaving_holds (wakes_with now t.id WAIT_RELEASED) t.id (Some wait)
          (with_them now h _ (keeps.wakes t.id (code_word WAIT_RELEASED)));
      takes_wakeup = λ left is.
          with_them now h left (made (threads.takes_wakeup table) _ left is keeps.takes_wakeup);
      sleeps = λ left is may asks leave. with_them now h _
          (keeps.blocks Sleep (running_registers now) (running_kept now h) tt);
      wakes_up = λ id other. with_them now h _ (keeps.wakes_up id);
      cancels = λ id. with_them now h _ (keeps.cancels id);
      suspends = λ id other may.
          with_them now h _ (keeps.suspends id (running_registers now) (running_kept now h));
      resumes = λ id other. with_them now h _ (keeps.resumes id);
      delays = λ moment thread is may leave.
          with_them (with_timers now (delays now.kernel.timers moment thread))
          (numbered now h (now.kernel.timers.next + 1) (omega arith)) _
          (keeps.blocks Delay (running_registers now) (running_kept now h) tt);
    };
    objects = λ kind own_library. record {
      makes = λ x blocks first on. h;
      deletes = λ o blocks found gone.
          with_them now h _ (woken_kept (threads_in_order kind o) table (code_word OBJECT_DELETED)
          h.threads);
      changes = λ id x y known how. h;
      wakes = λ id word x one known chosen is.
          with_them now h _ (keeps.wakes one.one.item.thread word);
      waits = λ id thread x wants is may known must place leave. with_them now h _
          (keeps.blocks (Object kind id) (running_registers now) (running_kept now h) tt);
    };
    sets = λ own_library bits o found.
        with_them now h _ (woken_kept (threads_met (met_of o bits)) table (code_word OK) h.threads);
    meets = λ own_library id block x known there.
        let met = all_met id (with_variable_pools now
        (with_ranges now.kernel.variable_pools id x (without block x.ranges))) in
        subst HoldsOf (sym met.core) (with_them now h _ (met_kept met.met table h.threads));
  }

  kept_calls : CallMoves P Q ⊤ s
  kept_calls = record {
    unlisted = λ library number. h;
    no_service = h;
    handler = λ handler is.
        let gives = gives_to now.kernel handler.cause (reg now.cpu 2) in
        subst (λ (k : Kernel). HoldsOf (record {
          kernel = record k { interrupts = true; handler = None };
          cpu = handler.kept;
        })) (sym gives.is) (record {
          threads = h.threads;
          handler = tt;
          cause = tt;
          processor = kept_by now.kernel.handler handler h.handler is;
        });
  }

  -- whatever is served
  pub services_hold : (code : ℕ) → HoldsOf (services s code).left.state.core
  services_hold code = services_go kept_moves kept_calls (asked_not s) code
