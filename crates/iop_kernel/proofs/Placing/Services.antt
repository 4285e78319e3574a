-- Threads and waiters stay placed, whatever is served.
use Rattle.std.proofs.Common.{ℕ, ◌+◌, Option, Some, option_map, List, All, ap, sym, ◌∙◌, subst, arith, refl}
use Rattle.std.specs.Prelude.{bit_or, ⊤}
use Rattle.std.proofs.lemmas.List.Elements.{All-nil}
use Rattle.iop_base.specs.Piece.{Piece}
use Rattle.iop_base.specs.declared.code.TheConstants.Code.{WAIT_RELEASED, OK, OBJECT_DELETED}
use Rattle.iop_event.specs.WakeConditions.{settles}
use Rattle.iop_exec.specs.Row.{reg}
use Rattle.iop_exec.specs.declared.cpu.Cpu.{Cpu}
use Rattle.iop_objects.specs.Objects.{waiters_in}
use Rattle.iop_objects.proofs.Apart.{none_stays}
use Rattle.iop_objects.proofs.Others.{changes_but, deletes_but, waiters_own}
use Rattle.iop_pools.specs.Pools.{with_ranges}
use Rattle.iop_pools.specs.Ranges.{without}
use Rattle.iop_thread.specs.Operations as threads
use Rattle.iop_thread.specs.Placing.{times}
use Rattle.iop_thread.specs.ThreadTable.{ThreadTable}
use Rattle.iop_thread.specs.declared.kind.Kind.TheVariants.{EventFlag, VariablePool}
use Rattle.iop_thread.specs.declared.wait.Wait.TheVariants.{Sleep}
use Rattle.iop_thread.proofs.FindingThreads.{finds_by_id}
use Rattle.iop_kernel.specs.EventFlags.{LiveFlag}
use Rattle.iop_kernel.specs.Kinds.{Live, table, waits_by_priority}
use Rattle.iop_kernel.specs.ObjectServices.{threads_in_order}
use Rattle.iop_kernel.specs.Placing.{IsPlaced, HasItsPriority}
use Rattle.iop_kernel.specs.Serving.{services}
use Rattle.iop_kernel.specs.System.{Kernel, System, running_registers, with_variable_pools, opened, answered, code_word}
use Rattle.iop_kernel.specs.ThreadStarts.{ended}
use Rattle.iop_kernel.specs.declared.after.After.{After}
use Rattle.iop_kernel.proofs.Keeping.Meetings.{threads_met}
use Rattle.iop_kernel.proofs.Keeping.RunningThread.{caller_runs}
use Rattle.iop_kernel.proofs.Placing.Basics.{comes, stand_on, places, moves, keeps, open_placed, ended_places, beside_placed}
use Rattle.iop_kernel.proofs.Placing.Kinds.{all_in_order, blocked_turns, delayed_placed, blocked_placed, chosen_placed, woken_placed, met_placed}
use Rattle.iop_kernel.proofs.Placing.Moves.{deleted_placed, made_placed, terminated_placed, changed_placed, woken_up_placed, set_placed, cancelled_placed, settled_flag, settled_rest, times_settled}
use Rattle.iop_kernel.proofs.Placing.Priorities.{all_waiting}
use Rattle.iop_kernel.proofs.Placing.Queues.{times_in}
use Rattle.iop_kernel.proofs.Placing.Steps.{handler_returned_places}
use Rattle.iop_kernel.proofs.Placing.Threads.{placed_own, placed_leaves, asleep_turns}
use Rattle.iop_kernel.proofs.Placing.Turns.{waited_state, waited_creates}
use Rattle.iop_kernel.proofs.Walk.Meeting.{meets_last}
use Rattle.iop_kernel.proofs.Walk.Moves.{Moves, CallMoves}
use Rattle.iop_kernel.proofs.Walk.Services.{services_go, asked_not}

module _ (s : System) (h : IsPlaced s.core.kernel) where
  abbrev k : Kernel
  k = s.core.kernel

  abbrev now : ThreadTable
  now = s.core.kernel.threads

  abbrev Kept : System → List Piece → Type 0
  Kept d given = IsPlaced d.core.kernel

  abbrev Ended : After → System → List Piece → Type 0
  Ended after d given = IsPlaced d.core.kernel

  abbrev registers : Cpu
  registers = running_registers s.core

  -- ready threads are rotated
  rotated : (priority : ℕ) → IsPlaced (record k {
    threads = threads.rotates now priority (running_registers (answered s.core 0));
  })
  rotated priority =
      let kept = running_registers (answered s.core 0) in
      stand_on k h ((places k h).rotates priority kept tt) ((moves k h).rotates priority kept)
      ((keeps k h).rotates priority kept)

  placed_moves : (library : ℕ) → Moves Kept Ended ⊤ s library
  placed_moves library = record {
    each = record {
      begins = h;
      stores = λ d given place bytes inside x. x;
      goes_on = λ d given word x. x;
      bad_place = h;
      no_thread = λ asked none. h;
      prints = λ text. h;
    };
    registry = λ own_library. record { registers = λ libraries. h };
    blocks = λ own_library. record { takes = λ mode size at. h; frees = λ at. h };
    interrupts = λ own_library. record {
      lines = λ left. beside_placed _ _ _ _ _ h;
      turns = λ on. beside_placed _ _ _ _ _ h;
    };
    alarms = λ own_library. record {
      sets = λ moment handler arg. set_placed k h moment handler arg (reg s.core.cpu 28);
      cancels = cancelled_placed k h;
    };
    threads = λ own_library. record {
      dispatch = λ enabled on asks. beside_placed _ _ _ _ _ h;
      creates = λ size param stack blocks is. made_placed k h param stack (reg s.core.cpu 28);
      deletes = λ id stack left is. comes k is (deleted_placed k h id);
      starts = λ id argument.
          stand_on k h ((places k h).starts id argument) ((moves k h).starts id argument)
          ((keeps k h).starts id argument);
      ends = λ id is other leave. ended_places s.core h;
      ends_deleted = λ id stack left is other did leave. let e = (ended s.core).kernel in
          comes e did (deleted_placed e (ended_places s.core h) id);
      returns = λ id word is loader leave. open_placed k h;
      terminates = λ id wait left other is rests. terminated_placed k h id wait left is;
      terminates_running = λ id wait left other is runs.
          terminated_placed (opened s.core).kernel (open_placed k h) id wait left is;
      changes = changed_placed k h;
      rotates = λ priority other. rotated priority;
      rotates_beside = λ priority own may is. rotated priority;
      rotates_own = λ priority id own may is leave. rotated priority;
      releases = λ id t wait found is. let word = code_word WAIT_RELEASED in
          let own = finds_by_id now id t found in
          let moved = (moves k h).wakes t.id word in
          placed_leaves k (threads.wakes now t.id word) h ((places k h).wakes t.id word) t.id
          moved.waits moved.live (all_waiting ((keeps k h).wakes t.id word)) (Some wait)
          (rw own is);
      takes_wakeup = λ left is.
          comes k is (stand_on k h (places k h).takes_wakeup (moves k h).takes_wakeup
          (keeps k h).takes_wakeup);
      sleeps = λ left is may asks leave. asleep_turns k h (blocked_turns k h Sleep registers);
      wakes_up = λ id other. woken_up_placed k h id;
      cancels = λ id.
          stand_on k h ((places k h).cancels id) ((moves k h).cancels id) ((keeps k h).cancels id);
      suspends = λ id other may.
          stand_on k h ((places k h).suspends id registers tt) ((moves k h).suspends id registers)
          ((keeps k h).suspends id registers);
      resumes = λ id other.
          stand_on k h ((places k h).resumes id) ((moves k h).resumes id) ((keeps k h).resumes id);
      delays = λ moment thread is may leave.
          delayed_placed k h registers moment thread (caller_runs s.core thread is);
    };
    objects = λ kind own_library. let t = table kind k in let mine = h.objects kind in record {
      makes = λ x blocks legal made. placed_own k h kind _ (waited_creates kind t mine x);
      deletes = λ o blocks found gone.
          woken_placed kind k h o.id (deletes_but t o.id) (threads_in_order kind o)
          (code_word OBJECT_DELETED) (λ x. omega (
            arith,
            ap (λ o. times_in x (waiters_in o)) (none_stays o.id t.live),
            all_in_order t o found (waits_by_priority kind o.state) x,
          ))
          (λ were. subst (λ (p : Option (Live kind)). All (HasItsPriority now) (waiters_in p))
          (sym (none_stays o.id t.live)) (All-nil (HasItsPriority now)));
      changes = λ id x y is how. placed_own k h kind _ (waited_state kind t mine id y);
      wakes = λ id word x one is chosen what. chosen_placed kind k h id x is one chosen word;
      waits = λ id thread x wants is may at must place leave.
          blocked_placed kind k h id registers thread (caller_runs s.core thread is) x at wants;
    };
    sets = λ own_library bits o found. let pattern = bit_or o.state.pattern bits in
        let settled = settles pattern o.waiters in
        let flags = k.event_flags in
        let waiters = waiters_own o.id (settled_flag settled) (λ u. refl) flags
        ∙ ap (λ (x : Option LiveFlag). waiters_in (option_map (settled_flag settled) x)) found in
        woken_placed EventFlag k h o.id (changes_but o.id (settled_flag settled) (λ u. refl) flags)
        (threads_met settled.met) (code_word OK)
        (λ t. ap (λ ws. times_in t ws + times t (threads_met settled.met)) waiters
        ∙ times_settled t pattern o.waiters
        ∙ ap (λ (x : Option LiveFlag). times_in t (waiters_in x)) (sym found))
        (λ were. subst (All (HasItsPriority now)) (sym waiters)
        (settled_rest (HasItsPriority now) pattern o.waiters
        (subst (λ (x : Option LiveFlag). All (HasItsPriority now) (waiters_in x)) found were)));
    meets = λ own_library id block x known there.
        let left = with_ranges k.variable_pools id x (without block x.ranges) in
        meets_last (λ d. IsPlaced d.kernel) id
        (λ c met rest is placed. met_placed c.kernel placed id met rest is)
        (with_variable_pools s.core left)
        (placed_own k h VariablePool left
        (waited_state VariablePool k.variable_pools (h.objects VariablePool) id _));
  }

  placed_calls : CallMoves Kept Ended ⊤ s
  placed_calls = record {
    unlisted = λ library number. h;
    no_service = h;
    handler = λ handler is. handler_returned_places s.core h handler;
  }

-- whatever is served
pub services_place : (s : System) (code : ℕ) → IsPlaced s.core.kernel
    → IsPlaced (services s code).left.state.core.kernel
services_place s code h = services_go (placed_moves s h) (placed_calls s h) (asked_not s) code
