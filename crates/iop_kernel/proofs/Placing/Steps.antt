-- Threads and waiters stay placed over deliveries and dispatches, where the loader's thread begins
-- and ends, and when a handler returns.
use Rattle.std.proofs.Common.{◌≡◌, ℕ, ◌<◌, ◌==◌, Bool, true, Option, Some, None, option_and_then, find, List, [], ◌∷◌, refl, subst, arith}
use Rattle.std.specs.Prelude.{⊤}
use Rattle.std.proofs.lemmas.Bool.{cond_both}
use Rattle.std.proofs.lemmas.Bool.Decides.{nat_tests}
use Rattle.iop_base.specs.Numbers.{one_if}
use Rattle.iop_base.specs.Piece.{Piece}
use Rattle.iop_base.specs.declared.code.TheConstants.Code.{OK}
use Rattle.iop_exec.specs.Row.{reg}
use Rattle.iop_thread.specs.Operations as threads
use Rattle.iop_thread.specs.Placing.{times}
use Rattle.iop_thread.specs.declared.wait.Wait.{Wait}
use Rattle.iop_thread.specs.declared.wait.Wait.TheVariants.{Delay}
use Rattle.iop_time.specs.Taking.{timer_of, takes_due}
use Rattle.iop_time.specs.Timers.{Timers, drops_delay, removes, sets_again}
use Rattle.iop_time.specs.Turns.{due as due_at}
use Rattle.iop_time.specs.declared.delay.Delay.{Delay as DelayOf}
use Rattle.iop_time.specs.declared.due.Due.TheVariants as due
use Rattle.iop_time.proofs.Keeping.{sets_again-keeps, without_alarms-keeps}
use Rattle.iop_kernel.specs.Deliveries.{Delivered, delivers_due}
use Rattle.iop_kernel.specs.Handlers.{alarm_gives, gives_result, handler_returned}
use Rattle.iop_kernel.specs.Placing.{IsPlaced, is_for_delay}
use Rattle.iop_kernel.specs.System.{Kernel, Core, with_timers, code_word}
use Rattle.iop_kernel.specs.Waits.{wakes_with}
use Rattle.iop_kernel.specs.declared.active_handler.ActiveHandler.{ActiveHandler}
use Rattle.iop_kernel.specs.declared.active_handler.Cause.{Cause}
use Rattle.iop_kernel.specs.declared.active_handler.Cause.TheVariants.{Line, Alarm}
use Rattle.iop_kernel.proofs.Placing.Basics.{places, moves, keeps, stand_on, timers_placed, beside_placed}
use Rattle.iop_kernel.proofs.Placing.Priorities.{all_waiting}
use Rattle.iop_kernel.proofs.Placing.Queues.{delayed}
use Rattle.iop_kernel.proofs.Placing.Threads.{placed_leaves}
use Rattle.iop_kernel.proofs.Walk.Steps.{DueComes, due_goes, Steps}

-- a wait for a time is for nothing else
for_delay : (wait : Option Wait) → 0 < one_if (is_for_delay wait) → wait ≡ Some Delay
for_delay (Some Delay) is = refl
for_delay other is = absurd (omega (arith, is))

-- a delay that is found is that of its thread
found_delay : (ds : List DelayOf) (p : DelayOf → Bool) (delay : DelayOf) → find p ds ≡ Some delay
    → 0 < times delay.thread (delayed ds)
found_delay [] p delay found = cc
found_delay (d ∷ ds) p delay found = grind (arith, nat_tests, found, found_delay ds p delay)

-- the delay that is taken stood
taken_stood : (timers : Timers) (number : Option ℕ) (delay : DelayOf)
    → option_and_then (timer_of timers) number ≡ Some (due.Delay delay)
    → 0 < times delay.thread (delayed timers.delays)
taken_stood timers None delay taken = cc
taken_stood timers (Some number) delay taken =
    found_delay timers.delays (λ delay. delay.number == number) delay (grind (arith, taken))

module _ (c : Core) (h : IsPlaced c.kernel) where
  abbrev k : Kernel
  k = c.kernel

  -- where something is delivered
  abbrev StaysPlaced : Core → Piece → Type 0
  StaysPlaced d line = IsPlaced d.kernel

  -- the thread of a delay that is taken is woken
  delay_delivered : (delay : DelayOf) → (takes_due k.timers k.clock).0 ≡ Some (due.Delay delay)
      → let left = with_timers c (drops_delay k.timers delay.thread) in
      IsPlaced (wakes_with left delay.thread OK).kernel
  delay_delivered delay taken =
      let word = code_word OK in
      let now = (moves k h).wakes delay.thread word in
      placed_leaves k (threads.wakes k.threads delay.thread word) h
      ((places k h).wakes delay.thread word) delay.thread now.waits now.live
      (all_waiting ((keeps k h).wakes delay.thread word)) (Some Delay)
      (for_delay _ (subst (λ n. 0 < n) (h.delays.delays delay.thread)
      (taken_stood k.timers (due_at k.timers k.clock) delay taken)))

  pub placed_due : DueComes StaysPlaced c
  placed_due = record {
    begins_alarm = λ alarm taken. beside_placed _ _ _ _ _ h;
    wakes = delay_delivered;
  }

  -- what is due at this moment
  pub due_delivered_places : (d : Delivered)
      → delivers_due c (takes_due k.timers k.clock) ≡ Some d → IsPlaced d.core.kernel
  due_delivered_places d made = due_goes StaysPlaced c placed_due d made

  -- all that the machine does
  pub placed_steps : Steps (λ d. IsPlaced d.kernel) (λ cpu. ⊤) c
  placed_steps = record {
    delivers = record {
      begins_line = λ line handler found has. beside_placed _ _ _ _ _ h;
      due = λ none. placed_due;
    };
    dispatches = λ d made. stand_on k h ((places k h).dispatches c.cpu d tt made).0
        ((moves k h).dispatches c.cpu d made) ((keeps k h).dispatches c.cpu d made);
    begins = λ registers may.
        stand_on k h ((places k h).begins registers tt) ((moves k h).begins registers)
        ((keeps k h).begins registers);
    ends_running = λ may.
        stand_on k h (places k h).ends_running (moves k h).ends_running
        (keeps k h).ends_running;
    moves_on = λ moment cpu may. beside_placed _ _ _ _ _ h;
    raises = λ irqs. beside_placed _ _ _ _ _ h;
  }

  -- what a handler gives an alarm leaves a clock, and the same delays
  alarm_given_places : (number value : ℕ)
      → IsPlaced (record k { timers = alarm_gives k.timers number value })
  alarm_given_places number value =
      cond_both (value == 0) _ _ (λ (timers : Timers). IsPlaced (record k { timers = timers }))
      (λ zero. timers_placed (removes k.timers number)
      (without_alarms-keeps k.timers _ h.delays.kept) refl h)
      (λ other. timers_placed (sets_again k.timers number value)
      (sets_again-keeps k.timers number value h.delays.kept) refl h)

  -- so is what it gives a line
  given_places : (cause : Cause) (value : ℕ) → IsPlaced (gives_result k cause value)
  given_places (Line line) value = beside_placed _ _ _ _ _ h
  given_places (Alarm number) value = alarm_given_places number value

  -- a handler returns
  pub handler_returned_places : (handler : ActiveHandler)
      → IsPlaced (handler_returned c handler (reg c.cpu 2)).kernel
  handler_returned_places handler =
      beside_placed _ true _ None _ (given_places handler.cause (reg c.cpu 2))
