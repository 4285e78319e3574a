-- A wait that ends with an answer.
use Rattle.std.proofs.Common.{◌≡◌, ℕ, Bool, true, false, option_map, unwrap_or, Option, Some, None, refl, ap, sym, ◌∙◌, subst}
use Rattle.std.specs.Prelude.{is_some}
use Rattle.std.proofs.lemmas.Bool.{cond_both}
use Rattle.iop_thread.specs.Changes.{is_waiting, in_new_state, woken_state, ready_after, TurnsInPlace}
use Rattle.iop_thread.specs.declared.state.State.{State}
use Rattle.iop_thread.specs.declared.state.State.TheVariants.{Waiting, WaitingSuspended}
use Rattle.iop_thread.specs.declared.thread.Thread.{Thread}
use Rattle.iop_thread.specs.declared.wait.Wait.TheVariants.{Sleep}
use Rattle.iop_thread.specs.Operations.{wakes_in, wakes_it, wakes, wakes_up_it, wakes_up}
use Rattle.iop_thread.specs.Placing.{is_in_state}
use Rattle.iop_thread.specs.States.{is_dormant, is_ready, sleeps, wait_in}
use Rattle.iop_thread.specs.ThreadTable.{ThreadTable, thread_of}
use Rattle.iop_thread.specs.Waits.{wait_of}
use Rattle.iop_thread.specs.Waking.{state_in, but_state, IsWoken, WakingEndsOneWait}
use Rattle.iop_thread.proofs.Changing.{told}
use Rattle.iop_thread.proofs.ChangesWaking.{one_wakes_it}
use Rattle.iop_thread.proofs.FindingThreads.{dormant_state, either_way}
use Rattle.iop_thread.proofs.WaitingOn.{found_wait}

-- the state of the thread that is found, if one is
abbrev pub found_state : Option Thread → Option State
found_state o = option_map (λ t. t.state) o

-- what is told of a state that is found
told_in : (p : State → Bool) (o : Option Thread) (state : State) → found_state o ≡ Some state
    → told p o ≡ p state
told_in p None state is = absurd (cc is)
told_in p (Some t) state is = ap (λ (s : Option State). unwrap_or (option_map p s) false) is

-- the state of a thread that has a new one
new_state : (change : State → State) (o : Option Thread) (state : State)
    → found_state o ≡ Some state
    → found_state (option_map (in_new_state change) o) ≡ Some (change state)
new_state change None state is = absurd (cc is)
new_state change (Some t) state is = ap (option_map change) is

-- all but its state is as it was
new_rest : (change : State → State) (o : Option Thread)
    → option_map but_state (option_map (in_new_state change) o) ≡ option_map but_state o
new_rest change None = refl
new_rest change (Some t) = refl

-- a thread waits where its wait is found
waits_in : (o : Option Thread) → told is_waiting o ≡ is_some (found_wait o)
waits_in None = refl
waits_in (Some t) = refl

module _ (s left : ThreadTable) (id answer : ℕ) (running : left.running ≡ s.running)
    (turned : TurnsInPlace s left id (is_in_state is_waiting s.live id)
    (in_new_state (woken_state answer))) where
  -- one that waited has its new state
  now : (state : State) → is_waiting state ≡ true → state_in s id ≡ Some state
      → state_in left id ≡ Some (woken_state answer state)
  now state waits is =
      ap found_state (turned.turns.own (told_in is_waiting (thread_of s.live id) state is ∙ waits))
      ∙ new_state (woken_state answer) (thread_of s.live id) state is

  -- and its place by both
  place : (was is : State) → state_in s id ≡ Some was → state_in left id ≡ Some is
      → left.ready ≡ ready_after (is_ready was) (is_ready is) id s.ready
  place was is before after =
      turned.ready
      ∙ ap (λ b. ready_after b (is_in_state is_ready left.live id) id s.ready)
      (told_in is_ready (thread_of s.live id) was before)
      ∙ ap (λ b. ready_after (is_ready was) b id s.ready)
      (told_in is_ready (thread_of left.live id) is after)

  -- nothing else of it changes, by whether it waited
  rest_by : (b : Bool) → is_in_state is_waiting s.live id ≡ b
      → option_map but_state (thread_of left.live id)
      ≡ option_map but_state (thread_of s.live id)
  rest_by true waits =
      ap (option_map but_state) (turned.turns.own waits)
      ∙ new_rest (woken_state answer) (thread_of s.live id)
  rest_by false fails =
      ap (λ (t : ThreadTable). option_map but_state (thread_of t.live id))
      (turned.turns.refused fails)

  turned_so : IsWoken s left id answer
  turned_so = record {
    ready = λ wait own is. now (Waiting wait own) refl is;
    last = λ wait own is. let new = now (Waiting wait own) refl is in place _ _ is new;
    suspended = λ wait own is. now (WaitingSuspended wait own) refl is;
    kept = λ wait own is. let new = now (WaitingSuspended wait own) refl is in place _ _ is new;
    rest = rest_by (is_in_state is_waiting s.live id) refl;
    idle = λ none. turned.turns.refused (waits_in (thread_of s.live id) ∙ ap is_some none);
    others = turned.turns.one.others;
    running = running;
    next = turned.turns.one.next;
  }

-- the same thread runs
running_in : (s : ThreadTable) (answer : ℕ) (t : Thread) (state : State)
    → (wakes_in s answer t state).running ≡ s.running
running_in s answer t (Waiting wait own) = refl
running_in s answer t (WaitingSuspended wait own) = refl
running_in s answer t other = refl

running_it : (s : ThreadTable) (answer : ℕ) (o : Option Thread)
    → (wakes_it s answer o).running ≡ s.running
running_it s answer None = refl
running_it s answer (Some t) = running_in s answer t t.state

pub wakes_so : (s : ThreadTable) (id answer : ℕ) → IsWoken s (wakes s id answer) id answer
wakes_so s id answer =
    turned_so s (wakes s id answer) id answer (running_it s answer (thread_of s.live id))
    (one_wakes_it s id answer (thread_of s.live id) refl)

-- a wakeup of one that sleeps ends its wait
module _ (s : ThreadTable) where
  sleeper_by : (t : Thread) → wait_in t.state ≡ Some Sleep
      → (wakes_up_it s (Some t)).1 ≡ wakes_in s 0 t t.state
  sleeper_by t asleep =
      either_way (λ left. left ≡ wakes_in s 0 t t.state) (is_dormant t.state) _ _
      (λ dormant. absurd (not_dormant (ap wait_in (dormant_state t.state dormant))))
      (λ other. cond_both (sleeps (wait_in t.state)) _ _ (λ left. left ≡ wakes_in s 0 t t.state)
      (λ sleeping. refl) (λ awake. absurd (not_awake (ap sleeps asleep) awake)))
    where
      not_dormant : wait_in t.state ≡ None → ⊥
      not_dormant none = cc (asleep, none)

      not_awake : sleeps (wait_in t.state) ≡ true → sleeps (wait_in t.state) ≡ false → ⊥
      not_awake holds fails = cc

  sleeper_it : (o : Option Thread) → found_wait o ≡ Some Sleep
      → (wakes_up_it s o).1 ≡ wakes_it s 0 o
  sleeper_it None asleep = absurd (cc asleep)
  sleeper_it (Some t) asleep = sleeper_by t asleep

  pub wakes_sleeper : (id : ℕ) → wait_of s id ≡ Some Sleep → IsWoken s (wakes_up s id).1 id 0
  wakes_sleeper id asleep =
      subst (λ (left : ThreadTable). IsWoken s left id 0)
      (sym (sleeper_it (thread_of s.live id) asleep)) (wakes_so s id 0)

pub waking_ends_one_wait : WakingEndsOneWait
waking_ends_one_wait = record { wakes = wakes_so; wakes_up = wakes_sleeper }
