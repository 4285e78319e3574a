-- A thread leaves where it is, is in hand, and arrives elsewhere: then all are placed again.
use Rattle.std.proofs.Common.{◌≡◌, ℕ, ◌<◌, ◌==◌, Bool, true, false, if◌then◌else◌, option_map, unwrap_or, Option, Some, None, List, [], ◌∷◌, ◌++◌, refl, ap, ◌∙◌, arith}
use Rattle.std.proofs.lemmas.Bool.Decides.{nat_tests}
use Rattle.iop_base.specs.Numbers.{one_if}
use Rattle.iop_exec.specs.declared.cpu.Cpu.{Cpu}
use Rattle.iop_thread.specs.declared.state.State.{State}
use Rattle.iop_thread.specs.declared.state.State.TheVariants.{Dormant, Running, Ready, Waiting, Suspended, WaitingSuspended}
use Rattle.iop_thread.specs.declared.thread.Thread.{Thread}
use Rattle.iop_thread.specs.States.{is_ready, is_running}
use Rattle.iop_thread.specs.ThreadTable.{ThreadTable, thread_of, is_it, in_state, with_thread, without, ready_last, ready_first, leaves, runs}
use Rattle.iop_thread.specs.Placing.{AreInIdOrder, IsPlaced, times, is_in_state}
use Rattle.iop_thread.proofs.IdOrder.{changed_in_order}
use Rattle.iop_thread.proofs.LiveThreads.{changed, thread_of_changed}
use Rattle.iop_thread.proofs.ReadyIds.{times_first, times_last, times_without}

-- all threads are placed but the one of this id, which is nowhere: its state says nothing
pub record IsInHand (id : ℕ) (s : ThreadTable) : Type 0 where
  pub ready : (other : ℕ) → times other s.ready
      ≡ (if other == id then 0 else one_if (is_in_state is_ready s.live other))
  pub running : (other : ℕ) → is_it s.running other
      ≡ (if other == id then false else is_in_state is_running s.live other)
  pub ids : AreInIdOrder s.live s.next

-- the state after a change, by whether the id is that of the changed thread
state_by : (p : State → Bool) (t u : Thread) (o : Option Thread) (b : Bool) →
    (b ≡ true → o ≡ Some t) →
    unwrap_or (option_map (λ t. p t.state) (if b then option_map (λ v. u) o else o)) false
    ≡ (if b then p u.state else unwrap_or (option_map (λ t. p t.state) o) false)
state_by p t u o true found = rw (found refl) refl
state_by p t u o false found = refl

-- an id that tests as that of a thread finds it
pub found_there : (live : List Thread) (t u : Thread) (id : ℕ) → thread_of live u.id ≡ Some t →
    (id == u.id) ≡ true → thread_of live id ≡ Some t
found_there live t u id found same =
    let e : id ≡ u.id = grind (arith, nat_tests, same) in rw e found

-- a changed thread is in its new state, the others are in theirs
pub is_in_state_changed : (p : State → Bool) (live : List Thread) (t u : Thread) →
    thread_of live u.id ≡ Some t → (id : ℕ) → is_in_state p (changed u live) id
    ≡ (if id == u.id then p u.state else is_in_state p live id)
is_in_state_changed p live t u found id =
    ap (λ o. unwrap_or (option_map (λ t. p t.state) o) false) (thread_of_changed live u id)
    ∙ state_by p t u (thread_of live id) (id == u.id) (found_there live t u id found)

-- no other one is there than the one that is
only_it : (o : Option ℕ) (id other : ℕ) → is_it o id ≡ true → is_it o other ≡ (other == id)
only_it None id other here = cc
only_it (Some one) id other here = grind (arith, nat_tests, here)

-- a thread that leaves is still live
pub live_leaving : (s : ThreadTable) (t : Thread) (state : State) → (leaves s t state).live ≡ s.live
live_leaving s t Dormant = refl
live_leaving s t Running = refl
live_leaving s t (Ready registers) = refl
live_leaving s t (Waiting wait registers) = refl
live_leaving s t (Suspended registers) = refl
live_leaving s t (WaitingSuspended wait registers) = refl

module _ (s : ThreadTable) (t : Thread) (placed : IsPlaced s)
    (found : thread_of s.live t.id ≡ Some t) where
  -- its id is that of a thread in this state
  pub in_its_state : (p : State → Bool) (state : State) → t.state ≡ state
      → is_in_state p s.live t.id ≡ p state
  in_its_state p state is = rw (found, is) refl

  -- a thread that is neither ready nor running is in hand as it is
  in_hand_aside : (state : State) → t.state ≡ state → is_ready state ≡ false
      → is_running state ≡ false → IsInHand t.id s
  in_hand_aside state is idle still = record {
    ready = λ other. let at = placed.ready t.id in let e = in_its_state is_ready state is in
        grind (arith, nat_tests, placed.ready other, at, e, idle);
    running = λ other. let at = placed.running t.id in let e = in_its_state is_running state is in
        grind (arith, nat_tests, placed.running other, at, e, still);
    ids = placed.ids;
  }

  -- a ready thread is in hand out of the ready list
  in_hand_ready : (registers : Cpu) → t.state ≡ Ready registers
      → IsInHand t.id (record s { ready = without t.id s.ready })
  in_hand_ready registers is = record {
    ready = λ other. let at = placed.ready other in
        grind (arith, nat_tests, at, times_without other t.id s.ready);
    running = λ other.
        let at = placed.running t.id in
        let e = in_its_state is_running (Ready registers) is in
        grind (arith, nat_tests, placed.running other, at, e);
    ids = placed.ids;
  }

  -- the running thread is in hand when none runs
  in_hand_running : t.state ≡ Running → IsInHand t.id (record s { running = None })
  in_hand_running is = record {
    ready = λ other. let at = placed.ready t.id in let e = in_its_state is_ready Running is in
        grind (arith, nat_tests, placed.ready other, at, e);
    running = λ other.
        let here : is_it s.running t.id ≡ true =
        placed.running t.id ∙ in_its_state is_running Running is in
        let only = only_it s.running t.id other here in
        grind (arith, nat_tests, placed.running other, only);
    ids = placed.ids;
  }

  -- a thread that leaves where its state has it is in hand
  pub in_hand : (state : State) → t.state ≡ state → IsInHand t.id (leaves s t state)
  in_hand Dormant is = in_hand_aside Dormant is refl refl
  in_hand Running is = in_hand_running is
  in_hand (Ready registers) is = in_hand_ready registers is
  in_hand (Waiting wait registers) is = in_hand_aside (Waiting wait registers) is refl refl
  in_hand (Suspended registers) is = in_hand_aside (Suspended registers) is refl refl
  in_hand (WaitingSuspended wait registers) is =
      in_hand_aside (WaitingSuspended wait registers) is refl refl

module _ (s : ThreadTable) (old new : Thread) (hand : IsInHand new.id s)
    (found : thread_of s.live new.id ≡ Some old) where
  -- the thread in hand arrives where its new state has it
  arrives : (ready : List ℕ) (running : Option ℕ)
      → ((id : ℕ) → times id ready
      ≡ (if id == new.id then one_if (is_ready new.state) else times id s.ready))
      → ((id : ℕ) → is_it running id
      ≡ (if id == new.id then is_running new.state else is_it s.running id))
      → IsPlaced (record s { live = changed new s.live; ready = ready; running = running })
  arrives ready running counts runs = record {
    ready = λ id.
        let is = is_in_state_changed is_ready s.live old new found id in
        let at = counts id in
        grind (arith, nat_tests, hand.ready id, at, is);
    running = λ id.
        let is = is_in_state_changed is_running s.live old new found id in
        let at = runs id in
        grind (arith, nat_tests, hand.running id, at, is);
    ids = changed_in_order s.live s.next hand.ids new;
  }

module _ (s : ThreadTable) (old t : Thread) (hand : IsInHand t.id s)
    (found : thread_of s.live t.id ≡ Some old) where
  -- it arrives in a state in which it is neither ready nor running
  arrives_aside : (state : State) → is_ready state ≡ false → is_running state ≡ false
      → IsPlaced (in_state s t state)
  arrives_aside state idle still =
      arrives s old (record t { state = state }) hand found s.ready s.running
      (λ id. let at = hand.ready id in grind (arith, nat_tests, at, idle))
      (λ id. let at = hand.running id in grind (arith, nat_tests, at, still))

  -- it arrives behind the ready threads
  pub arrives_last : (registers : Cpu) → IsPlaced (ready_last s t registers)
  arrives_last registers =
      let new = record t { state = Ready registers } in
      arrives s old new hand found (s.ready ++ t.id ∷ []) s.running
      (λ id. let at = hand.ready id in grind (arith, nat_tests, at, times_last id t.id s.ready))
      (λ id. let at = hand.running id in grind (arith, nat_tests, at))

  -- it arrives in front of the ready threads
  arrives_first : (registers : Cpu) → IsPlaced (ready_first s t registers)
  arrives_first registers =
      let new = record t { state = Ready registers } in
      arrives s old new hand found (t.id ∷ s.ready) s.running
      (λ id. let at = hand.ready id in grind (arith, nat_tests, at, times_first id t.id s.ready))
      (λ id. let at = hand.running id in grind (arith, nat_tests, at))

  -- it arrives at the processor, where none is
  arrives_running : s.running ≡ None
      → IsPlaced (record (in_state s t Running) { running = Some t.id })
  arrives_running none =
      arrives s old (record t { state = Running }) hand found s.ready (Some t.id)
      (λ id. let at = hand.ready id in grind (arith, nat_tests, at))
      (λ id. let free = ap (λ o. is_it o id) none in grind (arith, nat_tests, free))

module _ (s : ThreadTable) (t : Thread) (placed : IsPlaced s)
    (found : thread_of s.live t.id ≡ Some t) where
  -- the thread leaves its old state for one in which it is neither ready nor running
  pub goes_aside : (old state : State) → t.state ≡ old → is_ready state ≡ false
      → is_running state ≡ false → IsPlaced (in_state (leaves s t old) t state)
  goes_aside old state is =
      arrives_aside (leaves s t old) t t (in_hand s t placed found old is)
      (ap (λ live. thread_of live t.id) (live_leaving s t old) ∙ found) state

  -- it goes behind the ready threads
  pub goes_last : (old : State) → t.state ≡ old → (registers : Cpu)
      → IsPlaced (ready_last (leaves s t old) t registers)
  goes_last old is =
      arrives_last (leaves s t old) t t (in_hand s t placed found old is)
      (ap (λ live. thread_of live t.id) (live_leaving s t old) ∙ found)

  -- the running thread goes in front of the ready ones
  pub goes_first : t.state ≡ Running → (registers : Cpu)
      → IsPlaced (ready_first (leaves s t Running) t registers)
  goes_first is =
      arrives_first (leaves s t Running) t t (in_hand s t placed found Running is) found

  -- a ready thread goes to the processor, where none is
  pub goes_to_run : (registers : Cpu) → t.state ≡ Ready registers → s.running ≡ None
      → IsPlaced (runs s t)
  goes_to_run registers is =
      let old = Ready registers in
      arrives_running (leaves s t old) t t (in_hand s t placed found old is) found

module _ (s : ThreadTable) (placed : IsPlaced s) where
  -- a thread that stays in its state stays where it is
  pub placed_in_same_state : (t u : Thread) → thread_of s.live u.id ≡ Some t → t.state ≡ u.state
      → IsPlaced (with_thread s u)
  placed_in_same_state t u found same = record {
    ready = λ id.
        let at = is_in_state_changed is_ready s.live t u found id in
        let now = ready_now id in
        grind (arith, nat_tests, placed.ready id, at, now);
    running = λ id.
        let at = is_in_state_changed is_running s.live t u found id in
        let now = running_now id in
        grind (arith, nat_tests, placed.running id, at, now);
    ids = changed_in_order s.live s.next placed.ids u;
  }
    where
      ready_now : (id : ℕ) → is_in_state is_ready s.live u.id ≡ is_ready u.state
      ready_now id = rw (found, same) refl

      running_now : (id : ℕ) → is_in_state is_running s.live u.id ≡ is_running u.state
      running_now id = rw (found, same) refl

  -- a ready thread is moved behind the others
  pub placed_moved_last : (id : ℕ) → 0 < times id s.ready
      → IsPlaced (record s { ready = without id s.ready ++ id ∷ [] })
  placed_moved_last id there = record {
    ready = λ other.
        let once = at_most_once (is_in_state is_ready s.live id) (placed.ready id) in
        let left = times_without other id s.ready in
        let last = times_last other id (without id s.ready) in
        grind (arith, nat_tests, placed.ready other, once, left, last);
    running = placed.running;
    ids = placed.ids;
  }
    where
      at_most_once : (b : Bool) → times id s.ready ≡ one_if b → times id s.ready ≡ 1
      at_most_once true e = e
      at_most_once false e = omega (arith, e, there)
