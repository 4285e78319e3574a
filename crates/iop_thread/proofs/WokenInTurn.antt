-- Waits of several threads that end one after the other with one answer.
use Rattle.std.proofs.Common.{◌≡◌, ◌≢◌, ℕ, zero, suc, ◌==◌, Bool, true, false, cond, if◌then◌else◌, option_map, option_and_then, Option, Some, None, List, [], ◌∷◌, ◌++◌, filter, Contains, refl, ap, sym, ◌∙◌, subst, append_assoc, arith}
use Rattle.std.proofs.lemmas.Bool.{eq-eqb, eqb-true}
use Rattle.std.proofs.lemmas.List.{append-nil}
use Rattle.iop_exec.specs.Row.{with_reg}
use Rattle.iop_exec.specs.declared.cpu.Cpu.{Cpu}
use Rattle.iop_thread.specs.States.{wait_in}
use Rattle.iop_thread.specs.ThreadTable.{ThreadTable, thread_of}
use Rattle.iop_thread.specs.Waits.{wait_of}
use Rattle.iop_thread.specs.Waking.{state_in, but_state, waits_alone, IsWoken, AreWoken}
use Rattle.iop_thread.specs.declared.state.State.{State}
use Rattle.iop_thread.specs.declared.state.State.TheVariants.{Dormant, Running, Ready, Waiting, Suspended, WaitingSuspended}
use Rattle.iop_thread.specs.declared.thread.Thread.{Thread}
use Rattle.iop_thread.specs.declared.wait.Wait.{Wait}
use Rattle.iop_thread.proofs.Woken.{found_state}

-- one is in a list in which it is the first, or one of the others
in_front : (id : ℕ) (ids : List ℕ) → Contains (id ∷ ids) id
in_front id ids = (zero, omega arith, refl)

behind : (first id : ℕ) (ids : List ℕ) → Contains ids id → Contains (first ∷ ids) id
behind first id ids (k, below, here) = (suc k, omega (arith, below), here)

-- tests that agree on a list leave the same of it
filter_agrees : (p q : ℕ → Bool) (ids : List ℕ) → ((id : ℕ) → Contains ids id → p id ≡ q id)
    → filter p ids ≡ filter q ids
filter_agrees p q [] same = refl
filter_agrees p q (id ∷ ids) same =
    ap (λ b. cond b (id ∷ filter p ids) (filter p ids)) (same id (in_front id ids))
    ∙ ap (λ left. cond (q id) (id ∷ left) left)
    (filter_agrees p q ids (λ other inside. same other (behind id other ids inside)))

-- what a thread waits for stands in its state
pub wait_in_state : (s : ThreadTable) (id : ℕ)
    → wait_of s id ≡ option_and_then wait_in (state_in s id)
wait_in_state s id = by (thread_of s.live id)
  where
    by : (o : Option Thread) → option_and_then (λ t. wait_in t.state) o
        ≡ option_and_then wait_in (found_state o)
    by None = refl
    by (Some t) = refl

module _ (s left : ThreadTable) (id answer : ℕ) (woken : IsWoken s left id answer) where
  -- where it does not wait, the ready list is as it was
  ready_stays : (o : Option State) → state_in s id ≡ o → option_and_then wait_in o ≡ None
      → left.ready ≡ s.ready
  ready_stays o is none =
      ap (λ (left : ThreadTable). left.ready)
      (woken.idle (wait_in_state s id ∙ ap (option_and_then wait_in) is ∙ none))

  -- the ready list, by the state in which it was
  ready_by : (o : Option State) → state_in s id ≡ o
      → left.ready ≡ (if waits_alone o then s.ready ++ id ∷ [] else s.ready)
  ready_by None is = ready_stays None is refl
  ready_by (Some Dormant) is = ready_stays (Some Dormant) is refl
  ready_by (Some Running) is = ready_stays (Some Running) is refl
  ready_by (Some (Ready own)) is = ready_stays (Some (Ready own)) is refl
  ready_by (Some (Waiting wait own)) is = woken.last wait own is
  ready_by (Some (Suspended own)) is = ready_stays (Some (Suspended own)) is refl
  ready_by (Some (WaitingSuspended wait own)) is = woken.kept wait own is

  -- nothing else of any thread changes
  rest_of : (other : ℕ) → option_map but_state (thread_of left.live other)
      ≡ option_map but_state (thread_of s.live other)
  rest_of other = by (other == id) refl
    where
      by : (b : Bool) → (other == id) ≡ b → option_map but_state (thread_of left.live other)
          ≡ option_map but_state (thread_of s.live other)
      by true it =
          subst (λ one. option_map but_state (thread_of left.live one)
          ≡ option_map but_state (thread_of s.live one)) (sym (eqb-true other id it)) woken.rest
      by false fails =
          ap (option_map but_state)
          (woken.others other (λ same. absurd (apart (eq-eqb other id same) fails)))
        where
          apart : (other == id) ≡ true → (other == id) ≡ false → ⊥
          apart holds fails = cc

-- none is woken
pub none_woken : (s : ThreadTable) (answer : ℕ) → AreWoken s s [] answer
none_woken s answer = record {
  ready = λ id inside wait own was. absurd (nothing id inside);
  suspended = λ id inside wait own was. absurd (nothing id inside);
  last = sym (append-nil s.ready);
  rest = λ id. refl;
  others = λ other apart. refl;
  running = refl;
  next = refl;
}
  where
    nothing : (id : ℕ) → Contains [] id → ⊥
    nothing id (k, below, here) = omega (arith, below)

-- one is woken, and then others
module _ (s mid left : ThreadTable) (id : ℕ) (ids : List ℕ) (answer : ℕ)
    (apart : Contains ids id → ⊥) (first : IsWoken s mid id answer)
    (then_all : AreWoken mid left ids answer) where
  -- what comes behind is another one
  another : (other : ℕ) → Contains ids other → other ≢ id
  another other inside same = apart (subst (Contains ids) same inside)

  before : (other : ℕ) → Contains ids other → state_in mid other ≡ state_in s other
  before other inside = ap found_state (first.others other (another other inside))

  after : state_in left id ≡ state_in mid id
  after = ap found_state (then_all.others id apart)

  ready_each : (one : ℕ) → Contains (id ∷ ids) one → (wait : Wait) (own : Cpu)
      → state_in s one ≡ Some (Waiting wait own)
      → state_in left one ≡ Some (Ready (with_reg own 2 answer))
  ready_each one (zero, below, here) wait own was =
      let same : id ≡ one = here in
      subst (λ one. state_in left one ≡ Some (Ready (with_reg own 2 answer))) same
      (after ∙ first.ready wait own (ap (state_in s) same ∙ was))
  ready_each one (suc k, below, here) wait own was =
      let inside : Contains ids one = (k, omega (arith, below), here) in
      then_all.ready one inside wait own (before one inside ∙ was)

  suspended_each : (one : ℕ) → Contains (id ∷ ids) one → (wait : Wait) (own : Cpu)
      → state_in s one ≡ Some (WaitingSuspended wait own)
      → state_in left one ≡ Some (Suspended (with_reg own 2 answer))
  suspended_each one (zero, below, here) wait own was =
      let same : id ≡ one = here in
      subst (λ one. state_in left one ≡ Some (Suspended (with_reg own 2 answer))) same
      (after ∙ first.suspended wait own (ap (state_in s) same ∙ was))
  suspended_each one (suc k, below, here) wait own was =
      let inside : Contains ids one = (k, omega (arith, below), here) in
      then_all.suspended one inside wait own (before one inside ∙ was)

  abbrev alone : ℕ → Bool
  alone one = waits_alone (state_in s one)

  -- the first stands before those that come behind it
  in_turn : (b : Bool) → mid.ready ≡ (if b then s.ready ++ id ∷ [] else s.ready)
      → mid.ready ++ filter alone ids
      ≡ s.ready ++ cond b (id ∷ filter alone ids) (filter alone ids)
  in_turn true is =
      ap (λ ready. ready ++ filter alone ids) is ∙ append_assoc s.ready (id ∷ []) (filter alone ids)
  in_turn false is = ap (λ ready. ready ++ filter alone ids) is

  pub woken_then : AreWoken s left (id ∷ ids) answer
  woken_then = record {
    ready = ready_each;
    suspended = suspended_each;
    last = then_all.last
        ∙ ap (λ some. mid.ready ++ some)
        (filter_agrees (λ one. waits_alone (state_in mid one)) alone ids
        (λ one inside. ap waits_alone (before one inside)))
        ∙ in_turn (alone id) (ready_by s mid id answer first (state_in s id) refl);
    rest = λ one. then_all.rest one ∙ rest_of s mid id answer first one;
    others = λ other away.
        then_all.others other (λ inside. away (behind id other ids inside))
        ∙ first.others other
        (λ same. away (subst (Contains (id ∷ ids)) (sym same) (in_front id ids)));
    running = then_all.running ∙ first.running;
    next = then_all.next ∙ first.next;
  }
