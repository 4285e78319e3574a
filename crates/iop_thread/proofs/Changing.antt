-- One thread changes, or none: what each id finds, and the ready list.
use Rattle.std.proofs.Common.{◌≡◌, ◌≢◌, ℕ, Bool, true, false, option_map, unwrap_or, Option, Some, None, List, refl, ap, sym, ◌∙◌, subst, arith}
use Rattle.std.proofs.lemmas.Bool.Decides.{nat_tests}
use Rattle.std.proofs.lemmas.Bool.{ne_eqb}
use Rattle.std.proofs.lemmas.Option.{same_Some}
use Rattle.iop_thread.specs.Changes.{ready_after, ChangesOne, Turns, TurnsInPlace, TurnsWhere, TurnsRunning}
use Rattle.iop_thread.specs.Placing.{is_in_state}
use Rattle.iop_thread.specs.States.{is_ready}
use Rattle.iop_thread.specs.ThreadTable.{ThreadTable, thread_of, without, leaves}
use Rattle.iop_thread.specs.declared.state.State.{State}
use Rattle.iop_thread.specs.declared.state.State.TheVariants.{Dormant, Running, Ready, Waiting, Suspended, WaitingSuspended}
use Rattle.iop_thread.specs.declared.thread.Thread.{Thread}
use Rattle.iop_thread.proofs.LiveThreads.{changed, thread_of_changed, thread_of_id}

-- a thread that changed is found so by its id, every other is found as before
pub own_changed : (live : List Thread) (t u : Thread) (id : ℕ) → thread_of live id ≡ Some t
    → u.id ≡ id → thread_of (changed u live) id ≡ Some u
own_changed live t u id found same =
    let at = thread_of_changed live u id in grind (arith, nat_tests, at, found, same)

pub other_changed : (live : List Thread) (u : Thread) (other : ℕ) → other ≢ u.id
    → thread_of (changed u live) other ≡ thread_of live other
other_changed live u other apart =
    let at = thread_of_changed live u other in
    let fails = ne_eqb other u.id apart in
    grind (arith, at, fails)

-- what is told of the state of the thread that is found, if one is
abbrev pub told : (p : State → Bool) → Option Thread → Bool
told p o = unwrap_or (option_map (λ t. p t.state) o) false

-- a thread leaves the processor or the ready list, and is ready no more
pub ready_leaving : (s : ThreadTable) (t : Thread) (id : ℕ) → t.id ≡ id → (state : State)
    → (leaves s t state).ready ≡ ready_after (is_ready state) false id s.ready
ready_leaving s t id same Dormant = refl
ready_leaving s t id same Running = refl
ready_leaving s t id same (Ready own) = ap (λ id. without id s.ready) same
ready_leaving s t id same (Waiting wait own) = refl
ready_leaving s t id same (Suspended own) = refl
ready_leaving s t id same (WaitingSuspended wait own) = refl

pub next_leaving : (s : ThreadTable) (t : Thread) (state : State) → (leaves s t state).next ≡ s.next
next_leaving s t Dormant = refl
next_leaving s t Running = refl
next_leaving s t (Ready own) = refl
next_leaving s t (Waiting wait own) = refl
next_leaving s t (Suspended own) = refl
next_leaving s t (WaitingSuspended wait own) = refl

module _ (s : ThreadTable) (id : ℕ) where
  -- nothing changes
  pub one_same : ChangesOne s s id
  one_same = record { others = λ other apart. refl; next = refl }

  pub ready_same : (b : Bool) → s.ready ≡ ready_after b b id s.ready
  ready_same true = refl
  ready_same false = refl

  -- it may not be done
  pub unturned : (may : Bool) (change : Thread → Thread) → may ≡ false → Turns s s id may change
  unturned may change fails = record {
    one = one_same;
    own = λ holds. absurd (cc (fails, holds));
    refused = λ none. refl;
  }

  pub refuses : (may : Bool) (change : Thread → Thread) → may ≡ false
      → TurnsInPlace s s id may change
  refuses may change fails = record {
    turns = unturned may change fails;
    ready = ready_same (is_in_state is_ready s.live id);
  }

  -- and something else is answered
  pub answers_not : (answered : Type 0) (p : State → Bool) (change : Thread → Thread)
      → (answered → ⊥) → is_in_state p s.live id ≡ false → TurnsWhere answered s s id p change
  answers_not answered p change other fails = record {
    answer = (λ so. absurd (other so), λ holds. absurd (cc (fails, holds)));
    turns = refuses (is_in_state p s.live id) change fails;
  }

  -- one is found
  module _ (t : Thread) (found : thread_of s.live id ≡ Some t) where
    -- it is in its state
    pub told_of : (p : State → Bool) → is_in_state p s.live id ≡ p t.state
    told_of p = ap (told p) found

    -- and becomes another
    module _ (may : Bool) (change : Thread → Thread) (left : ThreadTable) (holds : may ≡ true)
        (same : (change t).id ≡ t.id) (live : left.live ≡ changed (change t) s.live)
        (next : left.next ≡ s.next) where
      now_found : thread_of left.live id ≡ Some (change t)
      now_found =
          ap (λ live. thread_of live id) live
          ∙ own_changed s.live t (change t) id found (same ∙ thread_of_id s.live id t found)

      -- all others are as they were
      pub turned : Turns s left id may change
      turned = record {
        one = record {
          others = λ other apart.
              ap (λ live. thread_of live other) live
              ∙ other_changed s.live (change t) other
              (λ it. apart (it ∙ same ∙ thread_of_id s.live id t found));
          next = next;
        };
        own = λ so. now_found ∙ sym (ap (option_map change) found);
        refused = λ fails. absurd (cc (fails, holds));
      }

      -- it takes its place there
      pub takes_place : left.ready
          ≡ ready_after (is_ready t.state) (is_ready (change t).state) id s.ready
          → TurnsInPlace s left id may change
      takes_place ready = record {
        turns = turned;
        ready = ready
            ∙ sym (ap (λ is. ready_after (is_in_state is_ready s.live id) is id s.ready)
            (ap (told is_ready) now_found)
            ∙ ap (λ was. ready_after was (is_ready (change t).state) id s.ready)
            (told_of is_ready));
      }

-- this is answered, and it is done
pub answers_so : {answered : Type 0} {s left : ThreadTable} {id : ℕ} (p : State → Bool)
    {change : Thread → Thread} → answered → is_in_state p s.live id ≡ true
    → TurnsInPlace s left id (is_in_state p s.live id) change
    → TurnsWhere answered s left id p change
answers_so p so holds turns = record { answer = (λ so. holds, λ holds. so); turns = turns }

module _ (s : ThreadTable) where
  -- the running thread changes
  pub runs_on : (t : Thread) (left : ThreadTable) (change : Thread → Thread)
      → s.running ≡ Some t.id → TurnsInPlace s left t.id true change → TurnsRunning s left change
  runs_on t left change is turns = record {
    running = λ id at. subst (λ id. TurnsInPlace s left id true change)
        (same_Some t.id id (sym is ∙ at)) turns;
    idle = λ none. absurd (cc (is, none));
  }

  -- none runs
  pub runs_not : (change : Thread → Thread) → s.running ≡ None → TurnsRunning s s change
  runs_not change none =
      record { running = λ id at. absurd (cc (at, none)); idle = λ still. refl }

  -- it changes to what it was
  pub turns_itself : (id : ℕ) (t : Thread) (change : Thread → Thread)
      → thread_of s.live id ≡ Some t → change t ≡ t → TurnsInPlace s s id true change
  turns_itself id t change found same = record {
    turns = record {
      one = one_same s id;
      own = λ so. found ∙ sym (ap Some same) ∙ sym (ap (option_map change) found);
      refused = λ fails. refl;
    };
    ready = ready_same s id (is_in_state is_ready s.live id);
  }

  -- a change that does the same to the thread that is found
  pub turns_alike : (left : ThreadTable) (id : ℕ) (t : Thread) (first second : Bool)
      (change other : Thread → Thread) → thread_of s.live id ≡ Some t → first ≡ true
      → second ≡ true → change t ≡ other t → TurnsInPlace s left id first change
      → TurnsInPlace s left id second other
  turns_alike left id t first second change other found holds also same turns = record {
    turns = record {
      one = turns.turns.one;
      own = λ so. turns.turns.own holds ∙ ap (option_map change) found ∙ ap Some same
          ∙ sym (ap (option_map other) found);
      refused = λ fails. absurd (cc (fails, also));
    };
    ready = turns.ready;
  }
