-- Threads that wait for something else than before. Still those that wait for the objects of a kind
-- are those whose waits say so.
use Rattle.std.proofs.Common.{◌≡◌, ℕ, ◌≤◌, ◌==◌, leb, ltb, Bool, true, false, if◌then◌else◌, Option, Some, None, length, All, refl, ap, sym, ◌∙◌, subst, Result, [], arith}
use Rattle.std.proofs.lemmas.Bool.{and_parts, cond_both, eqb-false, eqb-true, leb-true, ltb-true}
use Rattle.std.proofs.lemmas.Bool.Decides.{nat_tests}
use Rattle.iop_base.specs.Numbers.{one_if}
use Rattle.iop_base.specs.declared.code.Code.{Code}
use Rattle.iop_base.specs.declared.limits.TheConstants.{LAST_ID}
use Rattle.iop_objects.specs.Objects.{waiters_in, waiters_of, has_room, creates, with_state, requeues}
use Rattle.iop_objects.specs.WaiterQueues.{requeued}
use Rattle.iop_objects.specs.declared.objects.TheConstants.{MOST_OBJECTS}
use Rattle.iop_objects.proofs.Apart.{makes_one}
use Rattle.iop_objects.proofs.Changes.{waiters_of-with_state}
use Rattle.iop_objects.proofs.OtherWaiters.{none_new, none_requeued}
use Rattle.iop_objects.proofs.Others.{IsBut, changes_but, with_waiters_but, waiters_now, waiters_added}
use Rattle.iop_thread.specs.Placing.{IsPlaced}
use Rattle.iop_thread.specs.ThreadTable.{ThreadTable}
use Rattle.iop_thread.specs.Waits.{wait_of}
use Rattle.iop_thread.specs.declared.kind.Kind.{Kind}
use Rattle.iop_thread.specs.declared.wait.Wait.{Wait}
use Rattle.iop_thread.specs.declared.wait.Wait.TheVariants.{Object}
use Rattle.iop_time.specs.declared.clock.TheConstants.{MOST_DELAYS}
use Rattle.iop_kernel.specs.Kinds.{State, Live, Table}
use Rattle.iop_kernel.specs.Placing.{AreWaited, HasItsPriority, is_for}
use Rattle.iop_kernel.proofs.Bodies.KindTables.{own_object}
use Rattle.iop_kernel.proofs.Placing.Priorities.{KeepFor, KeepPriorities, IsChanged, other_wait}
use Rattle.iop_kernel.proofs.Placing.QueuedPriorities.{queued_on, requeued_priorities}
use Rattle.iop_kernel.proofs.Placing.Queues.{times_in, times_in_requeued}

-- the threads of which `turns` says so waited for `was` and wait for `now`; each other waits as
-- before. A question that `wait` and no wait answer alike, `was` and `now` answer alike. Each that
-- waited has its priority
pub record Turns (wait : Wait) (turns : ℕ → Bool) (was now : Option Wait) (old left : ThreadTable)
    : Type 0 where
  pub placed : IsPlaced left
  pub room : length left.live ≤ MOST_DELAYS
  pub before : (t : ℕ) → turns t ≡ true → wait_of old t ≡ was
  pub after : (t : ℕ) → wait_of left t ≡ (if turns t then now else wait_of old t)
  pub alike : (asks : Option Wait → Bool) → asks None ≡ asks (Some wait) → asks now ≡ asks was
  pub priorities : KeepPriorities old left

module _ {wait : Wait} {turns : ℕ → Bool} {was now : Option Wait} {old left : ThreadTable}
    (g : Turns wait turns was now old left) (asks : Option Wait → Bool) where
  -- then it is answered alike for each thread, before and after
  pub asked_alike : asks None ≡ asks (Some wait) → (t : ℕ)
      → asks (wait_of left t) ≡ asks (wait_of old t)
  asked_alike same t =
      ap asks (g.after t)
      ∙ cond_both (turns t) now (wait_of old t) (λ w. asks w ≡ asks (wait_of old t))
      (λ it. g.alike asks same ∙ sym (ap asks (g.before t it))) (λ other. refl)

  -- a list held each thread for whose wait it is true once; if it changes as the waits do, it still
  -- does
  pub counted : {often later : ℕ → ℕ} → ((t : ℕ) → often t ≡ one_if (asks (wait_of old t)))
      → ((t : ℕ) → later t ≡ (if turns t then one_if (asks now) else often t))
      → (t : ℕ) → later t ≡ one_if (asks (wait_of left t))
  counted {often} once changed t =
      changed t ∙ by (turns t) ∙ ap (λ w. one_if (asks w)) (sym (g.after t))
    where
      by : (b : Bool) → (if b then one_if (asks now) else often t)
          ≡ one_if (asks (if b then now else wait_of old t))
      by true = refl
      by false = once t

-- one thread turns
pub one_turns : {wait : Wait} {was now : Option Wait} {old left : ThreadTable} (thread : ℕ)
    → IsPlaced left → length left.live ≤ MOST_DELAYS → wait_of old thread ≡ was
    → ((t : ℕ) → wait_of left t ≡ (if thread == t then now else wait_of old t))
    → ((asks : Option Wait → Bool) → asks None ≡ asks (Some wait) → asks now ≡ asks was)
    → KeepPriorities old left → Turns wait (λ t. thread == t) was now old left
one_turns {was = was} {old = old} thread placed room is after alike keep = record {
  placed = placed;
  room = room;
  before = λ t it. subst (λ t. wait_of old t ≡ was) (eqb-true thread t it) is;
  after = after;
  alike = alike;
  priorities = keep;
}

module _ (kind : Kind) (s : Table kind) {old : ThreadTable} (h : AreWaited kind s old) where
  -- no thread waits otherwise
  pub waited_alike : (left : ThreadTable)
      → ((id t : ℕ) → is_for kind id (wait_of left t) ≡ is_for kind id (wait_of old t))
      → ((id : ℕ) → KeepFor kind id old left) → AreWaited kind s left
  waited_alike left alike keep = record {
    waiters = λ id t. h.waiters id t ∙ ap one_if (sym (alike id t));
    priorities = λ id. queued_on kind s h id left (keep id);
    sound = h.sound;
  }

  module _ (n : ℕ) {now : Table kind} (but : IsBut n s now) where
    -- those that wait for one object are others, and all wait for each other one as before
    waited_but : (left : ThreadTable)
        → ((t : ℕ) → times_in t (waiters_of now n) ≡ one_if (is_for kind n (wait_of left t)))
        → ((id t : ℕ) → (id == n) ≡ false
        → is_for kind id (wait_of left t) ≡ is_for kind id (wait_of old t))
        → All (HasItsPriority left) (waiters_of now n)
        → ((id : ℕ) → (id == n) ≡ false → KeepFor kind id old left) → AreWaited kind now left
    waited_but left own others queued keep = record {
      waiters = λ id t. by id t (id == n) refl;
      priorities = λ id. queued_by id (id == n) refl;
      sound = but.sound h.sound;
    }
      where
        by : (id t : ℕ) (b : Bool) → (id == n) ≡ b
            → times_in t (waiters_of now id) ≡ one_if (is_for kind id (wait_of left t))
        by id t true it = rw (eqb-true id n it) (own t)
        by id t false apart =
            ap (times_in t) (but.others id apart) ∙ h.waiters id t
            ∙ ap one_if (sym (others id t apart))

        queued_by : (id : ℕ) (b : Bool) → (id == n) ≡ b
            → All (HasItsPriority left) (waiters_of now id)
        queued_by id true it =
            subst (λ id. All (HasItsPriority left) (waiters_of now id)) (sym (eqb-true id n it))
            queued
        queued_by id false apart =
            subst (All (HasItsPriority left)) (sym (but.others id apart))
            (queued_on kind s h id left (keep id apart))

    -- some threads wait for the object, or wait for it no more
    pub waited_turns : {turns : ℕ → Bool} {was will : Option Wait} {left : ThreadTable}
        → Turns (Object kind n) turns was will old left
        → ((t : ℕ) → times_in t (waiters_of now n)
        ≡ (if turns t then one_if (is_for kind n will) else times_in t (waiters_of s n)))
        → All (HasItsPriority left) (waiters_of now n) → AreWaited kind now left
    waited_turns {left = left} g changed queued =
        waited_but left (counted g (is_for kind n) (h.waiters n) changed)
        (λ id t apart.
        asked_alike g (is_for kind id) (sym (own_object kind n id ∙ beside id apart)) t)
        queued (λ id apart. g.priorities.waiting kind id)
      where
        beside : (id : ℕ) → (id == n) ≡ false → (n == id) ≡ false
        beside id apart = grind (arith, nat_tests, apart)

  -- what is known of an object changes
  pub waited_state : (n : ℕ) (state : State kind) → AreWaited kind (with_state s n state) old
  waited_state n state =
      let same = waiters_of-with_state s n state in
      waited_but n (changes_but n (λ (o : Live kind). record o { state = state }) (λ o. refl) s) old
      (λ t. ap (times_in t) same ∙ h.waiters n t) (λ id t apart. refl)
      (subst (All (HasItsPriority old)) (sym same) (h.priorities n)) (λ id apart t is. refl)

  -- the priority of a thread that waits for it does, and each waits for what it did
  pub waited_requeues : (left : ThreadTable) (n : ℕ) (by_priority : Bool) (thread priority : ℕ)
      → IsChanged old left thread priority (Some (Object kind n))
      → ((t : ℕ) → wait_of left t ≡ wait_of old t)
      → AreWaited kind (requeues s n by_priority thread priority) left
  waited_requeues left n by_priority thread priority changed on =
      let was = waiters_of s n in
      let now = waiters_now s n (requeued by_priority thread priority was) (λ gone.
      none_new was _ (none_requeued by_priority thread priority was) (ap waiters_in gone)) in
      waited_but n (with_waiters_but s n (requeued by_priority thread priority was)) left
      (λ t. ap (times_in t) now ∙ times_in_requeued t by_priority thread priority was
      ∙ h.waiters n t ∙ ap (λ w. one_if (is_for kind n w)) (sym (on t)))
      (λ id t apart. ap (is_for kind id) (on t))
      (subst (All (HasItsPriority left)) (sym now)
      (requeued_priorities changed by_priority was (h.priorities n)))
      (λ id apart t is. changed.others t (other_wait old t thread _ _ is changed.waits
      (λ same. let ids : id ≡ n = cc in eqb-false id n apart ids)))

  -- an object is made
  pub waited_creates : (state : State kind) → AreWaited kind (creates s state).1 old
  waited_creates state =
      let made : Live kind = record { id = s.next; state = state; waiters = [] } in
      cond_both (has_room s) _ _ (λ (r : Result ℕ Code × Table kind). AreWaited kind r.1 old)
      (λ room.
      let (place, left) = and_parts (ltb (length s.live) MOST_OBJECTS) (leb s.next LAST_ID) room in
      let one = makes_one made s h.sound refl (ltb-true _ _ place) (leb-true _ _ left) in
      record {
        waiters = λ id t. ap (times_in t) (waiters_added s.live made refl id) ∙ h.waiters id t;
        priorities = λ id. subst (All (HasItsPriority old))
            (sym (waiters_added s.live made refl id)) (h.priorities id);
        sound = one.change.sound;
      })
      (λ full. h)
