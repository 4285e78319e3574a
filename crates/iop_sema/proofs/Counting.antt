-- A signal wakes or counts, and what is taken lowers the count by one.
use Rattle.std.proofs.Common.{◌≡◌, ◌≢◌, subst, ℕ, ◌+◌, ◌-◌, ◌<◌, ◌≤◌, Bool, true, false, nat_le, pos, negsuc, Option, Some, None, Result, Ok, Err, List, [], ◌∷◌, refl, ap, sym, ◌∙◌, arith}
use Rattle.std.specs.Prelude.{⊤, ◌==◌, if◌then◌else◌}
use Rattle.std.proofs.lemmas.Bool.Decides.{nat_tests}
use Rattle.iop_base.specs.declared.code.Code.{Code}
use Rattle.iop_base.specs.declared.code.TheConstants.Code.{OK, SEMAPHORE_OVERFLOW, SEMAPHORE_ZERO}
use Rattle.iop_objects.specs.Objects.{state_of, waiters_of, with_state}
use Rattle.iop_objects.specs.Objects as objects
use Rattle.iop_queues.specs.Queue.{Choice, chooses}
use Rattle.iop_queues.specs.declared.queued.Queued.{Queued}
use Rattle.iop_objects.specs.declared.waiter.Waiter.{Waiter}
use Rattle.iop_objects.proofs.Changes.{state_of-with_state, state_of-with_waiters, waiters_of-with_waiters}
use Rattle.iop_sema.specs.Laws.{WakesNext, Counts, Lowers, SemaphoreCounts}
use Rattle.iop_sema.specs.Semaphores.{Semaphores, by_priority, signals, signals_by, signals_it, takes, takes_it, with_count}
use Rattle.iop_sema.specs.declared.semaphore.Semaphore.{Semaphore}

-- nothing is chosen from an empty queue alone
none_waits : (by_priority : Bool) (queue : List (Queued (Waiter ⊤)))
    → chooses by_priority queue ≡ None → queue ≡ []
none_waits by_priority [] e = refl
none_waits true (x ∷ xs) e = cc
none_waits false (x ∷ xs) e = cc

abbrev none_queued : List (Queued (Waiter ⊤))
none_queued = []

none_chosen : (by_priority : Bool) → chooses by_priority none_queued ≡ None
none_chosen true = refl
none_chosen false = refl

abbrev Within : Semaphore → Type 0
Within y = y.count ≤ y.max

module _ (s : Semaphores) (id : ℕ) (x : Semaphore) (live : state_of s id ≡ Some x) where
  abbrev answered : Option (Choice (Waiter ⊤)) → Result (Option ℕ) Code × Semaphores
  answered c = signals_by s id x (objects.takes s id c)

  signals-live : (c : Option (Choice (Waiter ⊤))) → chooses (by_priority x) (waiters_of s id) ≡ c
      → signals s id ≡ answered c
  signals-live c e = ap (signals_it s id) live ∙ ap answered e

  abbrev uncounted : Bool → Result (Option ℕ) Code × Semaphores
  uncounted full =
      if full then (Err SEMAPHORE_OVERFLOW, s)
      else (Ok None, with_state s id (with_count x (x.count + 1)))

  wakes_none : (full : Bool) (thread : ℕ) → signals s id ≡ uncounted full
      → (signals s id).0 ≡ Ok (Some thread) → ⊥
  wakes_none true thread e woken = let answer = ap (λ r. r.0) e in cc
  wakes_none false thread e woken = let answer = ap (λ r. r.0) e in cc

  wakes : (c : Option (Choice (Waiter ⊤))) → chooses (by_priority x) (waiters_of s id) ≡ c
      → (thread : ℕ) → (signals s id).0 ≡ Ok (Some thread) → WakesNext s id x thread
  wakes None e thread woken =
      absurd (wakes_none (nat_le x.max x.count) thread (signals-live None e) woken)
  wakes (Some c) e thread woken =
      let signalled = signals-live (Some c) e in
      let answer = ap (λ r. r.0) signalled in
      record {
        choice = c;
        is_next = e;
        woken = cc;
        others =
            ap (λ r. waiters_of r.1 id) signalled ∙ waiters_of-with_waiters s id x live c.others;
        same = ap (λ r. state_of r.1 id) signalled ∙ state_of-with_waiters s id x live c.others;
      }

  counts_below : (full : Bool) → nat_le x.max x.count ≡ full
      → chooses (by_priority x) (waiters_of s id) ≡ None → signals s id ≡ uncounted full
      → (signals s id).0 ≡ Ok None → Counts s id x
  counts_below true is none e counted = let answer = ap (λ r. r.0) e in cc
  counts_below false is none e counted = record {
    none = none_waits (by_priority x) (waiters_of s id) none;
    below = grind (arith, nat_tests, is);
    raised =
        ap (λ r. state_of r.1 id) e
        ∙ state_of-with_state s id x live (with_count x (x.count + 1));
  }

  counts : (c : Option (Choice (Waiter ⊤))) → chooses (by_priority x) (waiters_of s id) ≡ c
      → (signals s id).0 ≡ Ok None → Counts s id x
  counts None e counted =
      counts_below (nat_le x.max x.count) refl e (signals-live None e) counted
  counts (Some c) e counted = let answer = ap (λ r. r.0) (signals-live (Some c) e) in cc

  abbrev Wakes : Type 0
  Wakes = (thread : ℕ) × ((signals s id).0 ≡ Ok (Some thread))

  woken : (c : Option (Choice (Waiter ⊤))) → chooses (by_priority x) (waiters_of s id) ≡ c
      → waiters_of s id ≢ [] → Wakes
  woken None e some = absurd (some (none_waits (by_priority x) (waiters_of s id) e))
  woken (Some c) e some = (c.one.item.thread, ap (λ r. r.0) (signals-live (Some c) e))

  abbrev Refused : Type 0
  Refused = (signals s id).0 ≡ Err SEMAPHORE_OVERFLOW

  full_by : (full : Bool) → nat_le x.max x.count ≡ full → signals s id ≡ uncounted full
      → Refused → x.max ≤ x.count
  full_by true is e refused = grind (arith, nat_tests, is)
  full_by false is e refused = let answer = ap (λ r. r.0) e in cc

  full_only : (c : Option (Choice (Waiter ⊤))) → chooses (by_priority x) (waiters_of s id) ≡ c
      → Refused → (waiters_of s id ≡ []) × (x.max ≤ x.count)
  full_only None e refused = (
    none_waits (by_priority x) (waiters_of s id) e,
    full_by (nat_le x.max x.count) refl (signals-live None e) refused,
  )
  full_only (Some c) e refused = let answer = ap (λ r. r.0) (signals-live (Some c) e) in cc

  refused_by : (full : Bool) → nat_le x.max x.count ≡ full → signals s id ≡ uncounted full
      → x.max ≤ x.count → Refused
  refused_by true is e most = ap (λ r. r.0) e
  refused_by false is e most =
      let never : ⊥ = grind (arith, nat_tests, is, most) in absurd never

  refused_where : waiters_of s id ≡ [] → x.max ≤ x.count → Refused
  refused_where none most =
      refused_by (nat_le x.max x.count) refl
      (signals-live None (ap (chooses (by_priority x)) none ∙ none_chosen (by_priority x))) most

  -- the count after a signal
  within_counted : (full : Bool) → nat_le x.max x.count ≡ full → signals s id ≡ uncounted full
      → x.count ≤ x.max → (y : Semaphore) → state_of (signals s id).1 id ≡ Some y
      → y.count ≤ y.max
  within_counted true is e within y left =
      let same = ap (λ r. state_of r.1 id) e in
      let as_it_was : x ≡ y = cc in subst Within as_it_was within
  within_counted false is e within y left =
      let raised = with_count x (x.count + 1) in
      let now : state_of (signals s id).1 id ≡ Some raised =
      ap (λ r. state_of r.1 id) e ∙ state_of-with_state s id x live raised in
      let one_more : raised ≡ y = cc in
      let most : raised.count ≤ raised.max = grind (arith, nat_tests, is) in
      subst Within one_more most

  within_signalled : (c : Option (Choice (Waiter ⊤)))
      → chooses (by_priority x) (waiters_of s id) ≡ c → x.count ≤ x.max
      → (y : Semaphore) → state_of (signals s id).1 id ≡ Some y → y.count ≤ y.max
  within_signalled None e within y left =
      within_counted (nat_le x.max x.count) refl (signals-live None e) within y left
  within_signalled (Some c) e within y left =
      let now : state_of (signals s id).1 id ≡ Some x =
      ap (λ r. state_of r.1 id) (signals-live (Some c) e)
      ∙ state_of-with_waiters s id x live c.others in
      let as_it_was : x ≡ y = cc in subst Within as_it_was within

  abbrev lowered : Semaphore
  lowered = with_count x (x.count - 1)

  abbrev takes-by : Bool → Type 0
  takes-by empty =
      takes s id ≡ (if empty then (SEMAPHORE_ZERO, s) else (OK, with_state s id lowered))

  takes_none : takes-by true → (takes s id).0 ≡ OK → ⊥
  takes_none e taken =
      let number : negsuc 418 ≡ pos 0 = ap (λ (c : Code). c.0) (sym (ap (λ r. r.0) e) ∙ taken) in cc

  lowers : (empty : Bool) → (x.count == 0) ≡ empty → takes-by empty
      → (takes s id).0 ≡ OK → Lowers s id x
  lowers true is e taken = absurd (takes_none e taken)
  lowers false is e taken =
      let count : x.count ≡ x.count - 1 + 1 = grind (arith, nat_tests, is) in
      record {
        left = lowered;
        lowered = ap (λ r. state_of r.1 id) e ∙ state_of-with_state s id x live lowered;
        by_one = ap (with_count x) count;
      }

  taken_from : (empty : Bool) → (x.count == 0) ≡ empty → takes-by empty
      → (takes s id).0 ≡ OK → 0 < x.count
  taken_from true is e taken = absurd (takes_none e taken)
  taken_from false is e taken = grind (arith, nat_tests, is)

  taken_where : (empty : Bool) → (x.count == 0) ≡ empty → takes-by empty
      → 0 < x.count → (takes s id).0 ≡ OK
  taken_where true is e some =
      let never : ⊥ = grind (arith, nat_tests, is, some) in absurd never
  taken_where false is e some = ap (λ r. r.0) e

  within_taken : (empty : Bool) → takes-by empty → x.count ≤ x.max
      → (y : Semaphore) → state_of (takes s id).1 id ≡ Some y → y.count ≤ y.max
  within_taken true e within y left =
      let same = ap (λ r. state_of r.1 id) e in
      let as_it_was : x ≡ y = cc in subst Within as_it_was within
  within_taken false e within y left =
      let now : state_of (takes s id).1 id ≡ Some lowered =
      ap (λ r. state_of r.1 id) e ∙ state_of-with_state s id x live lowered in
      let one_less : lowered ≡ y = cc in
      let most : lowered.count ≤ lowered.max = omega (arith, within) in
      subst Within one_less most

  takes-live : takes-by (x.count == 0)
  takes-live = ap (takes_it s id) live

  abbrev next_chosen : Option (Choice (Waiter ⊤))
  next_chosen = chooses (by_priority x) (waiters_of s id)

  pub semaphore_counts : SemaphoreCounts s id x
  semaphore_counts = record {
    wakes = wakes next_chosen refl;
    woken = woken next_chosen refl;
    counts = counts next_chosen refl;
    full = (full_only next_chosen refl, λ both. refused_where both.0 both.1);
    lowers = lowers (x.count == 0) refl takes-live;
    taken =
        (taken_from (x.count == 0) refl takes-live, taken_where (x.count == 0) refl takes-live);
    within = λ within. record {
      signalled = within_signalled next_chosen refl within;
      taken = within_taken (x.count == 0) takes-live within;
    };
  }
