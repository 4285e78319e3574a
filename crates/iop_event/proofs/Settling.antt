-- The threads whose conditions hold, one after the other, are those of a walk over all.
use Rattle.std.proofs.Common.{◌≡◌, ℕ, Bool, true, false, Option, Some, None, List, [], ◌∷◌, refl, ap, sym, ◌∙◌}
use Rattle.std.specs.Prelude.{if◌then◌else◌}
use Rattle.std.proofs.lemmas.List.Elements.{All-nil, All-cons}
use Rattle.iop_event.proofs.FewerBits.{IsUnmet, unmet_after}
use Rattle.iop_event.specs.EventFlags.{EventFlags, meets_next, meets_by, meets_it, with_pattern}
use Rattle.iop_event.specs.Laws.{FlagIsMet, NoneOverdue, settled}
use Rattle.iop_event.specs.WakeConditions.{Settled, settles, is_met, pattern_after, met_by, meets, stays}
use Rattle.iop_event.specs.declared.event_flag.EventFlag.{EventFlag}
use Rattle.iop_event.specs.declared.met.Met.{Met}
use Rattle.iop_event.specs.declared.wanted.Wanted.{Wanted}
use Rattle.iop_objects.specs.Objects.{state_of, waiters_of, with_state, with_waiters, takes_where}
use Rattle.iop_objects.specs.Objects as objects
use Rattle.iop_queues.specs.Queue.{Choice, chooses_where, chooses_behind}
use Rattle.iop_queues.specs.declared.queued.Queued.{Queued}
use Rattle.iop_objects.specs.declared.waiter.Waiter.{Waiter}
use Rattle.iop_objects.proofs.Changes.{state_of-with_state, state_of-with_waiters, waiters_of-with_waiters, waiters_of-with_state}

abbrev pub Waiting : Type 0
Waiting = List (Queued (Waiter Wanted))

-- one that is taken out: the others settle on the pattern that it leaves
abbrev one_met : (pattern : ℕ) → Choice (Waiter Wanted) → Settled
one_met pattern c =
    meets (met_by pattern c.one.item)
    (settles (pattern_after c.one.item.wants.mode pattern) c.others)

-- one is taken out
pub settles-taken : (pattern : ℕ) (waiters : Waiting) (c : Choice (Waiter Wanted))
    → chooses_where (is_met pattern) waiters ≡ Some c → settles pattern waiters ≡ one_met pattern c
settles-taken pattern [] = λ c e. cc
settles-taken pattern (x ∷ xs) =
    either (is_met pattern x.item) refl (chooses_where (is_met pattern) xs)
    (settles-taken pattern xs)
  where
    behind : is_met pattern x.item ≡ false → (later : Option (Choice (Waiter Wanted)))
        → ((c : Choice (Waiter Wanted)) → later ≡ Some c → settles pattern xs ≡ one_met pattern c)
        → (c : Choice (Waiter Wanted)) → chooses_behind x later ≡ Some c
        → stays x (settles pattern xs) ≡ one_met pattern c
    behind unmet None same c e = cc
    behind unmet (Some later) same c e =
        let here : is_met (pattern_after later.one.item.wants.mode pattern) x.item ≡ false =
        unmet_after later.one.item.wants.mode pattern x unmet in
        let taken : c ≡ record { one = later.one; others = x ∷ later.others } = cc in
        rw taken (rw here (ap (stays x) (same later refl)))

    either : (b : Bool) → is_met pattern x.item ≡ b → (later : Option (Choice (Waiter Wanted)))
        → ((c : Choice (Waiter Wanted)) → later ≡ Some c → settles pattern xs ≡ one_met pattern c)
        → (c : Choice (Waiter Wanted))
        → (if b then Some (record { one = x; others = xs }) else chooses_behind x later) ≡ Some c
        → (if b then meets (met_by pattern x.item)
        (settles (pattern_after x.item.wants.mode pattern) xs)
        else stays x (settles pattern xs)) ≡ one_met pattern c
    either true is later same c e =
        let taken : record { one = x; others = xs } ≡ c = cc in
        ap (one_met pattern) taken
    either false is later same c e = behind is later same c e

-- none is: all wait on
pub settles-none : (pattern : ℕ) (waiters : Waiting) → chooses_where (is_met pattern) waiters ≡ None
    → settles pattern waiters ≡ record { met = []; waiters = waiters; pattern = pattern }
settles-none pattern [] = λ e. refl
settles-none pattern (x ∷ xs) = either (is_met pattern x.item) (chooses_where (is_met pattern) xs) (settles-none pattern xs)
  where
    either : (b : Bool) (later : Option (Choice (Waiter Wanted)))
        → (later ≡ None → settles pattern xs ≡ record { met = []; waiters = xs; pattern = pattern })
        → (if b then Some (record { one = x; others = xs }) else chooses_behind x later) ≡ None
        → (if b then meets (met_by pattern x.item)
        (settles (pattern_after x.item.wants.mode pattern) xs)
        else stays x (settles pattern xs)) ≡ record { met = []; waiters = x ∷ xs; pattern = pattern }
    either true later same e = cc
    either false None same e = ap (stays x) (same refl)
    either false (Some later) same e = cc

module _ (s : EventFlags) (id : ℕ) (x : EventFlag) (live : state_of s id ≡ Some x) where
  abbrev chosen : Option (Choice (Waiter Wanted))
  chosen = chooses_where (is_met x.pattern) (waiters_of s id)

  meets_next-live : (c : Option (Choice (Waiter Wanted))) → chosen ≡ c
      → meets_next s id ≡ meets_by s id x (objects.takes s id c)
  meets_next-live c e = ap (meets_it s id) live ∙ ap (λ c. meets_by s id x (objects.takes s id c)) e

  -- what is answered for a waiter that is taken out, and what is left
  abbrev answered : Waiter Wanted → EventFlags → Option Met × EventFlags
  answered waiter left = meets_by s id x (Some waiter, left)

  pub meets_next-taken : (waiter : Waiter Wanted)
      → (takes_where s id (is_met x.pattern)).0 ≡ Some waiter
      → meets_next s id ≡ answered waiter (takes_where s id (is_met x.pattern)).1
  meets_next-taken waiter taken =
      let left = (takes_where s id (is_met x.pattern)).1 in
      ap (meets_it s id) live ∙ ap (λ o. meets_by s id x (o, left)) taken

  met_next : (c : Option (Choice (Waiter Wanted))) → chosen ≡ c → (one : Met) (y : EventFlag)
      → (meets_next s id).0 ≡ Some one → state_of (meets_next s id).1 id ≡ Some y
      → settled s id x ≡ record (settled (meets_next s id).1 id y)
      { met = one ∷ (settled (meets_next s id).1 id y).met }
  met_next None e one y met left = let answer = ap (λ r. r.0) (meets_next-live None e) in cc
  met_next (Some c) e one y met left =
      let is = meets_next-live (Some c) e in
      let taken = with_waiters s id c.others in
      let pattern = pattern_after c.one.item.wants.mode x.pattern in
      let flag = with_pattern x pattern in
      let answer = ap (λ r. r.0) is in
      let one_is : met_by x.pattern c.one.item ≡ one = cc in
      let stands = ap (λ r. state_of r.1 id) is
      ∙ state_of-with_state taken id x (state_of-with_waiters s id x live c.others) flag in
      let flag_is : y ≡ flag = cc in
      let waiters_are = ap (λ r. waiters_of r.1 id) is ∙ waiters_of-with_state taken id flag
      ∙ waiters_of-with_waiters s id x live c.others in
      let rest = ap (λ f. settled (meets_next s id).1 id f) flag_is ∙ ap (settles pattern) waiters_are in
      settles-taken x.pattern (waiters_of s id) c e
      ∙ ap (λ m. meets m (settles pattern c.others)) one_is ∙ ap (meets one) (sym rest)

  met_last : (c : Option (Choice (Waiter Wanted))) → chosen ≡ c → (meets_next s id).0 ≡ None
      → settled s id x ≡ record { met = []; waiters = waiters_of s id; pattern = x.pattern }
  met_last None e none = settles-none x.pattern (waiters_of s id) e
  met_last (Some c) e none = let answer = ap (λ r. r.0) (meets_next-live (Some c) e) in cc

  pub met_one_by_one : FlagIsMet s id x
  met_one_by_one = record { next = met_next chosen refl; last = met_last chosen refl }

-- what does not hold of a pattern holds of none that is left
unmet_settled : (pattern : ℕ) (waiters : Waiting) (x : Queued (Waiter Wanted)) → IsUnmet pattern x
    → IsUnmet (settles pattern waiters).pattern x
unmet_settled pattern [] x unmet = unmet
unmet_settled pattern (y ∷ ys) x unmet =
    either (is_met pattern y.item)
    (unmet_settled (pattern_after y.item.wants.mode pattern) ys x
    (unmet_after y.item.wants.mode pattern x unmet))
    (unmet_settled pattern ys x unmet)
  where
    either : (b : Bool)
        → IsUnmet (settles (pattern_after y.item.wants.mode pattern) ys).pattern x
        → IsUnmet (settles pattern ys).pattern x
        → IsUnmet (if b then meets (met_by pattern y.item)
        (settles (pattern_after y.item.wants.mode pattern) ys)
        else stays y (settles pattern ys)).pattern x
    either true met unmet = met
    either false met unmet = unmet

abbrev IsSettled : Settled → Type 0
IsSettled s = NoneOverdue s.pattern s.waiters

pub none_overdue : (pattern : ℕ) (waiters : Waiting) → IsSettled (settles pattern waiters)
none_overdue pattern [] = All-nil (IsUnmet pattern)
none_overdue pattern (x ∷ xs) =
    either (is_met pattern x.item) refl
    (none_overdue (pattern_after x.item.wants.mode pattern) xs)
    (none_overdue pattern xs)
  where
    either : (b : Bool) → is_met pattern x.item ≡ b
        → IsSettled (settles (pattern_after x.item.wants.mode pattern) xs)
        → IsSettled (settles pattern xs)
        → IsSettled (if b then meets (met_by pattern x.item)
        (settles (pattern_after x.item.wants.mode pattern) xs)
        else stays x (settles pattern xs))
    either true is met unmet = met
    either false is met unmet =
        let rest = settles pattern xs in
        All-cons (IsUnmet rest.pattern) x rest.waiters (unmet_settled pattern xs x is) unmet
