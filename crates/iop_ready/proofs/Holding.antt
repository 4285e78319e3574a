-- The queues that hold the threads of a list, after each change.
use Rattle.std.proofs.Common.{◌≡◌, ◌≢◌, ℕ, ◌+◌, ◌-◌, ◌<◌, true, false, ◌⊎◌, inl, inr, Option, Some, None, option_map, List, [], ◌∷◌, ◌++◌, length, map, refl, ap, sym, ◌∙◌, arith, subst, IfSome}
use Rattle.std.specs.Prelude.{◌==◌}
use Rattle.std.specs.List.{All}
use Rattle.std.proofs.lemmas.Bool.{cases_eq, eqb-true, ne_eqb}
use Rattle.std.proofs.lemmas.List.{append-nil, length-map}
use Rattle.std.proofs.lemmas.List.Elements.{All-nil, All-cons, All-head, All-tail, All-filter}
use Rattle.iop_cblock.specs.Lists.{Lists, no_lists, holds, head, list_at, list_of, pushed_back, pushed_front, unlinked, first_node, without as without_node}
use Rattle.iop_base.proofs.Searching.{position-none}
use Rattle.iop_cblock.proofs.Changes.{without-lacks}
use Rattle.iop_cblock.proofs.Reading.{lacks-free, list_at-same, list_at-other, list_at-unlinked, empty_at}
use Rattle.iop_cblock.proofs.Rings.{lacks-head, lacks-tail, lacks-cons}
use Rattle.iop_ready.specs.declared.entry.Entry.{Entry}
use Rattle.iop_ready.specs.declared.priority.TheConstants.{LOWEST_PRIORITY}
use Rattle.iop_ready.specs.declared.slot.TheConstants.{MOST_THREADS}
use Rattle.iop_ready.specs.Priorities.{IsPriority}
use Rattle.iop_ready.specs.Queues.{Queues, queues_of, slots_of, AreQueues, AreSound, Hold}
use Rattle.iop_ready.specs.ReadyList.{CanEnter, HasNot, IsReadyList, entry_of, of_priority, first_of, without, moved_last, rotated, StandsFor}
use Rattle.iop_ready.proofs.Lists.{IfSome-find}
use Rattle.iop_ready.proofs.Agreeing.{All-each_priority, stands_itself, stands_rotated, sound_first, sound_last, sound_without}
use Rattle.iop_ready.proofs.Slots.{slots_of-append, slots_of-same, slots_of-other, slots_of-without, head-slots, same_from_slots}

-- the queues of the lists, once a thread is put in or taken out
module _ (slot list priority : ℕ) (is : list + 1 ≡ priority) (s : Lists) (xs : List Entry)
    (below : list < length s.lists) (queues : AreQueues s xs) where
  abbrev entry : Entry
  entry = entry_of slot priority

  back_at : (k : ℕ) (b : (k ≡ list) ⊎ (k ≢ list))
      → list_at k (pushed_back list slot s) ≡ slots_of (k + 1) (xs ++ entry ∷ [])
  back_at k (inl same) =
      rw (same, is)
      (list_at-same list (list_at list s ++ slot ∷ []) s below
      ∙ ap (λ ys. ys ++ slot ∷ []) (queues list ∙ ap (λ p. slots_of p xs) is)
      ∙ sym (slots_of-append priority xs (entry ∷ [])
      ∙ ap (λ ys. slots_of priority xs ++ ys) (slots_of-same slot priority [])))
  back_at k (inr other) =
      list_at-other list (list_at list s ++ slot ∷ []) s k other ∙ queues k
      ∙ sym (slots_of-append (k + 1) xs (entry ∷ [])
      ∙ ap (λ ys. slots_of (k + 1) xs ++ ys)
      (slots_of-other slot priority (k + 1) [] (λ e. other (omega (arith, e, is))))
      ∙ append-nil (slots_of (k + 1) xs))

  pub queues-back : AreQueues (pushed_back list slot s) (xs ++ entry ∷ [])
  queues-back k = back_at k (cases_eq k list)

  front_at : (k : ℕ) (b : (k ≡ list) ⊎ (k ≢ list))
      → list_at k (pushed_front list slot s) ≡ slots_of (k + 1) (entry ∷ xs)
  front_at k (inl same) =
      let at : list_at list (pushed_front list slot s) ≡ slots_of priority (entry ∷ xs) =
      list_at-same list (slot ∷ list_at list s) s below
      ∙ ap (λ ys. slot ∷ ys) (queues list ∙ ap (λ p. slots_of p xs) is)
      ∙ sym (slots_of-same slot priority xs) in
      let its : k + 1 ≡ priority = omega (arith, same, is) in
      ap (λ j. list_at j (pushed_front list slot s)) same ∙ at
      ∙ ap (λ p. slots_of p (entry ∷ xs)) (sym its)
  front_at k (inr other) =
      list_at-other list (slot ∷ list_at list s) s k other ∙ queues k
      ∙ sym (slots_of-other slot priority (k + 1) xs (λ e. other (omega (arith, e, is))))

  pub queues-front : AreQueues (pushed_front list slot s) (entry ∷ xs)
  queues-front k = front_at k (cases_eq k list)

pub queues-without : (slot : ℕ) (s : Lists) (xs : List Entry) → AreQueues s xs
    → AreQueues (unlinked slot s) (without slot xs)
queues-without slot s xs queues k =
    list_at-unlinked slot k s ∙ ap (without_node slot) (queues k)
    ∙ sym (slots_of-without slot (k + 1) xs)

-- a slot that stands in no queue is that of no thread, and back
lacks-slots : (slot : ℕ) (xs : List Entry) → holds slot (map (λ e. e.slot) xs) ≡ false
    → All (λ e. e.slot ≢ slot) xs
lacks-slots slot [] h = All-nil (λ e. e.slot ≢ slot)
lacks-slots slot (x ∷ xs) h =
    All-cons (λ e. e.slot ≢ slot) x xs
    (λ e. lacks-head slot x.slot (map (λ e. e.slot) xs) h (sym e))
    (lacks-slots slot xs (lacks-tail slot x.slot (map (λ e. e.slot) xs) h))

has_not-slots : (slot : ℕ) (xs : List Entry) → All (λ e. e.slot ≢ slot) xs
    → holds slot (map (λ e. e.slot) xs) ≡ false
has_not-slots slot [] all = refl
has_not-slots slot (x ∷ xs) all =
    lacks-cons slot x.slot (map (λ e. e.slot) xs)
    (λ e. All-head (λ e. e.slot ≢ slot) x xs all (sym e))
    (has_not-slots slot xs (All-tail (λ e. e.slot ≢ slot) x xs all))

-- none has a priority that cannot be
pub none_of_other : (p : ℕ) → (IsPriority p → ⊥) → (xs : List Entry)
    → All (λ e. IsPriority e.priority) xs → of_priority p xs ≡ []
none_of_other p cannot [] all = refl
none_of_other p cannot (x ∷ xs) all =
    let here = All-head (λ e. IsPriority e.priority) x xs all in
    let other : x.priority ≢ p = λ e. cannot (subst IsPriority e here) in
    rw (ne_eqb x.priority p other)
    (none_of_other p cannot xs (All-tail (λ e. IsPriority e.priority) x xs all))

module _ (slot : ℕ) (s : Lists) (xs : List Entry) (queues : AreQueues s xs) where
  -- a thread that is not ready stands in no queue, and one that stands in none is not ready
  pub free-from : HasNot slot xs → list_of slot s ≡ None
  free-from absent =
      position-none (holds slot) s.lists []
      (λ k below. ap (holds slot) (queues k)
      ∙ has_not-slots slot (of_priority (k + 1) xs)
      (All-filter (λ e. e.priority == k + 1) (λ e. e.slot ≢ slot) xs absent))

  has_not_at : list_of slot s ≡ None → IsReadyList xs → (p : ℕ) → (p ≡ 0) ⊎ (p ≢ 0)
      → HasNot slot (of_priority p xs)
  has_not_at free sound p (inl zero_is) =
      rw (none_of_other p (λ is. absurd (omega (arith, is.0, zero_is))) xs sound.priorities)
      (All-nil (λ e. e.slot ≢ slot))
  has_not_at free sound p (inr some) =
      let same : p - 1 + 1 ≡ p = omega (arith, some) in
      subst (λ k. HasNot slot (of_priority k xs)) same
      (lacks-slots slot (of_priority (p - 1 + 1) xs)
      (ap (holds slot) (sym (queues (p - 1))) ∙ lacks-free slot s free (p - 1)))

  pub has_not-free : list_of slot s ≡ None → IsReadyList xs → HasNot slot xs
  has_not-free free sound =
      All-each_priority (λ e. e.slot ≢ slot) xs
      (λ p. has_not_at free sound p (cases_eq p 0))

  pub queues-free : list_of slot s ≡ None → AreQueues s (without slot xs)
  queues-free free k =
      sym (without-lacks slot (list_at k s) (lacks-free slot s free k))
      ∙ ap (without_node slot) (queues k) ∙ sym (slots_of-without slot (k + 1) xs)

-- a thread that is not ready can be put into the queue of its priority
pub record CanJoin (slot list priority : ℕ) (q : Queues) : Type 0 where
  pub behind : list + 1 ≡ priority
  pub inside : list < length q.arena.lists
  pub free : list_of slot q.arena ≡ None
  pub slot_is : slot < MOST_THREADS
  pub priority_is : IsPriority priority

pub can_join : {slot list priority : ℕ} {q now : Queues} → q ≡ now → AreSound q
    → list + 1 ≡ priority → list < LOWEST_PRIORITY → slot < MOST_THREADS → IsPriority priority
    → (xs : List Entry) × Hold now xs × HasNot slot xs → CanJoin slot list priority q
can_join {slot} {list} {priority} {q} view sound behind below slot_is priority_is h =
    let hold : Hold q h.0 = rw view h.1 in
    record {
      behind = behind;
      inside = omega (arith, below, sound.lists);
      free = free-from slot q.arena h.0 hold.queues h.2;
      slot_is = slot_is;
      priority_is = priority_is;
    }

module _ (slot list priority : ℕ) (q : Queues) (can : CanJoin slot list priority q) where
  can_enter : (xs : List Entry) → Hold q xs → CanEnter (entry_of slot priority) xs
  can_enter xs hold = record {
    slot = can.slot_is;
    priority = can.priority_is;
    absent = has_not-free slot q.arena xs hold.queues can.free hold.sound;
  }

  pub hold-back : (bits : ℕ) (xs : List Entry) → Hold q xs
      → Hold (queues_of (pushed_back list slot q.arena) bits)
      (xs ++ entry_of slot priority ∷ [])
  hold-back bits xs hold = record {
    queues = queues-back slot list priority can.behind q.arena xs can.inside hold.queues;
    sound = sound_last (entry_of slot priority) xs hold.sound (can_enter xs hold);
  }

  pub hold-front : (bits : ℕ) (xs : List Entry) → Hold q xs
      → Hold (queues_of (pushed_front list slot q.arena) bits)
      (entry_of slot priority ∷ xs)
  hold-front bits xs hold = record {
    queues = queues-front slot list priority can.behind q.arena xs can.inside hold.queues;
    sound = sound_first (entry_of slot priority) xs hold.sound (can_enter xs hold);
  }

pub hold-without : (slot : ℕ) (q : Queues) (bits : ℕ) (xs : List Entry) → Hold q xs
    → Hold (queues_of (unlinked slot q.arena) bits) (without slot xs)
hold-without slot q bits xs hold = record {
  queues = queues-without slot q.arena xs hold.queues;
  sound = sound_without slot xs hold.sound;
}

pub hold-free : (slot : ℕ) (q : Queues) (xs : List Entry) → list_of slot q.arena ≡ None
    → Hold q xs → Hold q (without slot xs)
hold-free slot q xs free hold = record {
  queues = queues-free slot q.arena xs hold.queues free;
  sound = sound_without slot xs hold.sound;
}

-- the first thread of a priority moves behind all others
all_pass : (xs : List Entry) → All (λ e. Unit {0}) xs
all_pass xs = λ k d below. tt

rotated_by : (slot p : ℕ) (xs : List Entry) (o : Option Entry)
    → IfSome o (λ e. Unit {0} × ((e.priority == p) ≡ true))
    → option_map (λ e. e.slot) o ≡ Some slot
    → moved_last o xs ≡ without slot xs ++ entry_of slot p ∷ []
rotated_by slot p xs None of found = cc
rotated_by slot p xs (Some e) of found =
    let slot_is : e.slot ≡ slot = cc in
    let priority_is : e.priority ≡ p = eqb-true e.priority p of.1 in
    rw (← slot_is, ← priority_is) refl

rotated_none : (p : ℕ) (xs : List Entry) (o : Option Entry)
    → option_map (λ e. e.slot) o ≡ None → moved_last o xs ≡ xs
rotated_none p xs None found = refl
rotated_none p xs (Some e) found = cc

module _ (q : Queues) (xs : List Entry) (hold : Hold q xs) (list priority : ℕ)
    (is : list + 1 ≡ priority) where
  -- the first node of a queue is the slot of its first thread
  pub first-is : first_node list q.arena ≡ option_map (λ e. e.slot) (first_of priority xs)
  first-is =
      ap head (hold.queues list ∙ ap (λ p. slots_of p xs) is) ∙ head-slots priority xs

  pub hold-rotated : (slot : ℕ) → first_node list q.arena ≡ Some slot
      → list < length q.arena.lists → (bits : ℕ)
      → Hold (queues_of (pushed_back list slot (unlinked slot q.arena)) bits)
      (rotated priority xs)
  hold-rotated slot first below bits =
      let passes =
      IfSome-find (λ e. e.priority == priority) (λ e. Unit {0}) xs (all_pass xs) in
      let moved =
      rotated_by slot priority xs (first_of priority xs) passes (sym first-is ∙ first) in
      let inside : list < length (unlinked slot q.arena).lists =
      omega (arith, below, length-map q.arena.lists (without_node slot)) in
      record {
        queues =
            rw moved
            (queues-back slot list priority is (unlinked slot q.arena) (without slot xs) inside
            (queues-without slot q.arena xs hold.queues));
        sound = (stands_rotated priority (stands_itself hold.sound)).right;
      }

  pub hold-unrotated : first_node list q.arena ≡ None → Hold q (rotated priority xs)
  hold-unrotated none =
      rw (rotated_none priority xs (first_of priority xs) (sym first-is ∙ none)) hold

pub hold-new : (bits : ℕ)
    → Hold (queues_of (no_lists MOST_THREADS LOWEST_PRIORITY) bits) []
hold-new bits = record {
  queues = empty_at LOWEST_PRIORITY;
  sound = record {
    slots = All-nil (λ e. e.slot < MOST_THREADS);
    priorities = All-nil (λ e. IsPriority e.priority);
    distinct = λ i j d less below. absurd (omega arith);
  };
}

-- the lists that the queues hold stand for one another
module _ (q : Queues) (xs ys : List Entry) (hold : Hold q xs) where
  same_at : Hold q ys → (p : ℕ) → (p ≡ 0) ⊎ (p ≢ 0) → of_priority p xs ≡ of_priority p ys
  same_at other p (inl zero_is) =
      let cannot : IsPriority p → ⊥ = λ is. absurd (omega (arith, is.0, zero_is)) in
      none_of_other p cannot xs hold.sound.priorities
      ∙ sym (none_of_other p cannot ys other.sound.priorities)
  same_at other p (inr some) =
      let its : p - 1 + 1 ≡ p = omega (arith, some) in
      same_from_slots p xs ys
      (ap (λ k. slots_of k xs) (sym its) ∙ sym (hold.queues (p - 1)) ∙ other.queues (p - 1)
      ∙ ap (λ k. slots_of k ys) its)

  pub holds_same : Hold q ys → StandsFor xs ys
  holds_same other = record {
    same = λ p. same_at other p (cases_eq p 0);
    left = hold.sound;
    right = other.sound;
  }

  pub holds_any : StandsFor xs ys → Hold q ys
  holds_any same = record {
    queues = λ list. hold.queues list ∙ ap (map (λ e. e.slot)) (same.same (list + 1));
    sound = same.right;
  }
