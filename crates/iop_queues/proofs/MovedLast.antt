-- Queues from which the items of which a condition holds are taken, one after the other, and put
-- behind all others.
use Rattle.std.proofs.Common.{◌≡◌, ℕ, ◌+◌, ◌<◌, ◌≤◌, Bool, Some, option_map, List, [], ◌∷◌, ◌++◌, length, map, append-nil, refl, ap, sym, ◌∙◌, arith}
use Rattle.std.proofs.lemmas.List.{append_assoc, nil_from_length}
use Rattle.iop_queues.specs.Queue.{Choice, chooses_where, left_by}
use Rattle.iop_queues.specs.Queues.{queue_at, with_queue, those_where, others_where, with_priority, moved_last}
use Rattle.iop_queues.specs.declared.queued.Queued.{Queued}
use Rattle.iop_queues.proofs.Beside.{StayBeside, put_back}
use Rattle.iop_queues.proofs.Conditions.{chooses_where-append, first_of_those, others_where-chosen, others_where-no_those, those_where-chosen}

module _ {T : Type 0} (p : T → Bool) (priority : ℕ) where
  -- so many of those of which the condition holds were moved behind all others
  pub record IsMoving (xs now : List (Queued T)) (i : ℕ) : Type 0 where
    pub rest : List (Queued T)
    pub moved : List (Queued T)
    pub now_is : now ≡ rest ++ moved
    pub others : others_where p rest ≡ others_where p xs
    pub those : moved ++ map (with_priority priority) (those_where p rest)
        ≡ map (with_priority priority) (those_where p xs)
    pub count : length (those_where p rest) + i ≡ length (those_where p xs)

  pub moving_none : (xs : List (Queued T)) → IsMoving xs xs 0
  moving_none xs = record {
    rest = xs;
    moved = [];
    now_is = sym (append-nil xs);
    others = refl;
    those = refl;
    count = omega arith;
  }

  pub moving_more : (xs now : List (Queued T)) (i : ℕ) → IsMoving xs now i
      → i < length (those_where p xs)
      → (c : Choice T) × (chooses_where p now ≡ Some c)
      × IsMoving xs (c.others ++ with_priority priority c.one ∷ []) (i + 1)
  moving_more xs now i h less =
      let found = first_of_those p h.rest (omega (arith, h.count, less)) in
      let c = found.0 in
      let those = those_where-chosen p h.rest c found.1 in
      let set = with_priority priority in (
        record { one = c.one; others = c.others ++ h.moved },
        ap (chooses_where p) h.now_is
            ∙ chooses_where-append p h.rest c found.1 h.moved,
        record {
          rest = c.others;
          moved = h.moved ++ set c.one ∷ [];
          now_is = append_assoc c.others h.moved (set c.one ∷ []);
          others = others_where-chosen p h.rest c found.1 ∙ h.others;
          those =
              append_assoc h.moved (set c.one ∷ []) (map set (those_where p c.others))
              ∙ ap (λ ys. h.moved ++ map set ys) (sym those) ∙ h.those;
          count = omega (arith, h.count, ap length those);
        },
      )

  pub moving_all : (xs now : List (Queued T)) (i : ℕ) → IsMoving xs now i
      → length (those_where p xs) ≤ i → now ≡ moved_last p priority xs
  moving_all xs now i h all =
      let none = nil_from_length (those_where p h.rest) (omega (arith, h.count, all)) in
      let set = with_priority priority in
      h.now_is
      ∙ ap (λ ys. ys ++ h.moved) (sym (others_where-no_those p h.rest none) ∙ h.others)
      ∙ ap (λ ys. others_where p xs ++ ys)
      (sym (append-nil h.moved) ∙ ap (λ ys. h.moved ++ map set ys) (sym none) ∙ h.those)

-- a step, where the queue is one of several
module _ {T : Type 0} (queue : ℕ) (first now : List (List (Queued T)))
    (below : queue < length first) (beside : StayBeside queue now first) (p : T → Bool)
    (priority i : ℕ)
    (h : IsMoving p priority (queue_at queue first) (queue_at queue now) i)
    (less : i < length (those_where p (queue_at queue first))) where
  abbrev was : List (Queued T)
  was = queue_at queue first

  abbrev own : List (Queued T)
  own = queue_at queue now

  pub move : (c : Choice T) × (chooses_where p own ≡ Some c)
      × IsMoving p priority was (c.others ++ with_priority priority c.one ∷ []) (i + 1)
  move = moving_more p priority was own i h less

  pub move_taken : option_map (λ c. c.one) (chooses_where p own) ≡ Some move.0.one
  move_taken = ap (option_map (λ c. c.one)) move.1

  pub move_put : (left new : List (List (Queued T))) (x y : Queued T)
      → left ≡ with_queue queue (left_by own (chooses_where p own)) now
      → option_map (λ c. c.one) (chooses_where p own) ≡ Some x → y ≡ with_priority priority x
      → new ≡ with_queue queue (queue_at queue left ++ y ∷ []) left
      → StayBeside queue new first × IsMoving p priority was (queue_at queue new) (i + 1)
  move_put left new x y left_is taken set new_is =
      let same : x ≡ move.0.one = cc (taken, move_taken) in
      let put =
      put_back queue first now left new move.0.others y below beside
      (left_is ∙ ap (λ o. with_queue queue (left_by own o) now) move.1) new_is in
      let last = set ∙ ap (with_priority priority) same in
      (put.0, rw (put.1 ∙ ap (λ z. move.0.others ++ z ∷ []) last) move.2)
