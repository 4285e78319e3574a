-- Queues of which each item is taken and put back, one after the other, so that each keeps its
-- place.
use Rattle.std.proofs.Common.{◌≡◌, ℕ, ◌+◌, ◌<◌, ◌≤◌, Bool, Some, option_map, List, [], ◌∷◌, ◌++◌, length, map, take, drop, get_or, refl, ap, sym, ◌∙◌, arith}
use Rattle.std.proofs.lemmas.List.{append_assoc, map-append, drop_more, drop_all, take_more, take_all}
use Rattle.iop_queues.specs.Queue.{Choice, chooses_first, left_by}
use Rattle.iop_queues.specs.Queues.{queue_at, with_queue, prioritized, in_place}
use Rattle.iop_queues.specs.declared.queued.Queued.{Queued}
use Rattle.iop_queues.proofs.Beside.{StayBeside, put_back}

module _ {T : Type 0} (p : T → Bool) (priority : ℕ) where
  -- so many items were taken and put back, with the priority that they are to have
  abbrev pub turned : List (Queued T) → ℕ → List (Queued T)
  turned xs i = drop i xs ++ map (prioritized p priority) (take i xs)

  pub turned_more : (xs : List (Queued T)) (i : ℕ) → i < length xs
      → (c : Choice T) × (chooses_first (turned xs i) ≡ Some c)
      × (c.others ++ prioritized p priority c.one ∷ [] ≡ turned xs (i + 1))
  turned_more [] i less = absurd (omega (arith, less))
  turned_more (y ∷ ys) i less =
      let xs = y ∷ ys in
      let x = get_or xs i y in
      let set = prioritized p priority in
      let behind = drop (i + 1) xs in (
        record { one = x; others = behind ++ map set (take i xs) },
        rw (drop_more xs i y less) refl,
        append_assoc behind (map set (take i xs)) (set x ∷ [])
            ∙ ap (λ zs. behind ++ zs) (sym (map-append set (take i xs) (x ∷ [])))
            ∙ ap (λ zs. behind ++ map set zs) (sym (take_more xs i y less)),
      )

  pub turned_all : (xs : List (Queued T)) (i : ℕ) → length xs ≤ i
      → turned xs i ≡ in_place p priority xs
  turned_all xs i all =
      rw (drop_all i xs all, take_all i xs all) refl

-- a step, where the queue is one of several
module _ {T : Type 0} (queue : ℕ) (first now : List (List (Queued T)))
    (below : queue < length first) (beside : StayBeside queue now first) (p : T → Bool)
    (priority i : ℕ)
    (at : queue_at queue now ≡ turned p priority (queue_at queue first) i)
    (less : i < length (queue_at queue first)) where
  abbrev was : List (Queued T)
  was = queue_at queue first

  abbrev own : List (Queued T)
  own = queue_at queue now

  pub turn : (c : Choice T) × (chooses_first own ≡ Some c)
      × (c.others ++ prioritized p priority c.one ∷ [] ≡ turned p priority was (i + 1))
  turn =
      let more = turned_more p priority was i less in
      (more.0, ap chooses_first at ∙ more.1, more.2)

  pub turn_taken : option_map (λ c. c.one) (chooses_first own) ≡ Some turn.0.one
  turn_taken = ap (option_map (λ c. c.one)) turn.1

  pub turn_put : (left new : List (List (Queued T))) (x y : Queued T)
      → left ≡ with_queue queue (left_by own (chooses_first own)) now
      → option_map (λ c. c.one) (chooses_first own) ≡ Some x → y ≡ prioritized p priority x
      → new ≡ with_queue queue (queue_at queue left ++ y ∷ []) left
      → StayBeside queue new first × (queue_at queue new ≡ turned p priority was (i + 1))
  turn_put left new x y left_is taken set new_is =
      let same : x ≡ turn.0.one = cc (taken, turn_taken) in
      let put =
      put_back queue first now left new turn.0.others y below beside
      (left_is ∙ ap (λ o. with_queue queue (left_by own o) now) turn.1) new_is in
      let last = set ∙ ap (prioritized p priority) same in
      (put.0, put.1 ∙ ap (λ z. turn.0.others ++ z ∷ []) last ∙ turn.2)
