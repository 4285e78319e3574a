-- Who is chosen of a queue is one of it, and all others stay.
use Rattle.std.proofs.Common.{◌≡◌, Bool, true, false, cond, Option, Some, None, List, [], ◌∷◌, ◌++◌, if◌then◌else◌, All, length, ◌≤◌, arith, refl, ap, subst, sym}
use Rattle.std.specs.Prelude.{nat_lt}
use Rattle.std.proofs.lemmas.List.{length-append}
use Rattle.std.proofs.lemmas.List.Elements.{All-cons, All-head, All-tail}
use Rattle.iop_queues.specs.Laws.{IsTaken}
use Rattle.iop_queues.specs.Queue.{Choice, chooses, chooses_between, chooses_behind, chooses_best_where, chooses_next_where}
use Rattle.iop_queues.specs.declared.queued.Queued.{Queued}
use Rattle.iop_queues.proofs.Choosing.{first_where, queues_chosen}

module _ {T : Type 0} where
  -- by priority, or by arrival
  pub taken_by : (b : Bool) (queue : List (Queued T)) (c : Choice T) → chooses b queue ≡ Some c
      → IsTaken queue c
  taken_by true queue c chosen = (queues_chosen.by_priority queue c chosen).taken
  taken_by false [] c chosen = cc
  taken_by false (x ∷ xs) c chosen =
      let same : record { one = x; others = xs } ≡ c = cc in
      subst (IsTaken (x ∷ xs)) same
      (record { before = []; behind = xs; queue_is = refl; others_are = refl })

  -- one goes
  without_one : (Each : Queued T → Type 0) (before behind : List (Queued T)) (x : Queued T)
      → All Each (before ++ x ∷ behind) → All Each (before ++ behind)
  without_one Each [] behind x all = All-tail Each x behind all
  without_one Each (y ∷ ys) behind x all =
      All-cons Each y (ys ++ behind) (All-head Each y (ys ++ x ∷ behind) all)
      (without_one Each ys behind x (All-tail Each y (ys ++ x ∷ behind) all))

  -- or stands there
  the_one : (Each : Queued T → Type 0) (before behind : List (Queued T)) (x : Queued T)
      → All Each (before ++ x ∷ behind) → Each x
  the_one Each [] behind x all = All-head Each x behind all
  the_one Each (y ∷ ys) behind x all =
      the_one Each ys behind x (All-tail Each y (ys ++ x ∷ behind) all)

  -- what holds of each holds of the one that is chosen
  pub chosen_one : (Each : Queued T → Type 0) (by_priority : Bool) (queue : List (Queued T))
      (c : Choice T) → chooses by_priority queue ≡ Some c → All Each queue → Each c.one
  chosen_one Each by_priority queue c chosen all =
      let taken = taken_by by_priority queue c chosen in
      the_one Each taken.before taken.behind c.one (subst (All Each) taken.queue_is all)

  -- what holds of each holds of those behind and before one that is taken
  pub all_but_taken : (Each : Queued T → Type 0) {queue : List (Queued T)} {c : Choice T}
      → IsTaken queue c → All Each queue → All Each c.others
  all_but_taken Each {queue} {c} taken all =
      subst (All Each) (sym taken.others_are)
      (without_one Each taken.before taken.behind c.one (subst (All Each) taken.queue_is all))

  -- and of those that are not chosen
  pub all_but_chosen : (Each : Queued T → Type 0) (by_priority : Bool) (queue : List (Queued T))
      (c : Choice T) → chooses by_priority queue ≡ Some c → All Each queue → All Each c.others
  all_but_chosen Each by_priority queue c chosen all =
      all_but_taken Each (taken_by by_priority queue c chosen) all

  -- they are no more than there were
  pub fewer_others : {queue : List (Queued T)} {c : Choice T} → IsTaken queue c
      → length c.others ≤ length queue
  fewer_others {queue} {c} taken =
      omega (
        arith,
        ap length taken.others_are,
        ap length taken.queue_is,
        length-append taken.before taken.behind,
        length-append taken.before (c.one ∷ taken.behind),
      )

-- by a condition
module _ {T : Type 0} (p : T → Bool) where
  behind : (x : Queued T) (xs : List (Queued T)) (c : Choice T) → IsTaken xs c
      → IsTaken (x ∷ xs) (record { one = c.one; others = x ∷ c.others })
  behind x xs c h = record {
    before = x ∷ h.before;
    behind = h.behind;
    queue_is = ap (λ ys. x ∷ ys) h.queue_is;
    others_are = ap (λ ys. x ∷ ys) h.others_are;
  }

  here : (x : Queued T) (xs : List (Queued T)) → IsTaken (x ∷ xs) (record { one = x; others = xs })
  here x xs = record { before = []; behind = xs; queue_is = refl; others_are = refl }

  best_taken : (queue : List (Queued T)) (c : Choice T) → chooses_best_where p queue ≡ Some c
      → IsTaken queue c
  best_taken [] c e = cc
  best_taken (x ∷ xs) c e =
      by (p x.item) (chooses_best_where p xs) (best_taken xs) e
    where
      is_it : {d : Choice T} → Some d ≡ Some c → IsTaken (x ∷ xs) d → IsTaken (x ∷ xs) c
      is_it {d} e h = let same : d ≡ c = cc in subst (IsTaken (x ∷ xs)) same h

      between : (less : Bool) (d : Choice T) → IsTaken xs d
          → Some (cond less (record { one = d.one; others = x ∷ d.others })
          (record { one = x; others = xs })) ≡ Some c
          → IsTaken (x ∷ xs) c
      between true d h e = is_it e (behind x xs d h)
      between false d h e = is_it e (here x xs)

      by : (b : Bool) (later : Option (Choice T))
          → ((d : Choice T) → later ≡ Some d → IsTaken xs d)
          → (if b then Some (chooses_between x xs later) else chooses_behind x later) ≡ Some c
          → IsTaken (x ∷ xs) c
      by true None rest e = is_it e (here x xs)
      by true (Some d) rest e =
          between (nat_lt d.one.priority x.priority) d (rest d refl) e
      by false None rest e = cc
      by false (Some d) rest e = is_it e (behind x xs d (rest d refl))

  pub next_taken : (b : Bool) (queue : List (Queued T)) (c : Choice T)
      → chooses_next_where b p queue ≡ Some c → IsTaken queue c
  next_taken true queue c e = best_taken queue c e
  next_taken false queue c e = (first_where p queue c e).taken
