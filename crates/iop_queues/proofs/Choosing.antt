-- The laws of the choices from a queue.
use Rattle.std.proofs.Common.{◌≡◌, ℕ, suc, ◌<◌, ◌≤◌, Bool, true, false, cond, nat_eq, nat_lt, Option, Some, None, option_map, MatchOption, List, [], ◌∷◌, length, refl, ap, sym, ◌∙◌, subst, arith}
use Rattle.std.specs.List.{All}
use Rattle.std.proofs.lemmas.Bool.{ltb-true, ltb-false, false≢true}
use Rattle.std.proofs.lemmas.Bool.Decides.{nat_tests}
use Rattle.std.proofs.lemmas.List.Elements.{All-nil, All-cons, All-append, All-weaker}
use Rattle.iop_base.specs.Choosing.{better, best}
use Rattle.iop_queues.specs.Queue.{Choice, chooses, chooses_best, chooses_between, chooses_behind, chooses_where, in_order, sorted, put_by_priority}
use Rattle.iop_queues.specs.Laws.{IsBest, IsFirstWhere, QueuesAreChosen, of_priority}
use Rattle.iop_queues.specs.declared.queued.Queued.{Queued}

module _ {T : Type 0} where
  -- by priority
  abbrev Over : Queued T → List (Queued T) → Type 0
  Over x xs = All (λ y. x.priority ≤ y.priority) xs

  -- what is no greater than the best is no greater than any
  over_all : (x : Queued T) (xs : List (Queued T)) (c : Choice T) → IsBest xs c
      → x.priority ≤ c.one.priority → Over x xs
  over_all x xs c h le =
      let over : Queued T → Type 0 = λ y. x.priority ≤ y.priority in
      let before = h.taken.before in
      let behind = h.taken.behind in
      subst (λ (ys : List (Queued T)). All over ys) (sym h.taken.queue_is)
      (All-append over before (c.one ∷ behind)
      (All-weaker (λ y. c.one.priority < y.priority) over (λ y q. omega arith) before h.first)
      (All-cons over c.one behind le
      (All-weaker (λ y. c.one.priority ≤ y.priority) over (λ y q. omega arith) behind h.least)))

  keeps : (x : Queued T) (xs : List (Queued T)) → Over x xs
      → IsBest (x ∷ xs) (record { one = x; others = xs })
  keeps x xs over = record {
    taken = record { before = []; behind = xs; queue_is = refl; others_are = refl };
    first = All-nil (λ y. x.priority < y.priority);
    least = over;
  }

  later : (x : Queued T) (xs : List (Queued T)) (c : Choice T) → IsBest xs c
      → c.one.priority < x.priority
      → IsBest (x ∷ xs) (record { one = c.one; others = x ∷ c.others })
  later x xs c h less = record {
    taken = record {
      before = x ∷ h.taken.before;
      behind = h.taken.behind;
      queue_is = ap (λ ys. x ∷ ys) h.taken.queue_is;
      others_are = ap (λ ys. x ∷ ys) h.taken.others_are;
    };
    first = All-cons (λ y. c.one.priority < y.priority) x h.taken.before less h.first;
    least = h.least;
  }

  between : (x : Queued T) (xs : List (Queued T)) (c : Choice T) → IsBest xs c → (b : Bool)
      → nat_lt c.one.priority x.priority ≡ b
      → IsBest (x ∷ xs) (cond b (record { one = c.one; others = x ∷ c.others })
      (record { one = x; others = xs }))
  between x xs c h true e = later x xs c h (ltb-true _ _ e)
  between x xs c h false e = keeps x xs (over_all x xs c h (ltb-false _ _ e))

  one_more : (x : Queued T) (xs : List (Queued T)) (o : Option (Choice T))
      → MatchOption o (xs ≡ []) (IsBest xs) → IsBest (x ∷ xs) (chooses_between x xs o)
  one_more x xs None e =
      keeps x xs (subst (Over x) (sym e) (All-nil (λ y. x.priority ≤ y.priority)))
  one_more x xs (Some c) h = between x xs c h (nat_lt c.one.priority x.priority) refl

  best_chosen : (xs : List (Queued T)) → MatchOption (chooses_best xs) (xs ≡ []) (IsBest xs)
  best_chosen [] = refl
  best_chosen (x ∷ xs) = one_more x xs (chooses_best xs) (best_chosen xs)

  by_priority : (xs : List (Queued T)) (c : Choice T) → chooses_best xs ≡ Some c → IsBest xs c
  by_priority xs c e =
      subst (λ (o : Option (Choice T)). MatchOption o (xs ≡ []) (IsBest xs)) e (best_chosen xs)

  empty : (by : Bool) (xs : List (Queued T)) → chooses by xs ≡ None → xs ≡ []
  empty true [] e = refl
  empty true (x ∷ xs) e = cc
  empty false [] e = refl
  empty false (x ∷ xs) e = cc

  -- as the ready list chooses
  ready_by : (b : Bool) (x : Queued T) (xs : List (Queued T)) (c : Choice T)
      → Some (cond {A = Choice T} b (record { one = c.one; others = x ∷ c.others })
      (record { one = x; others = xs })).one ≡ Some (cond b c.one x)
  ready_by true x xs c = refl
  ready_by false x xs c = refl

  ready_more : (x : Queued T) (xs : List (Queued T)) (o : Option (Choice T))
      → Some (chooses_between x xs o).one
      ≡ Some (better (λ y. y.priority) x (option_map (λ c. c.one) o))
  ready_more x xs None = refl
  ready_more x xs (Some c) = ready_by (nat_lt c.one.priority x.priority) x xs c

  as_ready : (xs : List (Queued T))
      → option_map (λ c. c.one) (chooses_best xs) ≡ best (λ x. x.priority) xs
  as_ready [] = refl
  as_ready (x ∷ xs) =
      ready_more x xs (chooses_best xs)
      ∙ ap (λ o. Some (better (λ y. y.priority) x o)) (as_ready xs)

  -- by a condition
  first_behind : (p : T → Bool) (x : Queued T) (xs : List (Queued T)) (c : Choice T)
      → p x.item ≡ false → IsFirstWhere p xs c
      → IsFirstWhere p (x ∷ xs) (record { one = c.one; others = x ∷ c.others })
  first_behind p x xs c fails h = record {
    taken = record {
      before = x ∷ h.taken.before;
      behind = h.taken.behind;
      queue_is = ap (λ ys. x ∷ ys) h.taken.queue_is;
      others_are = ap (λ ys. x ∷ ys) h.taken.others_are;
    };
    holds = h.holds;
    first = All-cons (λ y. p y.item ≡ true → ⊥) x h.taken.before
        (λ passes. false≢true (sym fails ∙ passes)) h.first;
  }

  first_here : (p : T → Bool) (x : Queued T) (xs : List (Queued T)) → p x.item ≡ true
      → IsFirstWhere p (x ∷ xs) (record { one = x; others = xs })
  first_here p x xs passes = record {
    taken = record { before = []; behind = xs; queue_is = refl; others_are = refl };
    holds = passes;
    first = All-nil (λ y. p y.item ≡ true → ⊥);
  }

  -- the condition holds of none
  abbrev pub NeverHolds : (T → Bool) → List (Queued T) → Type 0
  NeverHolds p xs = All (λ x. p x.item ≡ true → ⊥) xs

  behind_more : (p : T → Bool) (x : Queued T) (xs : List (Queued T)) (o : Option (Choice T))
      → p x.item ≡ false → MatchOption o (NeverHolds p xs) (IsFirstWhere p xs)
      → MatchOption (chooses_behind x o) (NeverHolds p (x ∷ xs)) (IsFirstWhere p (x ∷ xs))
  behind_more p x xs None fails h =
      All-cons (λ y. p y.item ≡ true → ⊥) x xs (λ passes. false≢true (sym fails ∙ passes)) h
  behind_more p x xs (Some c) fails h = first_behind p x xs c fails h

  where_by : (p : T → Bool) (x : Queued T) (xs : List (Queued T)) (o : Option (Choice T))
      → MatchOption o (NeverHolds p xs) (IsFirstWhere p xs) → (b : Bool) → p x.item ≡ b
      → MatchOption (cond b (Some (record { one = x; others = xs })) (chooses_behind x o))
      (NeverHolds p (x ∷ xs)) (IsFirstWhere p (x ∷ xs))
  where_by p x xs o h true e = first_here p x xs e
  where_by p x xs o h false e = behind_more p x xs o e h

  where_chosen : (p : T → Bool) (xs : List (Queued T))
      → MatchOption (chooses_where p xs) (NeverHolds p xs) (IsFirstWhere p xs)
  where_chosen p [] = All-nil (λ x. p x.item ≡ true → ⊥)
  where_chosen p (x ∷ xs) =
      where_by p x xs (chooses_where p xs) (where_chosen p xs) (p x.item) refl

  pub first_where : (p : T → Bool) (xs : List (Queued T)) (c : Choice T)
      → chooses_where p xs ≡ Some c → IsFirstWhere p xs c
  first_where p xs c e =
      subst (λ (o : Option (Choice T)). MatchOption o (NeverHolds p xs) (IsFirstWhere p xs)) e
      (where_chosen p xs)

  pub none_where : (p : T → Bool) (xs : List (Queued T)) → chooses_where p xs ≡ None
      → NeverHolds p xs
  none_where p xs e =
      subst (λ (o : Option (Choice T)). MatchOption o (NeverHolds p xs) (IsFirstWhere p xs)) e
      (where_chosen p xs)

  -- the order
  abbrev Comes : List (Queued T) → Choice T → Type 0
  Comes ys c = ys ≡ c.one ∷ sorted c.others

  put_by : (x : Queued T) (xs ys : List (Queued T)) (c : Choice T)
      → sorted xs ≡ c.one ∷ sorted c.others → (b : Bool) → nat_lt c.one.priority x.priority ≡ b
      → Comes (cond b (c.one ∷ put_by_priority x (sorted c.others)) (x ∷ c.one ∷ sorted c.others))
      (cond b (record { one = c.one; others = x ∷ c.others }) (record { one = x; others = xs }))
  put_by x xs ys c h true e = refl
  put_by x xs ys c h false e = ap (λ zs. x ∷ zs) (sym h)

  put_more : (x : Queued T) (xs : List (Queued T)) (o : Option (Choice T))
      → MatchOption o (xs ≡ []) (Comes (sorted xs))
      → Comes (put_by_priority x (sorted xs)) (chooses_between x xs o)
  put_more x xs None e =
      subst (λ (ys : List (Queued T)).
      Comes (put_by_priority x (sorted ys)) (chooses_between x ys None)) (sym e) refl
  put_more x xs (Some c) h =
      ap (put_by_priority x) h ∙ put_by x xs xs c h (nat_lt c.one.priority x.priority) refl

  sorted_chosen : (xs : List (Queued T))
      → MatchOption (chooses_best xs) (xs ≡ []) (Comes (sorted xs))
  sorted_chosen [] = refl
  sorted_chosen (x ∷ xs) = put_more x xs (chooses_best xs) (sorted_chosen xs)

  order : (by : Bool) (xs : List (Queued T)) (c : Choice T) → chooses by xs ≡ Some c
      → in_order by xs ≡ c.one ∷ in_order by c.others
  order true xs c e =
      subst (λ (o : Option (Choice T)). MatchOption o (xs ≡ []) (Comes (sorted xs))) e
      (sorted_chosen xs)
  order false [] c e = cc
  order false (x ∷ xs) c e = cc

  length-put : (x : Queued T) (ys : List (Queued T))
      → length (put_by_priority x ys) ≡ suc (length ys)
  length-put x [] = refl
  length-put x (y ∷ ys) = grind (arith, length-put x ys)

  length-sorted : (xs : List (Queued T)) → length (sorted xs) ≡ length xs
  length-sorted [] = refl
  length-sorted (x ∷ xs) = length-put x (sorted xs) ∙ ap suc (length-sorted xs)

  size : (by : Bool) (xs : List (Queued T)) → length (in_order by xs) ≡ length xs
  size true xs = length-sorted xs
  size false xs = refl

  of_priority-put : (n : ℕ) (x : Queued T) (ys : List (Queued T))
      → of_priority n (put_by_priority x ys) ≡ of_priority n (x ∷ ys)
  of_priority-put n x [] = refl
  of_priority-put n x (y ∷ ys) = grind (arith, nat_tests, of_priority-put n x ys)

  stable : (xs : List (Queued T)) (n : ℕ) → of_priority n (sorted xs) ≡ of_priority n xs
  stable [] n = refl
  stable (x ∷ xs) n =
      of_priority-put n x (sorted xs)
      ∙ ap (λ ys. cond (nat_eq x.priority n) (x ∷ ys) ys) (stable xs n)

  pub queues_chosen : QueuesAreChosen T
  queues_chosen = record {
    empty = empty;
    by_priority = by_priority;
    as_ready = as_ready;
    first_where = first_where;
    none_where = none_where;
    order = order;
    stable = stable;
    size = size;
  }
