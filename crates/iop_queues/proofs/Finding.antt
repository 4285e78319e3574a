-- What is found among more and more of the nodes of a list.
use Rattle.std.proofs.Common.{◌≡◌, ◌∙◌, ℕ, ◌+◌, Bool, true, false, cond, nat_lt, Option, Some, None, IfSome, is_some, option_map, List, [], ◌∷◌, ◌++◌, append-nil, append_assoc, refl, sym, ap, subst, arith}
use Rattle.std.specs.List.{All, count_by}
use Rattle.std.proofs.lemmas.Bool.{cond_both}
use Rattle.std.proofs.lemmas.Bool.Decides.{nat_tests}
use Rattle.std.proofs.lemmas.List.Elements.{All-head, All-tail, All-push, filter_map-append}
use Rattle.std.proofs.lemmas.List.Sums.{sum_by_push}
use Rattle.iop_cblock.specs.Lists.{holds, head}
use Rattle.iop_queues.specs.Queue.{Choice, chooses_first, chooses_best, chooses_between, chooses_where}
use Rattle.iop_queues.specs.Walks.{item_at, items_of, AreFilled, with_later, IsRanked, holds_at, IsNode, Finds}
use Rattle.iop_queues.specs.declared.queued.Queued.{Queued}
use Rattle.iop_queues.specs.declared.walks.Ranked.{Ranked}
use Rattle.iop_queues.proofs.Walking.{inside-head, All-held}

module _ {T : Type 0} where
  -- the choice where one more item stands at the end
  abbrev pub with_last : Option (Choice T) → List (Queued T) → Queued T → Choice T
  with_last None queue y = record { one = y; others = queue }
  with_last (Some c) queue y =
      cond (nat_lt y.priority c.one.priority) (record { one = y; others = queue })
      (record { one = c.one; others = c.others ++ y ∷ [] })

  pub between_last : (x : Queued T) (xs : List (Queued T)) (o : Option (Choice T)) (y : Queued T)
      → chooses_between x (xs ++ y ∷ []) (Some (with_last o xs y))
      ≡ with_last (Some (chooses_between x xs o)) (x ∷ xs) y
  between_last x xs None y = refl
  between_last x xs (Some c) y = grind (arith, nat_tests)

  chooses_best-push : (xs : List (Queued T)) (y : Queued T)
      → chooses_best (xs ++ y ∷ []) ≡ Some (with_last (chooses_best xs) xs y)
  chooses_best-push [] y = refl
  chooses_best-push (x ∷ xs) y =
      ap (λ o. Some (chooses_between x (xs ++ y ∷ []) o)) (chooses_best-push xs y)
      ∙ ap Some (between_last x xs (chooses_best xs) y)

  some_of : (o : Option (Queued T)) → is_some o ≡ true → (x : Queued T) × (o ≡ Some x)
  some_of None h = cc
  some_of (Some x) h = (x, refl)

  -- the item of a node that is searched
  pub item_of : (items : List (Option (Queued T))) (nodes : List ℕ) → AreFilled items nodes → (node : ℕ)
      → holds node nodes ≡ true → (x : Queued T) × (item_at items node ≡ Some x)
  item_of items nodes filled node held =
      some_of (item_at items node)
      (All-held (λ n. is_some (item_at items n) ≡ true) node nodes filled held)

abbrev pub node_of : Option Ranked → Option ℕ
node_of best = option_map (λ r. r.node) best

pub with_later-either : (P : Ranked → Type 0) (best : Option Ranked) (later : Ranked) → IfSome best P
    → P later → P (with_later best later)
with_later-either P None later earlier here = here
with_later-either P (Some first) later earlier here =
    cond_both (nat_lt later.priority first.priority) later first P (λ e. here) (λ e. earlier)

module _ {T : Type 0} (items : List (Option (Queued T))) where
  pub items_of-between : (front : List ℕ) (node : ℕ) (back : List ℕ) (x : Queued T)
      → item_at items node ≡ Some x
      → items_of items (front ++ node ∷ back) ≡ items_of items front ++ x ∷ items_of items back
  items_of-between front node back x is =
      rw (filter_map-append (item_at items) front (node ∷ back), is) refl

  -- by arrival
  first_node : (node : ℕ) (nodes : List ℕ) (x : Queued T) → item_at items node ≡ Some x
      → Finds items (node ∷ nodes) (Some node) (chooses_first (items_of items (node ∷ nodes)))
  first_node node nodes x is = (
    record { one = x; others = items_of items nodes },
    rw is refl,
    record { before = []; behind = nodes; nodes_are = refl; item_is = is; others_are = refl },
  )

  pub Finds-first : (nodes : List ℕ) → AreFilled items nodes
      → Finds items nodes (head nodes) (chooses_first (items_of items nodes))
  Finds-first [] filled = refl
  Finds-first (node ∷ nodes) filled =
      let item = item_of items (node ∷ nodes) filled node (inside-head (node ∷ nodes)) in
      first_node node nodes item.0 item.1

  -- by priority, once one more node is searched
  module _ (xs : List ℕ) (node : ℕ) (x : Queued T) (is : item_at items node ≡ Some x) where
    node_last : IsNode items (xs ++ node ∷ []) (record { one = x; others = items_of items xs }) node
    node_last = record {
      before = xs;
      behind = [];
      nodes_are = refl;
      item_is = is;
      others_are = ap (items_of items) (append-nil xs);
    }

    pub node_before : (c : Choice T) (first : ℕ) → IsNode items xs c first
        → IsNode items (xs ++ node ∷ []) (record { one = c.one; others = c.others ++ x ∷ [] }) first
    node_before c first h = record {
      before = h.before;
      behind = h.behind ++ node ∷ [];
      nodes_are = ap (λ ys. ys ++ node ∷ []) h.nodes_are
          ∙ append_assoc h.before (first ∷ h.behind) (node ∷ []);
      item_is = h.item_is;
      others_are = ap (items_of items) (sym (append_assoc h.before h.behind (node ∷ [])))
          ∙ items_of-between (h.before ++ h.behind) node [] x is
          ∙ ap (λ ys. ys ++ x ∷ []) h.others_are;
    }

    abbrev pub own : Ranked
    own = record { node = node; priority = x.priority }

    node_by : (b : Bool) (c : Choice T) (first : Ranked) → IsNode items xs c first.node
        → IsNode items (xs ++ node ∷ []) (cond b (record { one = x; others = items_of items xs })
        (record { one = c.one; others = c.others ++ x ∷ [] })) (cond b own first).node
    node_by true c first h = node_last
    node_by false c first h = node_before c first.node h

    pub node_with_later : (best : Option Ranked) (o : Option (Choice T))
        → Finds items xs (node_of best) o → IfSome best (IsRanked items)
        → IsNode items (xs ++ node ∷ []) (with_last o (items_of items xs) x)
        (with_later best own).node
    node_with_later None o h ranked = rw h node_last
    node_with_later (Some first) o h ranked =
        let found = h.2 in
        let first_is : first.priority ≡ h.0.one.priority = rw found.item_is at ranked in
        rw h.1
        (subst (λ n.
        IsNode items (xs ++ node ∷ []) (with_last (Some h.0) (items_of items xs) x)
        (cond (nat_lt x.priority n) own first).node) (sym first_is)
        (node_by (nat_lt x.priority h.0.one.priority) h.0 first found))

    pub Finds-more : (best : Option Ranked)
        → Finds items xs (node_of best) (chooses_best (items_of items xs))
        → IfSome best (IsRanked items)
        → Finds items (xs ++ node ∷ []) (Some (with_later best own).node)
        (chooses_best (items_of items (xs ++ node ∷ [])))
    Finds-more best h ranked =
        let o = chooses_best (items_of items xs) in (
          with_last o (items_of items xs) x,
          ap chooses_best (items_of-between xs node [] x is)
              ∙ chooses_best-push (items_of items xs) x,
          node_with_later best o h ranked,
        )

-- by a condition
module _ {T : Type 0} (p : T → Bool) where
  -- it holds of none of the items
  abbrev pub NoneMeets : List (Queued T) → Type 0
  NoneMeets xs = All (λ x. p x.item ≡ false) xs

  pub chooses_where-none : (xs : List (Queued T)) → NoneMeets xs → chooses_where p xs ≡ None
  chooses_where-none [] none = refl
  chooses_where-none (x ∷ xs) none =
      rw (
        All-head (λ y. p y.item ≡ false) x xs none,
        chooses_where-none xs (All-tail (λ y. p y.item ≡ false) x xs none),
      ) refl

  pub chooses_where-first : (xs : List (Queued T)) (y : Queued T) (ys : List (Queued T))
      → NoneMeets xs → p y.item ≡ true
      → chooses_where p (xs ++ y ∷ ys) ≡ Some (record { one = y; others = xs ++ ys })
  chooses_where-first [] y ys none meets = rw meets refl
  chooses_where-first (x ∷ xs) y ys none meets =
      rw (
        All-head (λ z. p z.item ≡ false) x xs none,
        chooses_where-first xs y ys (All-tail (λ z. p z.item ≡ false) x xs none) meets,
      ) refl

  module _ (items : List (Option (Queued T))) (front : List ℕ) (node : ℕ) (x : Queued T)
      (is : item_at items node ≡ Some x) where
    pub Finds-where : (back : List ℕ) → NoneMeets (items_of items front) → p x.item ≡ true
        → (nodes : List ℕ) → nodes ≡ front ++ node ∷ back
        → Finds items nodes (Some node) (chooses_where p (items_of items nodes))
    Finds-where back none meets nodes are =
        rw are (
          record { one = x; others = items_of items front ++ items_of items back },
          ap (chooses_where p) (items_of-between items front node back x is)
              ∙ chooses_where-first (items_of items front) x (items_of items back) none meets,
          record {
            before = front;
            behind = back;
            nodes_are = refl;
            item_is = is;
            others_are = filter_map-append (item_at items) front back;
          },
        )

    pub NoneMeets-more : NoneMeets (items_of items front) → p x.item ≡ false
        → NoneMeets (items_of items (front ++ node ∷ []))
    NoneMeets-more none fails =
        rw (items_of-between items front node [] x is)
        (All-push (λ y. p y.item ≡ false) (items_of items front) x none fails)

    pub count-more : count_by (λ y. p y.item) (items_of items (front ++ node ∷ []))
        ≡ count_by (λ y. p y.item) (items_of items front) + cond (holds_at p items node) 1 0
    count-more =
        ap (count_by (λ y. p y.item)) (items_of-between items front node [] x is)
        ∙ sum_by_push (λ y. cond (p y.item) 1 0) (items_of items front) x ∙ rw is refl
