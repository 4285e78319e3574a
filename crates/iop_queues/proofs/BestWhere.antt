-- The best of the items of which a condition holds, among more and more of the nodes of a list.
use Rattle.std.proofs.Common.{◌≡◌, ◌∙◌, ℕ, ◌<◌, Bool, true, false, cond, Option, Some, None, IfSome, option_map, List, [], ◌∷◌, ◌++◌, refl, ap, arith}
use Rattle.std.proofs.lemmas.Bool.Decides.{nat_tests}
use Rattle.iop_cblock.specs.Lists.{Lists, list_at, next_of}
use Rattle.iop_queues.specs.Queue.{Choice, chooses_behind, chooses_best_where, chooses_between}
use Rattle.iop_queues.specs.Walks.{IsInside, item_at, items_of, CanBeWalked, priority_at, with_later, IsRanked, holds_at, Finds}
use Rattle.iop_queues.specs.declared.queued.Queued.{Queued}
use Rattle.iop_queues.specs.declared.walks.Ranked.{Ranked}
use Rattle.iop_queues.proofs.Walking.{passed, IsStep}
use Rattle.iop_queues.proofs.Finding.{with_last, between_last, items_of-between, node_before, node_with_later, node_of, with_later-either}
use Rattle.iop_queues.proofs.Steps.{item, go_on, node_below}

module _ {T : Type 0} (p : T → Bool) where
  -- one that does not meet the condition stands at the end
  abbrev behind_it : Queued T → Choice T → Choice T
  behind_it y c = record { one = c.one; others = c.others ++ y ∷ [] }

  best_where-other : (xs : List (Queued T)) (y : Queued T) → p y.item ≡ false
      → chooses_best_where p (xs ++ y ∷ [])
      ≡ option_map (behind_it y) (chooses_best_where p xs)
  best_where-other [] y fails = rw fails refl
  best_where-other (x ∷ xs) y fails =
      either (p x.item) (chooses_best_where p xs) (chooses_best_where p (xs ++ y ∷ []))
      (best_where-other xs y fails)
    where
      either : (b : Bool) (o rest : Option (Choice T)) → rest ≡ option_map (behind_it y) o
          → cond b (Some (chooses_between x (xs ++ y ∷ []) rest)) (chooses_behind x rest)
          ≡ option_map (behind_it y)
          (cond b (Some (chooses_between x xs o)) (chooses_behind x o))
      either true None rest is = rw is refl
      either true (Some c) rest is = rw is (grind (arith, nat_tests))
      either false None rest is = rw is refl
      either false (Some c) rest is = rw is refl

  -- one that does
  best_where-push : (xs : List (Queued T)) (y : Queued T) → p y.item ≡ true
      → chooses_best_where p (xs ++ y ∷ []) ≡ Some (with_last (chooses_best_where p xs) xs y)
  best_where-push [] y meets = rw meets refl
  best_where-push (x ∷ xs) y meets =
      either (p x.item) (chooses_best_where p xs) (chooses_best_where p (xs ++ y ∷ []))
      (best_where-push xs y meets)
    where
      either : (b : Bool) (o rest : Option (Choice T)) → rest ≡ Some (with_last o xs y)
          → cond b (Some (chooses_between x (xs ++ y ∷ []) rest)) (chooses_behind x rest)
          ≡ Some (with_last (cond b (Some (chooses_between x xs o)) (chooses_behind x o))
          (x ∷ xs) y)
      either true o rest is = rw is (ap Some (between_last x xs o y))
      either false None rest is = rw is refl
      either false (Some c) rest is = rw is (grind (arith, nat_tests))

  module _ (items : List (Option (Queued T))) (xs : List ℕ) (node : ℕ) (x : Queued T)
      (is : item_at items node ≡ Some x) where
    abbrev before : Option (Choice T)
    before = chooses_best_where p (items_of items xs)

    more : items_of items (xs ++ node ∷ []) ≡ items_of items xs ++ x ∷ []
    more = items_of-between items xs node [] x is

    Finds-met : p x.item ≡ true → (best : Option Ranked) → Finds items xs (node_of best) before
        → IfSome best (IsRanked items)
        → Finds items (xs ++ node ∷ [])
        (Some (with_later best (record { node = node; priority = x.priority })).node)
        (chooses_best_where p (items_of items (xs ++ node ∷ [])))
    Finds-met meets best h ranked = (
      with_last before (items_of items xs) x,
      ap (chooses_best_where p) more ∙ best_where-push (items_of items xs) x meets,
      node_with_later items xs node x is best before h ranked,
    )

    Finds-unmet : p x.item ≡ false → (best : Option Ranked) → Finds items xs (node_of best) before
        → Finds items (xs ++ node ∷ []) (node_of best)
        (chooses_best_where p (items_of items (xs ++ node ∷ [])))
    Finds-unmet fails best h = by best h
      where
        now : chooses_best_where p (items_of items (xs ++ node ∷ []))
            ≡ option_map (behind_it x) before
        now = ap (chooses_best_where p) more ∙ best_where-other (items_of items xs) x fails

        by : (best : Option Ranked) → Finds items xs (node_of best) before
            → Finds items (xs ++ node ∷ []) (node_of best)
            (chooses_best_where p (items_of items (xs ++ node ∷ [])))
        by None h = now ∙ ap (option_map (behind_it x)) h
        by (Some first) h = (
          behind_it x h.0,
          now ∙ ap (option_map (behind_it x)) h.1,
          node_before items xs node x is h.0 first.node h.2,
        )

-- what is found when a cursor has come so far
module _ {T : Type 0} (items : List (Option (Queued T))) (s : Lists) (list : ℕ) where
  pub record BestWhereSoFar (p : T → Bool) (cursor : Option ℕ) (best : Option Ranked) : Type 0 where
    pub inside : IsInside cursor (list_at list s)
    pub found : Finds items (passed cursor (list_at list s)) (node_of best)
        (chooses_best_where p (items_of items (passed cursor (list_at list s))))
    pub ranked : IfSome best (IsRanked items)
    pub below : IfSome best (λ r. r.node < s.nodes)

-- what a step from a node of the list adds
module _ {T : Type 0} {items : List (Option (Queued T))} {s : Lists} {list : ℕ}
    (walk : CanBeWalked items s list) {cursor : Option ℕ} {node : ℕ} (is : cursor ≡ Some node)
    (inside : IsInside cursor (list_at list s)) {p : T → Bool} {next : Option ℕ}
    {best : Option Ranked} (h : BestWhereSoFar items s list p cursor best)
    (next_is : next ≡ next_of node s) where
  step : IsStep cursor next node (list_at list s)
  step = go_on walk is inside next next_is

  pub best_where_more : {priority : ℕ} {better : Ranked} → holds_at p items node ≡ true
      → priority ≡ priority_at items node
      → better ≡ with_later best (record { node = node; priority = priority })
      → BestWhereSoFar items s list p next (Some better)
  best_where_more {priority} meets priority_is better_is =
      let x = item walk is inside in
      let own : Ranked = record { node = node; priority = priority } in
      let x_is : priority ≡ x.0.priority = rw x.1 at priority_is in
      record {
        inside = step.inside;
        found = rw (step.passed_is, better_is, x_is)
            (Finds-met p items (passed cursor (list_at list s)) node x.0 x.1 (rw x.1 at meets) best
            h.found h.ranked);
        ranked = rw better_is
            (with_later-either (IsRanked items) best own h.ranked priority_is);
        below = rw better_is
            (with_later-either (λ r. r.node < s.nodes) best own h.below
            (node_below walk is inside));
      }

  pub best_where_same : holds_at p items node ≡ false → BestWhereSoFar items s list p next best
  best_where_same fails =
      let x = item walk is inside in
      record {
        inside = step.inside;
        found = rw step.passed_is
            (Finds-unmet p items (passed cursor (list_at list s)) node x.0 x.1 (rw x.1 at fails)
            best h.found);
        ranked = h.ranked;
        below = h.below;
      }
