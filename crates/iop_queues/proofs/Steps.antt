-- What a cursor finds among the nodes of a list, step by step.
use Rattle.std.proofs.Common.{◌≡◌, ◌∙◌, ℕ, ◌+◌, ◌<◌, ◌≤◌, Bool, true, false, cond, Option, Some, IfSome, MatchOption, List, [], ◌∷◌, ◌++◌, length, refl, sym, ap, arith}
use Rattle.std.specs.List.{count_by}
use Rattle.std.proofs.lemmas.Bool.{cond_both}
use Rattle.iop_cblock.specs.Lists.{Lists, holds, list_at, first_node, next_of}
use Rattle.iop_queues.specs.Queue.{chooses_best, chooses_where}
use Rattle.iop_queues.specs.Walks.{ahead, IsInside, item_at, items_of, items_ahead, IsWalk, CanBeWalked, priority_at, with_later, IsRanked, holds_at, Finds}
use Rattle.iop_queues.specs.declared.queued.Queued.{Queued}
use Rattle.iop_queues.specs.declared.walks.Ranked.{Ranked}
use Rattle.iop_queues.proofs.Walking.{passed, passed-ahead, inside-head, ahead-head, IsStep, below-held, length-list, steps}
use Rattle.iop_queues.proofs.Finding.{Finds-more, Finds-where, NoneMeets, NoneMeets-more, count-more, item_of, node_of, with_later-either}

-- what is found when a cursor has come so far
module _ {T : Type 0} (items : List (Option (Queued T))) (s : Lists) (list : ℕ) where
  pub record BestSoFar (cursor : Option ℕ) (best : Option Ranked) : Type 0 where
    pub inside : IsInside cursor (list_at list s)
    pub found : Finds items (passed cursor (list_at list s)) (node_of best)
        (chooses_best (items_of items (passed cursor (list_at list s))))
    pub ranked : IfSome best (IsRanked items)
    pub below : IfSome best (λ r. r.node < s.nodes)

  pub record NoneSoFar (p : T → Bool) (cursor : Option ℕ) : Type 0 where
    pub inside : IsInside cursor (list_at list s)
    pub none : NoneMeets p (items_of items (passed cursor (list_at list s)))

  pub record CountSoFar (p : T → Bool) (cursor : Option ℕ) (count : ℕ) : Type 0 where
    pub inside : IsInside cursor (list_at list s)
    pub count_is : count
        ≡ count_by (λ x. p x.item) (items_of items (passed cursor (list_at list s)))
    pub few : count + length (ahead cursor (list_at list s)) ≤ length (list_at list s)

-- a walk begins at the first node
module _ {T : Type 0} (items : List (Option (Queued T))) (s : Lists) (list : ℕ)
    {cursor : Option ℕ} (is : cursor ≡ first_node list s) where
  pub IsWalk-first : CanBeWalked items s list → IsWalk items s list cursor
  IsWalk-first can = record { list_can = can; inside = rw is (inside-head (list_at list s)) }

  pub all_ahead : items_ahead items s list cursor ≡ items_of items (list_at list s)
  all_ahead =
      ap (items_of items)
      (ap (λ c. ahead c (list_at list s)) is ∙ ahead-head (list_at list s))

-- what a step from a node of the list adds
module _ {T : Type 0} {items : List (Option (Queued T))} {s : Lists} {list : ℕ}
    (walk : CanBeWalked items s list) {cursor : Option ℕ} {node : ℕ} (is : cursor ≡ Some node)
    (inside : IsInside cursor (list_at list s)) where
  held : holds node (list_at list s) ≡ true
  held = rw is at inside

  pub item : (x : Queued T) × (item_at items node ≡ Some x)
  item = item_of items (list_at list s) walk.filled node held

  pub node_below : node < s.nodes
  node_below = below-held list s walk.disjoint node held

  pub item_below : node < length items
  item_below = omega (arith, node_below, walk.nodes_below)

  pub go_on : (next : Option ℕ) → next ≡ next_of node s → IsStep cursor next node (list_at list s)
  go_on next next_is =
      steps list s walk.disjoint walk.list_below cursor next node is held next_is

  pub nearer : {next : Option ℕ} → next ≡ next_of node s
      → length (ahead next (list_at list s)) < length (ahead cursor (list_at list s))
  nearer {next} next_is = omega (arith, ap length (go_on next next_is).ahead_is)

  pub IsWalk-next : {next : Option ℕ} → next ≡ next_of node s → IsWalk items s list next
  IsWalk-next {next} next_is = record { list_can = walk; inside = (go_on next next_is).inside }

  -- the node's item is the next one
  pub reads_next : {next : Option ℕ} {read : Option (Queued T)} {now : List (Queued T)}
      → items_ahead items s list cursor ≡ now → next ≡ next_of node s
      → read ≡ item_at items node
      → MatchOption read ((now ≡ []) × (items_ahead items s list next ≡ []))
      (λ x. now ≡ x ∷ items_ahead items s list next)
  reads_next {next} view next_is read_is =
      rw (read_is ∙ item.1)
      (sym view ∙ ap (items_of items) (go_on next next_is).ahead_is ∙ rw item.1 refl)

  pub best_more : {next : Option ℕ} {best : Option Ranked} {priority : ℕ} {better : Ranked}
      → BestSoFar items s list cursor best → next ≡ next_of node s
      → priority ≡ priority_at items node
      → better ≡ with_later best (record { node = node; priority = priority })
      → BestSoFar items s list next (Some better)
  best_more {next} {best} {priority} h next_is priority_is better_is =
      let step = go_on next next_is in
      let own : Ranked = record { node = node; priority = priority } in
      let x_is : priority ≡ item.0.priority = rw item.1 at priority_is in
      record {
        inside = step.inside;
        found = rw (step.passed_is, better_is, x_is)
            (Finds-more items (passed cursor (list_at list s)) node item.0 item.1 best h.found
            h.ranked);
        ranked = rw better_is
            (with_later-either (IsRanked items) best own h.ranked priority_is);
        below = rw better_is
            (with_later-either (λ r. r.node < s.nodes) best own h.below node_below);
      }

  pub none_more : {p : T → Bool} {next : Option ℕ} → NoneSoFar items s list p cursor
      → next ≡ next_of node s → holds_at p items node ≡ false → NoneSoFar items s list p next
  none_more {p} {next} h next_is fails =
      let step = go_on next next_is in
      record {
        inside = step.inside;
        none = rw step.passed_is
            (NoneMeets-more p items (passed cursor (list_at list s)) node item.0 item.1 h.none
            (rw item.1 at fails));
      }

  pub none_until : {p : T → Bool} → NoneSoFar items s list p cursor → holds_at p items node ≡ true
      → Finds items (list_at list s) (Some node) (chooses_where p (items_of items (list_at list s)))
  none_until {p} h meets =
      let own = list_at list s in
      let front = passed cursor own in
      let step = go_on (next_of node s) refl in
      Finds-where p items front node item.0 item.1 (ahead (next_of node s) own) h.none
      (rw item.1 at meets) own
      (sym (ap (λ ys. front ++ ys) (sym step.ahead_is) ∙ passed-ahead cursor own))

  pub count_more : {p : T → Bool} {next : Option ℕ} {count later : ℕ}
      → CountSoFar items s list p cursor count → next ≡ next_of node s
      → later ≡ count + cond (holds_at p items node) 1 0 → CountSoFar items s list p next later
  count_more {p} {next} h next_is later_is =
      let step = go_on next next_is in
      let front = passed cursor (list_at list s) in
      let one = cond_both (holds_at p items node) 1 0 (λ n. n ≤ 1) (λ e. omega arith)
      (λ e. omega arith) in
      record {
        inside = step.inside;
        count_is = later_is
            ∙ ap (λ n. n + cond (holds_at p items node) 1 0) h.count_is
            ∙ sym (ap (λ ys. count_by (λ x. p x.item) (items_of items ys)) step.passed_is
            ∙ count-more p items front node item.0 item.1);
        few = omega (arith, later_is, one, h.few, ap length step.ahead_is);
      }

  -- one more is no more than there are items
  pub count_fits : {p : T → Bool} {count : ℕ} → CountSoFar items s list p cursor count
      → count < length items
  count_fits h =
      let step = go_on (next_of node s) refl in
      omega (
        arith,
        h.few,
        ap length step.ahead_is,
        length-list list s walk.disjoint,
        walk.nodes_below,
      )
