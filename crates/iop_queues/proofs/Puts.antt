-- What stands in the queues once an item is put into one, or taken out of one.
use Rattle.std.proofs.Common.{◌≡◌, ◌≢◌, ℕ, ◌+◌, ◌-◌, ◌<◌, true, false, not, is_some, Option, Some, None, List, [], ◌∷◌, ◌++◌, length, set, refl, ap, sym, subst, ◌∙◌, arith}
use Rattle.std.specs.List.{AllPairs, cons_option}
use Rattle.std.specs.Prelude.{◌==◌}
use Rattle.std.proofs.lemmas.Bool.{false_from_ne_true}
use Rattle.std.proofs.lemmas.List.{length-set, length_push, get_or-set_same}
use Rattle.std.proofs.lemmas.List.Elements.{All-nil, All-cons, All-append, All-filter, filter_map-append}
use Rattle.iop_cblock.specs.Lists.{Lists, AreDisjoint, holds, head, list_at, pushed_back, pushed_front, unlinked, without}
use Rattle.iop_cblock.proofs.Reading.{held-head}
use Rattle.iop_queues.specs.Nodes.{queues_in, AreQueues}
use Rattle.iop_queues.specs.Queue.{Choice}
use Rattle.iop_queues.specs.Queues.{queue_at, with_queue, total}
use Rattle.iop_queues.specs.Walks.{item_at, items_of, AreFilled, CanBeWalked, IsNode}
use Rattle.iop_queues.specs.declared.queued.Queued.{Queued}
use Rattle.iop_queues.proofs.Beside.{total-own}
use Rattle.iop_queues.proofs.Distinct.{Differ, length-without, without-between}
use Rattle.iop_queues.proofs.Walking.{holds-between}
use Rattle.iop_queues.proofs.Moves.{Moves, filled-set, items_of-set, length-items_of, length-queues_in, moves-back, moves-free, queue_at-in, queues-moved, sound-moved}

module _ {T : Type 0} (items : List (Option (Queued T))) (s : Lists) (len room : ℕ)
    (h : AreQueues items s len room) where
  abbrev pub queues : List (List (Queued T))
  queues = queues_in items s.lists

  pub length-queues : length queues + 1 ≡ length s.lists
  length-queues = length-queues_in items s.lists h.has_free

  -- where there is room a node is free
  pub not_full : total queues < room → head (list_at 0 s) ≡ None → ⊥
  not_full fits none =
      no_head (list_at 0 s) none (omega (arith, fits, h.queued, h.free))
    where
      no_head : (nodes : List ℕ) → head nodes ≡ None → 0 < length nodes → ⊥
      no_head [] e some = omega (arith, some)
      no_head (n ∷ nodes) e some = cc

  module _ (queue : ℕ) (below : queue < length queues) where
    inside : queue + 1 < length s.lists
    inside = omega (arith, below, length-queues)

    abbrev own : List ℕ
    own = list_at (queue + 1) s

    own_filled : AreFilled items own
    own_filled = h.filled (queue + 1) (omega arith)

    -- the list of a queue can be walked
    pub can_be_walked : CanBeWalked items s (queue + 1)
    can_be_walked = record {
      list_below = inside;
      nodes_below = omega (arith, h.nodes_are, h.items_are);
      disjoint = h.disjoint;
      filled = own_filled;
    }

    pub queue_is : queue_at queue queues ≡ items_of items own
    queue_is = queue_at-in items s.lists queue

    length-own : length (queue_at queue queues) ≡ length own
    length-own = ap length queue_is ∙ length-items_of items own own_filled

    module _ (node : ℕ) (c : Choice T) (at : IsNode items own c node) where
      abbrev taken : Lists
      taken = pushed_front 0 node (unlinked node s)

      here : holds node own ≡ true
      here = ap (holds node) at.nodes_are ∙ holds-between node at.before at.behind

      left : items_of items (without node own) ≡ c.others
      left =
          ap (λ nodes. items_of items (without node nodes)) at.nodes_are
          ∙ ap (items_of items) (without-between at.before node at.behind
          (subst (AllPairs Differ) at.nodes_are (h.disjoint.once (queue + 1))))
          ∙ at.others_are

      left_filled : AreFilled items (without node own)
      left_filled =
          All-filter (λ n. not (node == n)) (λ n. is_some (item_at items n) ≡ true) own own_filled

      moves : Moves s taken queue (node ∷ list_at 0 s) (without node own)
      moves = moves-free s node queue h.disjoint inside here

      one_less : length (without node own) + 1 ≡ length own
      one_less = length-without node own (h.disjoint.once (queue + 1)) here

      pub some_queued : 0 < len
      some_queued =
          omega (arith, total-own queue queues below, length-own, one_less, h.queued)

      pub queues-taken : queues_in items taken.lists ≡ with_queue queue c.others queues
      queues-taken =
          queues-moved items items s taken queue (node ∷ list_at 0 s) (without node own) moves
          inside (λ list some other. refl)
          ∙ ap (λ q. with_queue queue q queues) left

      pub sound-taken : AreDisjoint taken → AreQueues items taken (len - 1) room
      sound-taken disjoint =
          sound-moved items items s taken queue (node ∷ list_at 0 s) (without node own) moves inside
          (λ list some other. refl) len (len - 1) room h disjoint refl
          (λ list some other. h.filled list (omega (arith, some))) left_filled
          (let long = length-items_of items (without node own) left_filled in
          omega (arith, some_queued, length-own, one_less, long))
          (omega (arith, h.free, some_queued))

    module _ (node : ℕ) (x : Queued T) (first : head (list_at 0 s) ≡ Some node)
        (fits : node < length items) where
      abbrev items' : List (Option (Queued T))
      items' = set items node (Some x)

      abbrev put : Lists
      put = pushed_back (queue + 1) node (unlinked node s)

      free : holds node (list_at 0 s) ≡ true
      free = held-head node (list_at 0 s) first

      lacks : (list : ℕ) → list ≢ 0 → holds node (list_at list s) ≡ false
      lacks list some =
          false_from_ne_true (holds node (list_at list s))
          (λ there. some (h.disjoint.in_one node list 0 there free))

      moves-put : Moves s put queue (without node (list_at 0 s)) (own ++ node ∷ [])
      moves-put = moves-back s node queue h.disjoint inside free

      same : (list : ℕ) → list ≢ 0 → list ≢ queue + 1
          → items_of items' (list_at list s) ≡ items_of items (list_at list s)
      same list some other = items_of-set items node (Some x) (list_at list s) (lacks list some)

      its : item_at items' node ≡ Some x
      its = get_or-set_same items node (Some x) None fits

      own_put : items_of items' (own ++ node ∷ []) ≡ queue_at queue queues ++ x ∷ []
      own_put =
          filter_map-append (item_at items') own (node ∷ [])
          ∙ ap (λ q. q ++ items_of items' (node ∷ []))
          (items_of-set items node (Some x) own (lacks (queue + 1) (omega arith)) ∙ sym queue_is)
          ∙ ap (λ o. queue_at queue queues ++ cons_option o []) its

      put_filled : AreFilled items' (own ++ node ∷ [])
      put_filled =
          let filled : ℕ → Type 0 = λ n. is_some (item_at items' n) ≡ true in
          All-append filled own (node ∷ [])
          (filled-set items node (Some x) own (lacks (queue + 1) (omega arith)) own_filled)
          (All-cons filled node [] (ap is_some its) (All-nil filled))

      pub queues-put : queues_in items' put.lists
          ≡ with_queue queue (queue_at queue queues ++ x ∷ []) queues
      queues-put =
          queues-moved items items' s put queue (without node (list_at 0 s)) (own ++ node ∷ [])
          moves-put inside same
          ∙ ap (λ q. with_queue queue q queues) own_put

      pub sound-put : AreDisjoint put → AreQueues items' put (len + 1) room
      sound-put disjoint =
          let long = ap length own_put in
          let more = length_push (queue_at queue queues) x in
          sound-moved items items' s put queue (without node (list_at 0 s)) (own ++ node ∷ [])
          moves-put inside same len (len + 1) room h disjoint (length-set items node (Some x))
          (λ list some other.
          filled-set items node (Some x) (list_at list s) (lacks list some)
          (h.filled list (omega (arith, some))))
          put_filled (omega (arith, long, more))
          (omega (arith, h.free, length-without node (list_at 0 s) (h.disjoint.once 0) free))
