-- What stands in the queues once a node was moved from one list into another.
use Rattle.std.proofs.Common.{◌≡◌, ◌≢◌, ℕ, suc, ◌+◌, ◌<◌, true, false, is_some, ◌⊎◌, inl, inr, ⊎_elim, Option, Some, None, List, [], ◌∷◌, ◌++◌, length, map, get_or, set, refl, ap, sym, ◌∙◌, arith}
use Rattle.std.specs.List.{cons_option}
use Rattle.std.proofs.lemmas.Bool.{cases_eq, cases_lt}
use Rattle.std.proofs.lemmas.List.{length-map, length-set, get_or-map, get_or_past, get_or-set_same, get_or-set_other, ext_get_or}
use Rattle.std.proofs.lemmas.List.Elements.{All-nil, All-cons, All-head, All-tail}
use Rattle.iop_cblock.specs.Lists.{Lists, AreDisjoint, holds, list_at, pushed_back, pushed_front, unlinked, without}
use Rattle.iop_cblock.proofs.Reading.{list_at-same, list_at-other, list_at-unlinked, unlinked-others}
use Rattle.iop_cblock.proofs.Rings.{lacks-head, lacks-tail}
use Rattle.iop_queues.specs.Nodes.{queues_in, AreQueues}
use Rattle.iop_queues.specs.Queues.{queue_at, with_queue, total}
use Rattle.iop_queues.specs.Walks.{item_at, items_of, AreFilled}
use Rattle.iop_queues.specs.declared.queued.Queued.{Queued}
use Rattle.iop_queues.proofs.Beside.{total-with}

module _ {T : Type 0} where
  -- the queue of a number is the list behind it
  queue_at-lists : (items : List (Option (Queued T))) (lists : List (List ℕ)) (queue : ℕ)
      → get_or (map (items_of items) lists) queue [] ≡ items_of items (get_or lists queue [])
  queue_at-lists items lists queue =
      ⊎_elim
      (λ below. get_or-map (items_of items) lists queue [] [] below)
      (λ past. get_or_past (map (items_of items) lists) queue []
      (omega (arith, past, length-map lists (items_of items)))
      ∙ ap (items_of items) (sym (get_or_past lists queue [] past)))
      (cases_lt queue (length lists))

  pub queue_at-in : (items : List (Option (Queued T))) (lists : List (List ℕ)) (queue : ℕ)
      → queue_at queue (queues_in items lists) ≡ items_of items (get_or lists (queue + 1) [])
  queue_at-in items [] queue = refl
  queue_at-in items (free ∷ lists) queue =
      let next : queue + 1 ≡ suc queue = omega arith in
      queue_at-lists items lists queue
      ∙ ap (λ n. items_of items (get_or (free ∷ lists) n [])) (sym next)

  pub length-queues_in : (items : List (Option (Queued T))) (lists : List (List ℕ))
      → 0 < length lists → length (queues_in items lists) + 1 ≡ length lists
  length-queues_in items [] some = absurd (omega (arith, some))
  length-queues_in items (free ∷ lists) some = omega (arith, length-map lists (items_of items))

  -- the items of nodes, once another node has another
  module _ (items : List (Option (Queued T))) (node : ℕ) (x : Option (Queued T)) where
    pub items_of-set : (nodes : List ℕ) → holds node nodes ≡ false
        → items_of (set items node x) nodes ≡ items_of items nodes
    items_of-set [] lacks = refl
    items_of-set (n ∷ nodes) lacks =
        let other : n ≢ node = λ e. lacks-head node n nodes lacks (sym e) in
        rw (
          get_or-set_other items node n x None other,
          items_of-set nodes (lacks-tail node n nodes lacks),
        ) refl

    pub filled-set : (nodes : List ℕ) → holds node nodes ≡ false → AreFilled items nodes
        → AreFilled (set items node x) nodes
    filled-set [] lacks all = All-nil (λ n. is_some (item_at (set items node x) n) ≡ true)
    filled-set (n ∷ nodes) lacks all =
        let filled : ℕ → Type 0 = λ m. is_some (item_at items m) ≡ true in
        let other : n ≢ node = λ e. lacks-head node n nodes lacks (sym e) in
        All-cons (λ m. is_some (item_at (set items node x) m) ≡ true) n nodes
        (ap is_some (get_or-set_other items node n x None other)
        ∙ All-head filled n nodes all)
        (filled-set nodes (lacks-tail node n nodes lacks) (All-tail filled n nodes all))

  -- nodes that have items are as many as these
  pub length-items_of : (items : List (Option (Queued T))) (nodes : List ℕ)
      → AreFilled items nodes → length (items_of items nodes) ≡ length nodes
  length-items_of items [] all = refl
  length-items_of items (n ∷ nodes) all =
      let filled : ℕ → Type 0 = λ m. is_some (item_at items m) ≡ true in
      length_by (item_at items n) (All-head filled n nodes all)
      (length-items_of items nodes (All-tail filled n nodes all))
    where
      length_by : (o : Option (Queued T)) → is_some o ≡ true
          → length (items_of items nodes) ≡ length nodes
          → length (cons_option o (items_of items nodes)) ≡ suc (length nodes)
      length_by None some later = cc
      length_by (Some y) some later = ap suc later

-- a node moved between the free nodes and those of a queue
pub record Moves (s s' : Lists) (queue : ℕ) (free own : List ℕ) : Type 0 where
  pub nodes : s'.nodes ≡ s.nodes
  pub count : length s'.lists ≡ length s.lists
  pub free_is : list_at 0 s' ≡ free
  pub own_is : list_at (queue + 1) s' ≡ own
  pub others : (list : ℕ) → list ≢ 0 → list ≢ queue + 1 → list_at list s' ≡ list_at list s

module _ (s : Lists) (node queue : ℕ) (disjoint : AreDisjoint s)
    (inside : queue + 1 < length s.lists) where
  abbrev left : Lists
  left = unlinked node s

  count-left : length left.lists ≡ length s.lists
  count-left = length-map s.lists (without node)

  -- a free node is put behind those of a queue
  pub moves-back : holds node (list_at 0 s) ≡ true
      → Moves s (pushed_back (queue + 1) node left) queue (without node (list_at 0 s))
      (list_at (queue + 1) s ++ node ∷ [])
  moves-back here =
      let own = list_at (queue + 1) left ++ node ∷ [] in
      let stays = unlinked-others node 0 s disjoint here in
      record {
        nodes = refl;
        count = length-set left.lists (queue + 1) own ∙ count-left;
        free_is = list_at-other (queue + 1) own left 0 (omega arith) ∙ list_at-unlinked node 0 s;
        own_is = list_at-same (queue + 1) own left (omega (arith, inside, count-left))
            ∙ ap (λ nodes. nodes ++ node ∷ []) (stays (queue + 1) (omega arith));
        others = λ list some other.
            list_at-other (queue + 1) own left list other ∙ stays list some;
      }

  -- a node of a queue is freed
  pub moves-free : holds node (list_at (queue + 1) s) ≡ true
      → Moves s (pushed_front 0 node left) queue (node ∷ list_at 0 s)
      (without node (list_at (queue + 1) s))
  moves-free here =
      let free = node ∷ list_at 0 left in
      let stays = unlinked-others node (queue + 1) s disjoint here in
      record {
        nodes = refl;
        count = length-set left.lists 0 free ∙ count-left;
        free_is = list_at-same 0 free left (omega (arith, inside, count-left))
            ∙ ap (λ nodes. node ∷ nodes) (stays 0 (omega arith));
        own_is = list_at-other 0 free left (queue + 1) (omega arith)
            ∙ list_at-unlinked node (queue + 1) s;
        others = λ list some other. list_at-other 0 free left list some ∙ stays list other;
      }

module _ {T : Type 0} (items items' : List (Option (Queued T))) (s s' : Lists) (queue : ℕ)
    (free own : List ℕ) (moves : Moves s s' queue free own) (inside : queue + 1 < length s.lists)
    (same : (list : ℕ) → list ≢ 0 → list ≢ queue + 1
    → items_of items' (list_at list s) ≡ items_of items (list_at list s)) where
  abbrev was : List (List (Queued T))
  was = queues_in items s.lists

  abbrev is : List (List (Queued T))
  is = queues_in items' s'.lists

  length-same : length is ≡ length was
  length-same =
      omega (
        arith,
        inside,
        moves.count,
        length-queues_in items s.lists (omega (arith, inside)),
        length-queues_in items' s'.lists (omega (arith, inside, moves.count)),
      )

  pub queue-below : queue < length was
  queue-below = omega (arith, inside, length-queues_in items s.lists (omega (arith, inside)))

  queue_by : (k : ℕ) → (k ≡ queue) ⊎ (k ≢ queue)
      → queue_at k is ≡ queue_at k (with_queue queue (items_of items' own) was)
  queue_by k (inl e) =
      rw e
      (queue_at-in items' s'.lists queue ∙ ap (items_of items') moves.own_is
      ∙ sym (get_or-set_same was queue (items_of items' own) [] queue-below))
  queue_by k (inr other) =
      let some : k + 1 ≢ 0 = omega arith in
      let next : k + 1 ≢ queue + 1 = λ e. other (omega (arith, e)) in
      queue_at-in items' s'.lists k ∙ ap (items_of items') (moves.others (k + 1) some next)
      ∙ same (k + 1) some next ∙ sym (queue_at-in items s.lists k)
      ∙ sym (get_or-set_other was queue k (items_of items' own) [] other)

  -- the one queue has other items
  pub queues-moved : is ≡ with_queue queue (items_of items' own) was
  queues-moved =
      ext_get_or [] is (with_queue queue (items_of items' own) was)
      (length-same ∙ sym (length-set was queue (items_of items' own)))
      (λ k below. queue_by k (cases_eq k queue))

  module _ (len len' room : ℕ) (h : AreQueues items s len room)
      (disjoint : AreDisjoint s') (length-items' : length items' ≡ length items)
      (filled : (list : ℕ) → list ≢ 0 → list ≢ queue + 1 → AreFilled items' (list_at list s))
      (own_filled : AreFilled items' own)
      (len-is : len' + length (queue_at queue was) ≡ len + length (items_of items' own))
      (free-is : length free + len' ≡ room) where
    filled_by : (list : ℕ) → 0 < list → (list ≡ queue + 1) ⊎ (list ≢ queue + 1)
        → AreFilled items' (list_at list s')
    filled_by list some (inl e) = rw (e, moves.own_is) own_filled
    filled_by list some (inr other) =
        let away : list ≢ 0 = omega (arith, some) in
        rw (moves.others list away other) (filled list away other)

    pub sound-moved : AreQueues items' s' len' room
    sound-moved = record {
      nodes_are = moves.nodes ∙ h.nodes_are;
      items_are = length-items' ∙ h.items_are;
      disjoint = disjoint;
      has_free = omega (arith, inside, moves.count);
      lists_below = omega (arith, h.lists_below, moves.count);
      filled = λ list some. filled_by list some (cases_eq list (queue + 1));
      queued =
          let sum = total-with queue (items_of items' own) was queue-below in
          ap total queues-moved ∙ omega (arith, sum, h.queued, len-is);
      free = ap (λ nodes. length nodes + len') moves.free_is ∙ free-is;
    }
