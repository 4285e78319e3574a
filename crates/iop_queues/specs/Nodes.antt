-- How nodes stand for queues. List `FREE`, the first one, has the free nodes, and list q + 1 those
-- of the items of queue q. No contract of a public call cites this.
use Rattle.std.specs.Prelude.{◌≡◌, ℕ, ◌+◌, ◌^◌, ◌<◌, Option, List, [], ◌∷◌, length, map}
use Rattle.iop_cblock.specs.Lists.{Lists, AreDisjoint, list_at}
use Rattle.iop_queues.specs.Queues.{total}
use Rattle.iop_queues.specs.Walks.{items_of, AreFilled}
use Rattle.iop_queues.specs.declared.queued.Queued.{Queued}
use Rattle.iop_queues.specs.declared.queues.TheConstants.{FREE}

module _ {T : Type 0} where
  -- the queues of all lists but the first
  abbrev pub queues_in : List (Option (Queued T)) → List (List ℕ) → List (List (Queued T))
  queues_in items [] = []
  queues_in items (free ∷ lists) = map (items_of items) lists

  -- what always holds of the nodes, of which so many stand in queues
  pub record AreQueues (items : List (Option (Queued T))) (s : Lists) (len room : ℕ)
      : Type 0 where
    pub nodes_are : s.nodes ≡ room
    pub items_are : length items ≡ room
    pub disjoint : AreDisjoint s
    pub has_free : FREE < length s.lists
    pub lists_below : length s.lists < 2 ^ 32
    pub filled : (list : ℕ) → FREE < list → AreFilled items (list_at list s)
    pub queued : total (queues_in items s.lists) ≡ len
    pub free : length (list_at FREE s) + len ≡ room
