-- What a call answers and leaves that takes a chosen item out.
use Rattle.std.proofs.Common.{◌≡◌, ℕ, ◌+◌, ◌-◌, ◌<◌, ◌≤◌, Option, Some, None, IfSome, option_map, List, length, ap, sym, ◌∙◌, subst, arith}
use Rattle.iop_cblock.specs.Lists.{Lists, AreDisjoint, list_at, pushed_front, unlinked}
use Rattle.iop_queues.specs.Nodes.{queues_in, AreQueues}
use Rattle.iop_queues.specs.Queue.{Choice, left_by}
use Rattle.iop_queues.specs.Queues.{queue_at, with_queue, total}
use Rattle.iop_queues.specs.Walks.{item_at, items_of, Finds}
use Rattle.iop_queues.specs.declared.queued.Queued.{Queued}
use Rattle.iop_queues.proofs.Puts.{queue_is, queues-taken, some_queued, sound-taken}

module _ {T : Type 0} {items : List (Option (Queued T))} {s : Lists} {len room : ℕ}
    (h : AreQueues items s len room) {now : List (List (Queued T))}
    (view : queues_in items s.lists ≡ now) (queue : ℕ) (below : queue < length now) where
  abbrev own : List (Queued T)
  own = items_of items (list_at (queue + 1) s)

  below_own : queue < length (queues_in items s.lists)
  below_own = omega (arith, below, ap length view)

  pub own_is : own ≡ queue_at queue now
  own_is = sym (queue_is items s len room h queue below_own) ∙ ap (queue_at queue) view

  module _ (choose : List (Queued T) → Option (Choice T)) (node : ℕ)
      (found : Finds items (list_at (queue + 1) s) (Some node) (choose own)) where
    chosen : choose (queue_at queue now) ≡ Some found.0
    chosen = ap choose (sym own_is) ∙ found.1

    pub taken_item : item_at items node ≡ option_map (λ c. c.one) (choose (queue_at queue now))
    taken_item = found.2.item_is ∙ sym (ap (option_map (λ c. c.one)) chosen)

    pub taken_some : 1 ≤ len
    taken_some =
        let some = some_queued items s len room h queue below_own node found.0 found.2 in
        omega (arith, some)

    module _ (nodes : Lists) (nodes_are : nodes ≡ pushed_front 0 node (unlinked node s)) where
      pub taken_sound : AreDisjoint nodes → AreQueues items nodes (len - 1) room
      taken_sound disjoint =
          rw nodes_are
          (sound-taken items s len room h queue below_own node found.0 found.2
          (subst AreDisjoint nodes_are disjoint))

      pub taken_left : queues_in items nodes.lists
          ≡ with_queue queue (left_by (queue_at queue now) (choose (queue_at queue now))) now
      taken_left =
          ap (λ s. queues_in items s.lists) nodes_are
          ∙ queues-taken items s len room h queue below_own node found.0 found.2
          ∙ ap (with_queue queue found.0.others) view
          ∙ ap (λ o. with_queue queue (left_by (queue_at queue now) o) now) (sym chosen)

      pub taken_room : AreDisjoint nodes → total (queues_in items nodes.lists) < room
      taken_room disjoint =
          let left = taken_sound disjoint in
          omega (arith, left.queued, left.free, h.free, taken_some)

-- what holds in any case holds of what is taken
pub if_taken : {X : Type 0} {P : Type 0} (o : Option X) → P → IfSome o (λ x. P)
if_taken None p = tt
if_taken (Some x) p = p
