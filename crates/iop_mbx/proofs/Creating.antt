-- A mailbox is added, which takes a queue that was free.
use Rattle.std.proofs.Common.{◌≡◌, ℕ, List, [], ◌∷◌, ◌++◌, refl}
use Rattle.std.proofs.lemmas.List.{map_push}
use Rattle.iop_objects.specs.Objects.{Objects}
use Rattle.iop_objects.specs.Restoring.{with_last}
use Rattle.iop_objects.specs.declared.objects.TheConstants.{MOST_OBJECTS}
use Rattle.iop_queues.specs.Numbers.{AreAssigned}
use Rattle.iop_queues.specs.declared.queued.Queued.{Queued}
use Rattle.iop_queues.proofs.Assigned.{AreAssigned-taken, free_is_empty}
use Rattle.iop_mbx.specs.Restoring.{empty_mailbox}
use Rattle.iop_mbx.specs.Standing.{known, queues_of}
use Rattle.iop_mbx.specs.declared.mailboxes.Numbered.{Numbered}

module _ (objects : Objects Numbered ℕ) (free : List ℕ) {messages : List (List (Queued ℕ))}
    (x : Numbered)
    (assigned : AreAssigned MOST_OBJECTS (queues_of objects) (free ++ x.queue ∷ []) messages)
  where
    -- it has no message
    pub known-added : known messages x ≡ empty_mailbox x.mailbox
    known-added = rw (free_is_empty free x.queue assigned) refl

    pub AreAssigned-added : (id : ℕ)
        → AreAssigned MOST_OBJECTS (queues_of (with_last objects id x)) free messages
    AreAssigned-added id =
        rw (map_push (λ o. o.state.queue) objects.live
        (record { id = id; state = x; waiters = [] }))
        (AreAssigned-taken free x.queue assigned)
