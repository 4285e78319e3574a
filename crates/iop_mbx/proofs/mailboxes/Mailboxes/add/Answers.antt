use Rattle.std.proofs.Common.{◌∷◌, ◌++◌, [], ap, subst, ◌∙◌}
use Rattle.iop_objects.specs.Restoring as objects
use Rattle.iop_objects.specs.declared.objects.TheConstants.{MOST_OBJECTS}
use Rattle.iop_queues.specs.Numbers.{AreAssigned}
use Rattle.iop_mbx.specs.Restoring.{with_last}
use Rattle.iop_mbx.specs.Standing.{mailboxes_in, queues_of}
use Rattle.iop_mbx.specs.declared.mailboxes.Numbered.{Numbered}
use Rattle.iop_mbx.proofs.Creating.{known-added, AreAssigned-added}
use Rattle.iop_mbx.proofs.Reading.{with_last-in}
use Rattle.iop_mbx.proofs.mailboxes.Mailboxes.add.Goals as goal

-- the queue that is taken was the last one that is free
module _ (c : goal.Then-put_back) where
  assigned : AreAssigned MOST_OBJECTS (queues_of c.self.inside.objects)
      (c.take.new.self ++ c.in-Some.queue ∷ []) c.self.inside.messages
  assigned =
      subst (λ free.
      AreAssigned MOST_OBJECTS (queues_of c.self.inside.objects) free c.self.inside.messages)
      c.in-Some.ensures c.self.invariant

  abbrev added : Numbered
  added = record { mailbox = c.args.mailbox; queue = c.in-Some.queue }

pub invariant_of-self-then-put_back : goal.invariant_of-self-then-put_back
invariant_of-self-then-put_back c =
    rw c.if-put_back.ensures.put
    (AreAssigned-added c.self.inside.objects c.take.new.self (added c) (assigned c) c.args.id)

pub returns-then-put_back-clause-put : goal.returns-then-put_back-clause-put
returns-then-put_back-clause-put c =
    let own = mailboxes_in c.self.inside.objects c.self.inside.messages in
    rw c.if-put_back.ensures.put
    (with_last-in c.self.inside.objects c.self.inside.messages c.args.id (added c)
    ∙ ap (objects.with_last own c.args.id)
    (known-added c.self.inside.objects c.take.new.self (added c) (assigned c))
    ∙ ap (λ s. with_last s c.args.id c.args.mailbox) c.self.view_is)
