use Rattle.iop_objects.specs.declared.objects.TheConstants.{MOST_OBJECTS}
use Rattle.iop_queues.proofs.Assigned.{AreAssigned-first}
use Rattle.iop_mbx.proofs.mailboxes.Mailboxes.new.Goals as goal

pub invariant_of-result : goal.invariant_of-result
invariant_of-result c =
    rw (c.in_ok-new.ensures, c.in_ok-new-2.ensures, c.in_ok-new-3.ensures)
    (AreAssigned-first MOST_OBJECTS)
