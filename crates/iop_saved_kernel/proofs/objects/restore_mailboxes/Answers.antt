use Rattle.iop_objects.specs.Objects.{no_objects}
use Rattle.iop_saved_objects.specs.Mailboxes.{mailbox_form, put_mailbox}
use Rattle.iop_saved_kernel.specs.ThreadLists.{priority_among}
use Rattle.iop_saved_kernel.proofs.Results.{list_restores}
use Rattle.iop_saved_kernel.proofs.objects.restore_mailboxes.Goals as goal

pub returns : goal.returns
returns c =
    list_restores (put_mailbox (priority_among c.args.priorities.now.threads.items)) mailbox_form
    no_objects c.in_ok-mailboxes.mailboxes c.in_ok-mailboxes.ensures c.restore_mailboxes.result c.args.decoder.now
    c.restore_mailboxes.new.decoder c.restore_mailboxes.ensures
