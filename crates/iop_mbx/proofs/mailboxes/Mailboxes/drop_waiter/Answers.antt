use Rattle.iop_mbx.proofs.Reading.{waiters_of-in, with_waiters-in}
use Rattle.iop_mbx.proofs.mailboxes.Mailboxes.drop_waiter.Goals as goal

pub returns : goal.returns
returns c =
    rw (
      c.drop_waiter.ensures,
      ← c.self.view_is,
      waiters_of-in c.self.inside.objects c.self.inside.messages c.args.id,
    )
    (with_waiters-in _ _ _ _)
