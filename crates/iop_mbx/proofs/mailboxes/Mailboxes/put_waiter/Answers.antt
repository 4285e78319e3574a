use Rattle.std.proofs.Common.{if◌then◌else◌, ap, ◌∙◌}
use Rattle.iop_mbx.specs.Mailboxes.{waits}
use Rattle.iop_mbx.specs.Standing.{mailboxes_in}
use Rattle.iop_mbx.proofs.Reading.{waits-in}
use Rattle.iop_mbx.proofs.mailboxes.Mailboxes.put_waiter.Goals as goal

pub returns-clause-put : goal.returns-clause-put
returns-clause-put c =
    let may = c.put_waiter.result in
    ap (λ s. mailboxes_in s c.self.inside.messages) c.put_waiter.ensures.put
    ∙ waits-in c.self.inside.objects c.self.inside.messages c.args.id may _
    ∙ ap (λ s. if may then waits s c.args.id c.args.thread c.args.priority c.args.place else s)
    c.self.view_is
