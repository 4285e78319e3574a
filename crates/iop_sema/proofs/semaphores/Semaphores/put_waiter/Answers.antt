use Rattle.std.proofs.Common.{if◌then◌else◌, ap, ◌∙◌}
use Rattle.iop_sema.specs.Semaphores.{waits}
use Rattle.iop_sema.proofs.semaphores.Semaphores.put_waiter.Goals as goal

pub returns-clause-put : goal.returns-clause-put
returns-clause-put c =
    c.put_waiter.ensures.put
    ∙ ap (λ s. if c.put_waiter.result then waits s c.args.id c.args.thread c.args.priority else s)
    c.self.view_is
