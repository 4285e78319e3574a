use Rattle.std.proofs.Common.{◌∙◌, ap, if◌then◌else◌}
use Rattle.iop_pools.specs.FixedPools.{FixedPools, waits}
use Rattle.iop_pools.proofs.fixed_pools.FixedPools.put_waiter.Goals as goal

pub returns-clause-put : goal.returns-clause-put
returns-clause-put c =
    c.put_waiter.ensures.put
    ∙ ap (λ (s : FixedPools). if c.put_waiter.result
    then waits s c.args.id c.args.thread c.args.priority else s) c.self.view_is
