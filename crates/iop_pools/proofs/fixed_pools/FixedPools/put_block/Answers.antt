use Rattle.std.proofs.Common.{◌∙◌, ap, sym, if◌then◌else◌}
use Rattle.iop_pools.specs.FixedPools.{FixedPools}
use Rattle.iop_pools.specs.FixedRestoring.{puts_block}
use Rattle.iop_pools.specs.Restoring.{with_out_last}
use Rattle.iop_pools.proofs.Layouts.{block_size-is}
use Rattle.iop_pools.proofs.fixed_pools.FixedPools.put_block.Goals as goal

pub returns-clause-put : goal.returns-clause-put
returns-clause-put c =
    let s = c.self.inside.pools in
    c.put_range.ensures.put
    ∙ ap (λ n. if c.put_range.result then with_out_last s c.args.id c.args.block n else s)
    (sym (block_size-is s c.args.id c.in-Some.layout c.in-Some.ensures.known))
    ∙ ap (λ (t : FixedPools). if c.put_range.result
    then puts_block t c.args.id c.args.block else t) c.self.view_is
