use Rattle.std.proofs.Common.{◌∙◌, ap, sym, filter, length}
use Rattle.std.specs.Prelude.{◌==◌}
use Rattle.std.proofs.lemmas.List.{length-map}
use Rattle.std.proofs.lemmas.List.Sums.{length-filter}
use Rattle.iop_pools.specs.declared.out.Out.{Out}
use Rattle.iop_pools.proofs.range_walk.RangeWalk.len.Goals as goal

pub returns : goal.returns
returns c =
    let own : Out → _ = λ o. o.pool == c.self.inside.id in
    let outs = c.self.inside.outs.now in
    c.count.ensures ∙ sym (length-map (filter own outs) (λ o. o.range) ∙ length-filter own outs)
    ∙ ap length c.self.view_is
