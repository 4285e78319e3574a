use Rattle.std.proofs.Common.{◌∙◌, ap, option_map}
use Rattle.iop_pools.proofs.LastRanges.{last-is}
use Rattle.iop_pools.proofs.walks.last.Goals as goal

pub returns-in_err-last : goal.returns-in_err-last
returns-in_err-last c =
    c.from_residual.ensures
    ∙ ap (option_map (λ o. o.range)) c.in_err-last.ensures
    ∙ last-is c.args.id c.args.outs.now

pub returns : goal.returns
returns c =
    ap (option_map (λ o. o.range)) c.in_ok-last.ensures ∙ last-is c.args.id c.args.outs.now
