use Rattle.std.proofs.Common.{◌≡◌, ◌∙◌, sym, ap, List, [], ◌∷◌, get_or}
use Rattle.iop_pools.specs.Standing.{ranges_of}
use Rattle.iop_pools.specs.declared.out.Out.{Out}
use Rattle.iop_pools.proofs.Outs.{none_own, first_own, left-is}
use Rattle.iop_pools.proofs.range_walk.RangeWalk.next.Goals as goal

pub returns-in_err-place : goal.returns-in_err-place
returns-in_err-place c =
    let none : c.args.self.now ≡ [] =
    sym c.self.view_is ∙ none_own c.self.inside.id c.self.inside.outs.now
    c.in_err-place.ensures.place in
    rw c.from_residual.ensures (none, none)

pub returns : goal.returns
returns c =
    let outs = c.self.inside.outs.now in
    let none : Out = record { pool = 0; range = record { start = 0; size = 0 } } in
    sym c.self.view_is
    ∙ first_own c.self.inside.id outs c.in_ok-place.place c.in_ok-place.ensures.place none
    ∙ ap (λ (l : List Out).
    (get_or outs c.in_ok-place.place none).range ∷ ranges_of c.self.inside.id l)
    (sym (left-is outs c.in_ok-place.place))
