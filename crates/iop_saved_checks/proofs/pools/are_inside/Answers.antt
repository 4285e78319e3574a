use Rattle.std.proofs.Common.{◌∙◌, length, sym}
use Rattle.iop_saved_checks.specs.Made.{is_inside}
use Rattle.iop_saved_checks.proofs.Lists.{all_true, all_false, tested}
use Rattle.iop_saved_checks.proofs.pools.are_inside.Goals as goal

pub returns-then-not-inside : goal.returns-then-not-inside
returns-then-not-inside g c =
    let pools = g.T.Pooled.pools c.args.table.now in
    let at = tested (is_inside (length c.args.ram.now)) pools c.loop-place.place c.in-Some.inside
    (sym c.is_inside.ensures ∙ c.in-Some.is) in
    all_false _ pools c.loop-place.place at.0 at.1 _ c.loop-place.invariant
    (sym c.if-not-inside.true ∙ at.2)

pub loop-place-preserved : goal.loop-place-preserved
loop-place-preserved g c =
    let pools = g.T.Pooled.pools c.args.table.now in
    let at = tested (is_inside (length c.args.ram.now)) pools c.loop-place.place c.in-Some.inside
    (sym c.is_inside.ensures ∙ c.in-Some.is) in
    all_true _ pools c.loop-place.place at.0 at.1 _ c.loop-place.invariant
    (sym c.if-not-inside.false ∙ at.2)
