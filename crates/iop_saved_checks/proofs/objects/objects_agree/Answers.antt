use Rattle.std.proofs.Common.{◌∙◌, sym, arith}
use Rattle.iop_saved_checks.proofs.Lists.{all_true, all_false, all_done}
use Rattle.iop_saved_checks.proofs.objects.objects_agree.Goals as goal

pub returns-then-not-object_agrees : goal.returns-then-not-object_agrees
returns-then-not-object_agrees g c s h =
    all_false _ (g.T.Waited.ids c.args.table.now) c.loop-place.place c.in-Some.id
    (sym c.id_at.ensures ∙ c.in-Some.is) _ (c.loop-place.invariant s h)
    (sym c.if-not-object_agrees.true ∙ c.object_agrees.ensures s h)

pub loop-place-preserved : goal.loop-place-preserved
loop-place-preserved g c s h =
    all_true _ (g.T.Waited.ids c.args.table.now) c.loop-place.place c.in-Some.id
    (sym c.id_at.ensures ∙ c.in-Some.is) _ (c.loop-place.invariant s h)
    (sym c.if-not-object_agrees.false ∙ c.object_agrees.ensures s h)

pub returns : goal.returns
returns g c s h =
    all_done _ (g.T.Waited.ids c.args.table.now) c.loop-place.place _ (c.loop-place.invariant s h)
    (omega (arith, c.loop-place-test.false, c.len-place-end.ensures))
