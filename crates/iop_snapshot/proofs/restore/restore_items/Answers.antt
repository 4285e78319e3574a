use Rattle.std.proofs.Common.{◌≡◌, [], sym, subst}
use Rattle.std.proofs.lemmas.Result.{err_from_is_err_and}
use Rattle.iop_snapshot.specs.Forms.{read_items}
use Rattle.iop_snapshot.specs.Reading.{GivesNone}
use Rattle.iop_snapshot.proofs.Restoring.{restored_none, restored_more, restored_short, restored_all}
use Rattle.iop_snapshot.proofs.restore.restore_items.Goals as goal

pub loop-init : goal.loop-init
loop-init g c =
    restored_none (g.T.RestoreItems.next_form c.args.table.now)
    (g.T.RestoreItems.grows c.args.table.now c.args.table.now) c.args.count c.args.decoder.now
    (g.met.T.RestoreItems.begins c.args.table.now c.requires)

pub returns-in_err-restore_next : goal.returns-in_err-restore_next
returns-in_err-restore_next g c =
    let base = c.args.table.now in
    let next = g.T.RestoreItems.next_form base in
    let kept = c.loop.invariant in
    let whole = read_items next [] c.args.count c.args.decoder.now in
    let fault = c.in_err-restore_next.field-0.0 in
    let given = err_from_is_err_and c.from_residual.result c.from_residual.ensures.1 in
    let same : given.0 ≡ fault = cc in
    let none = restored_short next (g.T.RestoreItems.grows base c.loop.table) c.args.count
    c.loop.counter c.loop.decoder whole c.loop-test.true kept fault
    (c.in_err-restore_next.ensures base kept.front c.requires kept.there) in
    rw given.1 (subst (GivesNone whole) (sym same) none)

pub loop-preserved : goal.loop-preserved
loop-preserved g c =
    let kept = c.loop.invariant in
    restored_more (g.T.RestoreItems.next_form c.args.table.now)
    (g.T.RestoreItems.grows c.args.table.now c.loop.table)
    (g.T.RestoreItems.grows c.args.table.now c.restore_next.new.self) c.args.count c.loop.counter
    c.loop.decoder c.restore_next.new.decoder _ c.loop-test.true kept
    (c.in_ok-restore_next.ensures c.args.table.now kept.front c.requires kept.there)

pub returns : goal.returns
returns g c =
    restored_all (g.T.RestoreItems.next_form c.args.table.now)
    (g.T.RestoreItems.grows c.args.table.now c.loop.table) c.args.count c.loop.counter
    c.loop.decoder _ c.loop-test.false c.loop.invariant
