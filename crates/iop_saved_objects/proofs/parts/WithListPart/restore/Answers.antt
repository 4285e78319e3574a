use Rattle.std.proofs.Common.{◌≡◌}
use Rattle.std.proofs.lemmas.Result.{err_from_is_err_and}
use Rattle.iop_saved_objects.specs.Lists.{put_with_list, with_list}
use Rattle.iop_saved_objects.proofs.Behind.{fails_by, part_exits, with_list_put}
use Rattle.iop_saved_objects.proofs.parts.WithListPart.restore.Goals as goal

pub returns-in_err-restore : goal.returns-in_err-restore
returns-in_err-restore g c =
    let old = c.args.restored.now in
    let of = g.P.Priorities.of old.priorities.now in
    let before = c.args.decoder.now in
    let put = g.H.Part.put of in
    let fault = c.in_err-restore.field-0.0 in
    let given = err_from_is_err_and c.from_residual.result c.from_residual.ensures.1 in
    let same : given.0 ≡ fault = cc in
    part_exits (put_with_list put (λ head. g.T.Listed.put_item of (g.H.Part.id_of head)))
    (with_list g.H.Part.form g.X.Record.form) _ old _ before _ c.from_residual.result given.0 fault
    same given.1
    (fails_by put (λ head. g.T.Listed.put_item of (g.H.Part.id_of head)) g.H.Part.form
    g.X.Record.form old.table before fault c.in_err-restore.ensures)

pub returns : goal.returns
returns g c =
    let old = c.args.restored.now in
    with_list_put g.P.Priorities.of (g.H.Part.put (g.P.Priorities.of old.priorities.now))
    g.T.Listed.put_item g.H.Part.form g.X.Record.form g.H.Part.id_of old c.restore.new.restored
    c.restore_list.new.table c.args.decoder.now c.restore.new.decoder c.restore_list.new.decoder
    c.restore_list.result c.in_ok-restore.ensures c.restore_list.ensures
