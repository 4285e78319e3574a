use Rattle.iop_saved_objects.proofs.Behind.{object_more, part_one, part_priorities}
use Rattle.iop_saved_objects.proofs.objects.ObjectsRestoreItems.restore_next.Goals as goal

pub returns : goal.returns
returns g c =
    λ base xs u there.
    let old = c.args.self.now.restored in
    let new = c.restore.new.restored in
    let put = g.X.Part.put (g.P.Priorities.of old.priorities.now) in
    object_more g.P.Priorities.of g.X.Part.form base.restored old new xs c.args.decoder.now
    c.restore.new.decoder g.X.Part.put c.restore.result there
    (part_one put g.X.Part.form g.X.Part.id_of old new c.args.decoder.now c.restore.new.decoder
    c.restore.result c.restore.ensures)
    (part_priorities put g.X.Part.form g.X.Part.id_of old new c.args.decoder.now
    c.restore.new.decoder c.restore.result c.restore.ensures)
