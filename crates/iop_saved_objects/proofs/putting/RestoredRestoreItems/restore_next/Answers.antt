use Rattle.iop_saved_objects.proofs.Behind.{item_more}
use Rattle.iop_saved_objects.proofs.putting.RestoredRestoreItems.restore_next.Goals as goal

pub returns : goal.returns
returns g c =
    λ base xs u there.
    item_more g.P.Priorities.of g.X.Record.form base c.args.self.now c.put_next.new.restored xs
    c.args.decoder.now c.put_next.new.decoder g.T.Listed.put_item c.put_next.result there
    c.put_next.ensures.one c.put_next.ensures.same_id c.put_next.ensures.same
