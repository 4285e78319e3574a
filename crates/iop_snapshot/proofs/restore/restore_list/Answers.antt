use Rattle.iop_snapshot.proofs.Restoring.{count_missing, list_restored}
use Rattle.iop_snapshot.proofs.restore.restore_list.Goals as goal

pub returns-in_default : goal.returns-in_default
returns-in_default g c =
    count_missing (g.T.RestoreItems.next_form c.args.table.now) c.args.decoder.now
    c.in_default.ensures.read

pub returns : goal.returns
returns g c =
    list_restored (g.T.RestoreItems.next_form c.args.table.now)
    (g.T.RestoreItems.grows c.args.table.now c.restore_items.new.table) c.args.decoder.now
    c.item.new.values c.item.new.self c.restore_items.new.decoder c.restore_items.result
    c.in-Some.ensures.read c.restore_items.ensures
