use Rattle.std.proofs.Common.{◌-◌, []}
use Rattle.iop_snapshot.specs.Forms.{read_items}
use Rattle.iop_snapshot.proofs.Restoring.{Restored}
use Rattle.iop_snapshot.proofs.restore.restore_items.Given as goal

abbrev pub invariant-loop : goal.invariant-loop
invariant-loop g l =
    let next = g.T.RestoreItems.next_form l.fn.table in
    Restored next (g.T.RestoreItems.grows l.fn.table l.table) (l.fn.count - l.counter) l.decoder
    (read_items next [] l.fn.count l.fn.decoder)
