use Rattle.std.proofs.Common.{refl}
use Rattle.iop_snapshot.proofs.Saving.{if_ok}
use Rattle.iop_saved_objects.proofs.objects.save_objects.Goals as goal

pub returns-clause-fits : goal.returns-clause-fits
returns-clause-fits g c =
    if_ok c.save_list.result (λ fits. fits (g.T.Table.saved c.args.table.now) refl)
    c.save_list.ensures.fits
