use Rattle.std.proofs.Common.{refl}
use Rattle.iop_snapshot.proofs.Saving.{if_ok}
use Rattle.iop_saved_script.proofs.list.save_all.Goals as goal

pub returns-clause-fits : goal.returns-clause-fits
returns-clause-fits g c =
    if_ok c.save_list.result (λ fits. fits c.args.items.now refl) c.save_list.ensures.fits
