use Rattle.std.proofs.Common.{◌∙◌}
use Rattle.iop_snapshot.proofs.Saving.{if_ok}
use Rattle.iop_saved_threads.proofs.ready.save_ready.Goals as goal

pub returns-clause-fits : goal.returns-clause-fits
returns-clause-fits g c =
    if_ok c.save_list.result (λ fits s h. fits _ (c.as_slice.ensures.value ∙ c.ready_ids-ids.ensures s h)) c.save_list.ensures.fits
