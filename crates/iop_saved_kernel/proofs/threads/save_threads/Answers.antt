use Rattle.std.proofs.lemmas.Bool.{and_from}
use Rattle.iop_saved_threads.specs.Processors.{cpu_form}
use Rattle.iop_saved_threads.specs.Tables.{id_form}
use Rattle.iop_saved_threads.specs.Threads.{thread_form}
use Rattle.iop_snapshot.proofs.Saving.{if_ok}
use Rattle.iop_snapshot.specs.Forms.{fits_list}
use Rattle.iop_thread.specs.Ordering.{in_order}
use Rattle.iop_saved_kernel.specs.ThreadLists.{threads_form}
use Rattle.iop_saved_kernel.proofs.threads.save_threads.Goals as goal

pub returns-clause-fits : goal.returns-clause-fits
unfolding threads_form
returns-clause-fits g c =
    if_ok c.save_ready.result
    (λ fits s h. and_from (fits_list (λ _. thread_form cpu_form) s.live)
    (fits_list (λ _. id_form) (in_order s).ready) (c.in_ok-save_threads.ensures.fits s h)
    (fits s h))
    c.save_ready.ensures.fits
