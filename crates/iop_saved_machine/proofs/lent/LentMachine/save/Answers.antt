use Rattle.std.proofs.lemmas.Bool.{and_from}
use Rattle.iop_saved_kernel.proofs.Writing.{where_ok}
use Rattle.iop_saved_machine.specs.Parts.{parts_form}
use Rattle.iop_snapshot.proofs.Sending.{writes_then, writes_exit}
use Rattle.iop_saved_machine.proofs.lent.LentMachine.save.Goals as goal

pub returns-in_err-save_size-clause-written : goal.returns-in_err-save_size-clause-written
unfolding parts_form
returns-in_err-save_size-clause-written g c k h =
    writes_exit c.from_residual.result _ c.from_residual.ensures.0 c.in_err-save_size.ensures.written

pub returns-in_err-save_kernel-clause-written : goal.returns-in_err-save_kernel-clause-written
unfolding parts_form
returns-in_err-save_kernel-clause-written g c k h =
    writes_then c.in_ok-save_size.ensures.written
    (writes_exit c.from_residual-in_err-save_kernel.result _
    c.from_residual-in_err-save_kernel.ensures.0 (c.in_err-save_kernel.ensures.written k h))

pub returns-in_err-save_tables-clause-written : goal.returns-in_err-save_tables-clause-written
unfolding parts_form
returns-in_err-save_tables-clause-written g c k h =
    writes_then c.in_ok-save_size.ensures.written
    (writes_then (c.in_ok-save_kernel.ensures.written k h)
    (writes_exit c.from_residual-in_err-save_tables.result _
    c.from_residual-in_err-save_tables.ensures.0 c.in_err-save_tables.ensures.written))

pub returns-in_err-save_loading-clause-written : goal.returns-in_err-save_loading-clause-written
unfolding parts_form
returns-in_err-save_loading-clause-written g c k h =
    writes_then c.in_ok-save_size.ensures.written
    (writes_then (c.in_ok-save_kernel.ensures.written k h)
    (writes_then c.in_ok-save_tables.ensures.written
    (writes_exit c.from_residual-in_err-save_loading.result _
    c.from_residual-in_err-save_loading.ensures.0 c.in_err-save_loading.ensures.written)))

pub returns-clause-written : goal.returns-clause-written
unfolding parts_form
returns-clause-written g c k h =
    writes_then c.in_ok-save_size.ensures.written
    (writes_then (c.in_ok-save_kernel.ensures.written k h)
    (writes_then c.in_ok-save_tables.ensures.written
    (writes_then c.in_ok-save_loading.ensures.written c.save_ram.ensures.written)))

pub returns-clause-fits : goal.returns-clause-fits
unfolding parts_form
returns-clause-fits g c =
    where_ok c.save_ram.result (λ k h.
    and_from _ _ c.in_ok-save_size.ensures.fits
    (and_from _ _ (c.in_ok-save_kernel.ensures.fits k h)
    (and_from _ _ c.in_ok-save_tables.ensures.fits
    (and_from _ _ c.in_ok-save_loading.ensures.fits c.save_ram.ensures.fits))))
