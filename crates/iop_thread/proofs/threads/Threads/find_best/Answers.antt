use Rattle.std.proofs.Common.{◌∙◌, sym}
use Rattle.iop_thread.specs.ThreadTable.{best_ready}
use Rattle.iop_thread.proofs.ChoosingThreads.{best_ready-place}
use Rattle.iop_thread.proofs.Holding.{match_found}
use Rattle.iop_thread.proofs.threads.Threads.find_best.Goals as goal

pub returns : goal.returns
returns g c = λ s h.
    let t = c.args.self.now in
    let slot = c.in_ok-slot.slot in
    match_found t.places slot c.found_in.result (best_ready s) c.found_in.ensures
    (best_ready-place g.R.Ready.stands h.place t s h.holds slot
    (sym c.in_ok-slot.was ∙ c.best.ensures _ h.holds.ready))
