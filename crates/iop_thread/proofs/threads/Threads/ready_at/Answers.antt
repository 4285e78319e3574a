use Rattle.std.proofs.Common.{◌∙◌, ap, sym, None, Some, option_map}
use Rattle.iop_thread.specs.declared.found.Found.{Found}
use Rattle.iop_thread.proofs.ReadingThreads.{id_found, ready_at_is}
use Rattle.iop_thread.proofs.threads.Threads.ready_at.Goals as goal

pub returns-in_err-slot : goal.returns-in_err-slot
returns-in_err-slot g c = λ s h.
    let is = c.at.ensures _ h.holds.ready in
    c.from_residual.ensures
    ∙ ready_at_is g.R.Ready.stands h.place c.args.self.now s h.holds c.args.priority c.args.place
    None (sym c.in_err-slot.was ∙ is)

pub returns-in_err-found : goal.returns-in_err-found
returns-in_err-found g c = λ s h.
    let is = c.at.ensures _ h.holds.ready in
    c.from_residual-in_err-found.ensures
    ∙ ap (option_map (λ (found : Found). found.thread.id)) c.in_err-found.ensures
    ∙ id_found c.in_ok-slot.slot _
    ∙ ready_at_is g.R.Ready.stands h.place c.args.self.now s h.holds c.args.priority c.args.place
    (Some c.in_ok-slot.slot) (sym c.in_ok-slot.was ∙ is)

pub returns : goal.returns
returns g c = λ s h.
    let is = c.at.ensures _ h.holds.ready in
    ap (option_map (λ (found : Found). found.thread.id)) c.in_ok-found.ensures
    ∙ id_found c.in_ok-slot.slot _
    ∙ ready_at_is g.R.Ready.stands h.place c.args.self.now s h.holds c.args.priority c.args.place
    (Some c.in_ok-slot.slot) (sym c.in_ok-slot.was ∙ is)
