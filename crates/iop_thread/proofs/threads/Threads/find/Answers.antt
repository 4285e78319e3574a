use Rattle.std.proofs.Common.{◌∙◌, ap, sym, option_and_then}
use Rattle.iop_thread.specs.ThreadPlaces.{thread_at}
use Rattle.iop_thread.proofs.Holding.{thread_of-place, match_found}
use Rattle.iop_thread.proofs.threads.Threads.find.Goals as goal

pub returns-in_err-slot : goal.returns-in_err-slot
returns-in_err-slot g c = λ s h.
    let places = c.args.self.now.places in
    rw c.from_residual.ensures
    (thread_of-place g.R.Ready.stands h.place c.args.self.now s h.holds c.args.id
    ∙ ap (option_and_then (thread_at places)) (sym c.find.ensures ∙ c.in_err-slot.was))

pub returns : goal.returns
returns g c = λ s h.
    let places = c.args.self.now.places in
    match_found places c.in_ok-slot.slot c.found_in.result _ c.found_in.ensures
    (thread_of-place g.R.Ready.stands h.place c.args.self.now s h.holds c.args.id
    ∙ ap (option_and_then (thread_at places)) (sym c.find.ensures ∙ c.in_ok-slot.was))
