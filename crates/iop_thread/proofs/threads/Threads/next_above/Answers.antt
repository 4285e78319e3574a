use Rattle.std.proofs.Common.{◌∙◌, ap, sym, option_and_then}
use Rattle.iop_thread.specs.ThreadTable.{thread_of}
use Rattle.iop_thread.proofs.ReadingThreads.{least_is}
use Rattle.iop_thread.proofs.threads.Threads.next_above.Goals as goal

pub returns-in_err-next : goal.returns-in_err-next
returns-in_err-next g c = λ s h.
    let least = least_is g.R.Ready.stands h.place c.args.self.now s h.holds c.args.id in
    rw c.from_residual.ensures
    (ap (option_and_then (thread_of s.live))
    (sym c.in_err-next.was ∙ c.least_above.ensures ∙ least))

pub returns : goal.returns
returns g c = λ s h.
    let least = least_is g.R.Ready.stands h.place c.args.self.now s h.holds c.args.id in
    c.get.ensures s h
    ∙ ap (option_and_then (thread_of s.live))
    (sym c.in_ok-next.was ∙ c.least_above.ensures ∙ least)
