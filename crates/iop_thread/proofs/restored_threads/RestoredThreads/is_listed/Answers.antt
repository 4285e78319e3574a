use Rattle.std.proofs.Common.{◌∙◌, sym}
use Rattle.iop_thread.proofs.ListedThreads.{in_place_some, listed_in_place}
use Rattle.iop_thread.proofs.restored_threads.RestoredThreads.is_listed.Goals as goal

pub returns-else-not-is_ready : goal.returns-else-not-is_ready
returns-else-not-is_ready g c = λ s r.
    let u = c.in-Some.found.thread in
    let (at, same) = in_place_some c.args.slot _ c.in-Some.found c.in-Some.ensures in
    c.contains.ensures _ r.holds.ready
    ∙ listed_in_place g.R.Ready.stands r.place c.args.self.now.threads s r.holds c.args.slot u at
    (sym c.if-not-is_ready.ensures)
