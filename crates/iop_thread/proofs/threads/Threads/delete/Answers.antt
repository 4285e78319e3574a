use Rattle.std.proofs.Common.{◌∙◌, sym, refl, Ok}
use Rattle.iop_thread.specs.Operations.{deletes}
use Rattle.iop_thread.proofs.Coming.{goes}
use Rattle.iop_thread.proofs.IdOrder.{own_ids}
use Rattle.iop_thread.proofs.LiveThreads.{without_thread}
use Rattle.iop_thread.proofs.Placed.{keeps_places}
use Rattle.iop_thread.proofs.Settling.{in_place, dormant_not_ready, not_listed, settled}
use Rattle.iop_thread.proofs.threads.Threads.delete.Goals as goal

pub returns : goal.returns
returns g c = λ s h.
    let found = c.in-Some.found in
    let t = found.thread in
    let (is, there) = c.in-Some.ensures s h in
    let at = in_place g.R.Ready.stands c.args.self.now s h found there in
    let dormant = sym c.is_dormant.ensures ∙ c.if-not-is_dormant.false in
    let absent = not_listed s t h.placed at.found (dormant_not_ready t.state dormant) in
    let left = goes g.R.Ready.stands h.place c.args.self.now s h.holds found.slot t at absent
    (own_ids s.live s.next h.placed.ids) in
    settled g.R.Ready.stands h.place (record c.args.self.now { places = c.clear.new.self })
    (record s { live = without_thread t.id s.live }) (rw c.clear.ensures left)
    (deletes s c.args.id) (Ok t.stack) (rw (is, dormant) refl)
    ((keeps_places s h.placed).deletes c.args.id)
