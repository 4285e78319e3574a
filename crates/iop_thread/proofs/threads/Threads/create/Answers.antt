use Rattle.std.proofs.Common.{◌≡◌, ◌+◌, ◌++◌, ◌∷◌, [], ◌∙◌, true, Some, None, sym, refl, arith, Ok, Err}
use Rattle.std.proofs.lemmas.Bool.Decides.{nat_tests}
use Rattle.iop_base.specs.declared.code.TheConstants.Code.{NO_MEMORY}
use Rattle.iop_thread.specs.Operations.{creates}
use Rattle.iop_thread.specs.ThreadTable.{has_room, thread_of}
use Rattle.iop_thread.proofs.Coming.{comes, place_with, has_room-free}
use Rattle.iop_thread.proofs.LiveThreads.{none_of_next}
use Rattle.iop_thread.proofs.Placed.{keeps_places}
use Rattle.iop_thread.proofs.PlaceLists.{free-Some}
use Rattle.iop_thread.proofs.Settling.{settled, running_is_live}
use Rattle.iop_thread.proofs.threads.Threads.create.Goals as goal

pub returns-in_default : goal.returns-in_default
returns-in_default g c = λ s h.
    let room = has_room-free g.R.Ready.stands h.place c.args.self.now s h.holds None
    (sym c.in_default.is ∙ c.free.ensures) in
    settled g.R.Ready.stands h.place c.args.self.now s h.holds
    (creates s c.args.param c.args.stack c.args.gp) (Err NO_MEMORY) (rw room refl)
    ((keeps_places s h.placed).creates c.args.param c.args.stack c.args.gp)

pub returns : goal.returns
returns g c = λ s h.
    let t = c.args.self.now in
    let slot = c.in-Some.slot in
    let u = c.dormant.result in
    let is = sym c.in-Some.is ∙ c.free.ensures in
    let free = free-Some t.places slot (sym is) in
    let room = has_room-free g.R.Ready.stands h.place t s h.holds (Some slot) is in
    let some : has_room s ≡ true = grind (arith, nat_tests, room, c.if-self-gt-LAST_ID.false) in
    let none : thread_of s.live u.id ≡ None =
    rw (c.dormant.ensures, ← h.holds.next) (none_of_next s.live s.next h.placed.ids.given) in
    let left = comes g.R.Ready.stands h.place t s h.holds slot u none free.0 free.1
    (running_is_live s h.placed) in
    settled g.R.Ready.stands (place_with h.place u.id slot)
    (record t { places = c.put.new.self; next = t.next + 1 })
    (record s { live = s.live ++ u ∷ []; next = s.next + 1 })
    (rw c.put.ensures left)
    (creates s c.args.param c.args.stack c.args.gp) (Ok t.next)
    (rw (some, c.dormant.ensures, h.holds.next) refl)
    ((keeps_places s h.placed).creates c.args.param c.args.stack c.args.gp)
