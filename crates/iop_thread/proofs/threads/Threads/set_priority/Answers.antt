use Rattle.std.proofs.Common.{◌++◌, ◌∷◌, [], ap, refl, subst, Option, if◌then◌else◌}
use Rattle.iop_thread.specs.declared.state.State.{State}
use Rattle.iop_thread.specs.declared.state.State.TheVariants.{Ready}
use Rattle.iop_thread.specs.declared.thread.Thread.{Thread}
use Rattle.iop_thread.specs.ThreadTable.{with_priority}
use Rattle.iop_thread.specs.Operations.{changes_it}
use Rattle.iop_thread.specs.Placing.{IsPlaced}
use Rattle.iop_thread.specs.Standing.{Holds}
use Rattle.iop_thread.specs.States.{is_dormant, is_ready}
use Rattle.iop_thread.specs.ThreadTable.{leaves, with_thread, without}
use Rattle.iop_thread.proofs.Handling.{may_change, enters_again}
use Rattle.iop_thread.proofs.Moving.{placed_in_same_state}
use Rattle.iop_thread.proofs.Placed.{keeps_places}
use Rattle.iop_thread.proofs.Settling.{in_place, can_enter, not_ready_state, stands_as}
use Rattle.iop_thread.proofs.threads.Threads.set_priority.Goals as goal

pub put_last-requires : goal.put_last-requires
put_last-requires g c =
    let (s, h) = c.requires.sound in
    let found = c.args.found.now in
    let t = found.thread in
    let own = c.in-Ready.registers in
    let at = in_place g.R.Ready.stands c.args.self.now s h found c.requires.there in
    let left = subst (λ (state : State). Holds g.R.Ready.stands h.place c.leave.new.self (leaves s t state))
    c.in-Ready.is (c.leave.ensures h.place s h.holds at) in
    (h.place, leaves s t (Ready own), left, enters_again h.place s found.slot t at own c.args.priority)

pub returns-in-Ready : goal.returns-in-Ready
returns-in-Ready g c = λ s h.
    let found = c.args.found.now in
    let t = found.thread in
    let own = c.in-Ready.registers in
    let priority = c.args.priority in
    let at = in_place g.R.Ready.stands c.args.self.now s h found c.requires.there in
    let left = subst (λ (state : State). Holds g.R.Ready.stands h.place c.leave.new.self (leaves s t state))
    c.in-Ready.is (c.leave.ensures h.place s h.holds at) in
    let can = enters_again h.place s found.slot t at own priority in
    let other = ap is_dormant c.in-Ready.is in
    stands_as g.R.Ready.stands h.place c.put_last.new.self _
    (c.put_last.ensures h.place (leaves s t (Ready own)) left can)
    (with_priority s t priority)
    (ap (λ (state : State). record (with_thread s (record t { priority = priority; state = state }))
    { ready = if is_ready state then without t.id s.ready ++ t.id ∷ [] else s.ready }) c.in-Ready.is)
    (let changed = subst (λ (o : Option Thread). IsPlaced (changes_it s priority o).1) at.found
    ((keeps_places s h.placed).changes t.id priority) in
    rw other at changed)

pub returns-in_default : goal.returns-in_default
returns-in_default g c = λ s h.
    let found = c.args.found.now in
    let t = found.thread in
    let there = c.requires.there in
    let changed = record t { priority = c.args.priority } in
    let at = in_place g.R.Ready.stands c.args.self.now s h found there in
    let other = not_ready_state t.state c.in_default.not-Ready in
    let can = can_enter g.R.Ready.stands c.args.self.now s h found there other changed refl in
    stands_as g.R.Ready.stands h.place c.set.new.self _
    (c.set.ensures h.place s h.holds (may_change h.place s found.slot changed can t.state))
    (with_priority s t c.args.priority) (rw other refl)
    (rw other (placed_in_same_state s h.placed t changed at.found refl))
