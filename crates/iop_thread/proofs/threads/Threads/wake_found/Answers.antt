use Rattle.std.proofs.Common.{refl, ap, subst, Option}
use Rattle.iop_thread.specs.declared.thread.Thread.{Thread}
use Rattle.iop_thread.specs.Operations.{wakes_in, wakes_it}
use Rattle.iop_thread.specs.Placing.{IsPlaced}
use Rattle.iop_thread.specs.States.{is_ready}
use Rattle.iop_thread.proofs.Placed.{keeps_places}
use Rattle.iop_thread.proofs.Settling.{in_place, can_enter, stands_as}
use Rattle.iop_thread.proofs.threads.Threads.wake_found.Goals as goal

pub put_last-requires : goal.put_last-requires
put_last-requires g c =
    let (s, h) = c.requires.sound in
    let found = c.args.found.now in
    let other = ap is_ready c.in-Waiting.is in (
      h.place,
      s,
      h.holds,
      can_enter g.R.Ready.stands c.args.self.now s h found c.requires.there other found.thread refl,
    )

pub returns-in-Waiting : goal.returns-in-Waiting
returns-in-Waiting g c = λ s h.
    let found = c.args.found.now in
    let t = found.thread in
    let there = c.requires.there in
    let at = in_place g.R.Ready.stands c.args.self.now s h found there in
    let other = ap is_ready c.in-Waiting.is in
    let can = can_enter g.R.Ready.stands c.args.self.now s h found there other t refl in
    stands_as g.R.Ready.stands h.place c.put_last.new.self _
    (c.put_last.ensures h.place s h.holds can)
    (wakes_in s c.args.answer t t.state) (rw (c.in-Waiting.is, c.with_answer.ensures) refl)
    (subst (λ (o : Option Thread). IsPlaced (wakes_it s c.args.answer o)) at.found
    ((keeps_places s h.placed).wakes t.id c.args.answer))

pub returns-in-WaitingSuspended : goal.returns-in-WaitingSuspended
returns-in-WaitingSuspended g c = λ s h.
    let found = c.args.found.now in
    let t = found.thread in
    let at = in_place g.R.Ready.stands c.args.self.now s h found c.requires.there in
    stands_as g.R.Ready.stands h.place c.set_state.new.self _
    (c.set_state.ensures h.place s h.holds at)
    (wakes_in s c.args.answer t t.state)
    (rw (c.in-WaitingSuspended.is, c.with_answer-in-WaitingSuspended.ensures) refl)
    (subst (λ (o : Option Thread). IsPlaced (wakes_it s c.args.answer o)) at.found
    ((keeps_places s h.placed).wakes t.id c.args.answer))
