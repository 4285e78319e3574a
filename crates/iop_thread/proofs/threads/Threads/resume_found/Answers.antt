use Rattle.std.proofs.Common.{refl, ap, subst, Option}
use Rattle.iop_base.specs.declared.code.TheConstants.Code.{OK}
use Rattle.iop_thread.specs.declared.thread.Thread.{Thread}
use Rattle.iop_thread.specs.Operations.{resumes_in, resumes_it}
use Rattle.iop_thread.specs.Placing.{IsPlaced}
use Rattle.iop_thread.specs.States.{is_ready}
use Rattle.iop_thread.proofs.Placed.{keeps_places}
use Rattle.iop_thread.proofs.Settling.{in_place, can_enter, settled}
use Rattle.iop_thread.proofs.threads.Threads.resume_found.Goals as goal

pub put_last-requires : goal.put_last-requires
put_last-requires g c =
    let (s, h) = c.requires.sound in
    let found = c.args.found.now in
    let other = ap is_ready c.in-Suspended.is in (
      h.place,
      s,
      h.holds,
      can_enter g.R.Ready.stands c.args.self.now s h found c.requires.there other found.thread refl,
    )

pub returns-in-Suspended : goal.returns-in-Suspended
returns-in-Suspended g c = λ s h.
    let found = c.args.found.now in
    let t = found.thread in
    let there = c.requires.there in
    let at = in_place g.R.Ready.stands c.args.self.now s h found there in
    let other = ap is_ready c.in-Suspended.is in
    let can = can_enter g.R.Ready.stands c.args.self.now s h found there other t refl in
    settled g.R.Ready.stands h.place c.put_last.new.self _
    (c.put_last.ensures h.place s h.holds can)
    (resumes_in s t t.state) OK (rw c.in-Suspended.is refl)
    (subst (λ (o : Option Thread). IsPlaced (resumes_it s o).1) at.found
    ((keeps_places s h.placed).resumes t.id))

pub returns-in-WaitingSuspended : goal.returns-in-WaitingSuspended
returns-in-WaitingSuspended g c = λ s h.
    let found = c.args.found.now in
    let t = found.thread in
    let at = in_place g.R.Ready.stands c.args.self.now s h found c.requires.there in
    settled g.R.Ready.stands h.place c.set_state.new.self _
    (c.set_state.ensures h.place s h.holds at)
    (resumes_in s t t.state) OK (rw c.in-WaitingSuspended.is refl)
    (subst (λ (o : Option Thread). IsPlaced (resumes_it s o).1) at.found
    ((keeps_places s h.placed).resumes t.id))
