use Rattle.std.proofs.Common.{◌∙◌, sym, refl}
use Rattle.iop_thread.specs.Operations.{begins}
use Rattle.iop_thread.proofs.Placed.{keeps_places}
use Rattle.iop_thread.proofs.Settling.{can_enter, dormant_not_ready, stands_as}
use Rattle.iop_thread.proofs.threads.Threads.begin.Goals as goal

pub put_last-requires : goal.put_last-requires
put_last-requires g c =
    let (s, h) = c.requires.sound in
    let found = c.in-Some.found in
    let (is, there) = c.in-Some.ensures s h in
    let dormant = sym c.is_dormant.ensures ∙ c.if-is_dormant.true in
    let other = dormant_not_ready found.thread.state dormant in (
      h.place,
      s,
      h.holds,
      can_enter g.R.Ready.stands c.args.self.now s h found there other found.thread refl,
    )

pub returns-then-is_dormant : goal.returns-then-is_dormant
returns-then-is_dormant g c = λ s h.
    let found = c.in-Some.found in
    let (is, there) = c.in-Some.ensures s h in
    let dormant = sym c.is_dormant.ensures ∙ c.if-is_dormant.true in
    let other = dormant_not_ready found.thread.state dormant in
    let can = can_enter g.R.Ready.stands c.args.self.now s h found there other found.thread refl in
    stands_as g.R.Ready.stands h.place c.put_last.new.self _
    (c.put_last.ensures h.place s h.holds can)
    (begins s c.args.registers.now) (rw (is, dormant) refl)
    ((keeps_places s h.placed).begins c.args.registers.now tt)
