use Rattle.std.proofs.Common.{◌∙◌, sym, refl, ap}
use Rattle.iop_base.specs.declared.code.TheConstants.Code.{OK}
use Rattle.iop_thread.specs.declared.thread.Thread.{Thread}
use Rattle.iop_thread.specs.Operations.{starts}
use Rattle.iop_thread.proofs.Placed.{keeps_places}
use Rattle.iop_thread.proofs.Settling.{can_enter, dormant_not_ready, settled}
use Rattle.iop_thread.proofs.threads.Threads.start.Goals as goal

pub put_last-requires : goal.put_last-requires
put_last-requires g c =
    let (s, h) = c.requires.sound in
    let found = c.in-Some.found in
    let (is, there) = c.in-Some.ensures s h in
    let dormant = sym c.is_dormant.ensures ∙ c.if-not-is_dormant.false in
    let other = dormant_not_ready found.thread.state dormant in
    let same = ap (λ (t : Thread). t.id) c.as_at_first.ensures in (
      h.place,
      s,
      h.holds,
      can_enter g.R.Ready.stands c.args.self.now s h found there other c.as_at_first.result same,
    )

pub returns : goal.returns
returns g c = λ s h.
    let found = c.in-Some.found in
    let (is, there) = c.in-Some.ensures s h in
    let dormant = sym c.is_dormant.ensures ∙ c.if-not-is_dormant.false in
    let other = dormant_not_ready found.thread.state dormant in
    let same = ap (λ (t : Thread). t.id) c.as_at_first.ensures in
    let can = can_enter g.R.Ready.stands c.args.self.now s h found there other c.as_at_first.result same in
    settled g.R.Ready.stands h.place c.put_last.new.self _
    (c.put_last.ensures h.place s h.holds can)
    (starts s c.args.id c.args.argument) OK
    (rw (is, dormant, c.as_at_first.ensures, c.first_registers-registers.ensures) refl)
    ((keeps_places s h.placed).starts c.args.id c.args.argument)
