use Rattle.std.proofs.Common.{◌∙◌, sym, refl}
use Rattle.iop_base.specs.declared.code.TheConstants.Code.{OK}
use Rattle.iop_thread.specs.Operations.{suspends}
use Rattle.iop_thread.proofs.Placed.{keeps_places}
use Rattle.iop_thread.proofs.Settling.{in_place, settled}
use Rattle.iop_thread.proofs.threads.Threads.suspend.Goals as goal

pub returns : goal.returns
returns g c = λ s h.
    let found = c.in-Some.found in
    let (is, there) = c.in-Some.ensures s h in
    let at = in_place g.R.Ready.stands c.args.self.now s h found there in
    let other = sym c.is_dormant.ensures ∙ c.if-is_dormant.false in
    settled g.R.Ready.stands h.place c.settle.new.self _ (c.settle.ensures h.place s h.holds at)
    (suspends s c.args.id c.args.registers.now) OK
    (rw (is, other, c.suspended.ensures) refl)
    ((keeps_places s h.placed).suspends c.args.id c.args.registers.now tt)
