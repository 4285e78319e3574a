use Rattle.std.proofs.Common.{◌∙◌, ◌+◌, ◌≤◌, sym, subst, ap, arith}
use Rattle.std.specs.List.{list_any}
use Rattle.iop_stubs.specs.Stubs.{meets}
use Rattle.iop_stubs.specs.Covering.{LiveTable, bytes_of_room}
use Rattle.iop_stubs.proofs.Covering.{met_in_word}
use Rattle.iop_stubs.proofs.live_stubs.LiveStubs.is_met.Goals as goal

pub returns-then-len-place : goal.returns-then-len-place
returns-then-len-place c =
    let bits = c.self.inside.covered.bits.items in
    let within : c.args.place + c.args.len ≤ bytes_of_room bits =
    subst (λ (t : LiveTable). c.args.place + c.args.len ≤ t.ram) (sym c.self.view_is) c.requires in
    c.has.ensures
    ∙ met_in_word c.args.place c.args.len c.if-len-gt0.true (omega (arith, c.if-len-place.true))
    bits c.self.inside.stubs.items c.self.invariant.0 within
    ∙ ap (λ (t : LiveTable). list_any (meets c.args.place c.args.len) t.stubs) c.self.view_is
