use Rattle.std.proofs.Common.{rules}
use Rattle.iop_machine.proofs.Performing.{over_bus, performed}
use Rattle.iop_machine.proofs.guest_bus.perform.Goals as goal

pub returns : goal.returns
returns g c =
    let same = over_bus g.L.Lines.output _ _ _ _ _ _ c.step_apart.ensures in
    let guest = same.guest in
    let lines = same.lines in
    performed g.L.Lines.output _ _ _ _ _ _ _ _ c.step_apart.ensures (search (rules, guest))
    (search (rules, lines))
