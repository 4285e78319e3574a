use Rattle.std.proofs.Common.{arith}
use Rattle.iop_ports.proofs.Shelving.{asked_kept, inside_after_add}
use Rattle.iop_ports.proofs.shelf.Shelf.add.Goals as goal

pub invariant_of-self-2 : goal.invariant_of-self-2
invariant_of-self-2 c = inside_after_add _ _ _ _ _ _ c.self.invariant c.in_ok-add_file.ensures.added

pub returns-clause-added : goal.returns-clause-added
returns-clause-added c =
    let s = c.self.inside in
    let name = c.args.name.now in
    let kept = asked_kept s.files.items name c.args.bytes.items s.asked c.self.invariant.asked_in in
    grind (arith, kept, c.in_ok-add_file.ensures.added)
