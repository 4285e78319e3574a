use Rattle.std.proofs.Common.{rules, arith}
use Rattle.std.proofs.lemmas.Grind.{common_steps}
use Rattle.iop_ports.proofs.Shelving.{found, absent}
use Rattle.iop_ports.proofs.shelf.add_file.Goals as goal

pub returns-in-Some-clause-added : goal.returns-in-Some-clause-added
returns-in-Some-clause-added c =
    let at = found c.args.files.now.items c.args.name.now c.in-Some.index (search rules) in
    grind (arith, common_steps, at.with_bytes c.args.bytes.items)

pub returns-in_ok-push-in-None-clause-added : goal.returns-in_ok-push-in-None-clause-added
returns-in_ok-push-in-None-clause-added c =
    let none = absent c.args.files.now.items c.args.name.now (search rules) in
    grind (arith, none.with_bytes c.args.bytes.items, c.in_ok-push-in-None.ensures.items)
