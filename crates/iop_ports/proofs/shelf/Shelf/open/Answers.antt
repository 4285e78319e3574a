use Rattle.std.proofs.Common.{rules, arith}
use Rattle.iop_ports.proofs.Shelving.{found, absent}
use Rattle.iop_ports.proofs.shelf.Shelf.open.Goals as goal

pub returns-in-Some-clause-found : goal.returns-in-Some-clause-found
returns-in-Some-clause-found c =
    let at = found c.self.inside.files.items c.args.name.now c.in-Some.file (search rules) in
    grind (arith, at.file)

pub returns-in-Some-clause-opened : goal.returns-in-Some-clause-opened
returns-in-Some-clause-opened c =
    let at = found c.self.inside.files.items c.args.name.now c.in-Some.file (search rules) in
    grind (arith, at.file, at.same_name)

pub returns-in-None-clause-found : goal.returns-in-None-clause-found
returns-in-None-clause-found c =
    let none = absent c.self.inside.files.items c.args.name.now (search rules) in
    grind (arith, none.file)

pub returns-in-None-clause-opened : goal.returns-in-None-clause-opened
returns-in-None-clause-opened c =
    let none = absent c.self.inside.files.items c.args.name.now (search rules) in
    grind (arith, none.file)
