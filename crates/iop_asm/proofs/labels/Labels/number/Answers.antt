use Rattle.std.proofs.Common.{rules}
use Rattle.iop_asm.proofs.labels.Labels.number.Goals as goal

pub returns-in-Some-clause-numbered : goal.returns-in-Some-clause-numbered
returns-in-Some-clause-numbered c =
    c.args.self.now.numbering.named c.args.name.now c.in-Some.number (search rules)
