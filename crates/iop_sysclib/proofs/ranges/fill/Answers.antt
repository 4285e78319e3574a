use Rattle.std.proofs.Common.{◌∙◌, refl, replicate}
use Rattle.std.proofs.lemmas.List.{length-replicate}
use Rattle.iop_base.proofs.Giving.{gives_none}
use Rattle.iop_sysclib.proofs.ServedCalls.{served_nothing}
use Rattle.iop_sysclib.proofs.ranges.fill.Goals as goal

pub returns-then-len-eq0-clause-served : goal.returns-then-len-eq0-clause-served
returns-then-len-eq0-clause-served g c =
    served_nothing c.args.guest.now c.args.guest.now c.args.at
    (replicate c.args.len c.args.byte) c.args.answer c.args.now _ _
    (length-replicate c.args.len c.args.byte ∙ c.if-len-eq0.true) refl (gives_none _)
