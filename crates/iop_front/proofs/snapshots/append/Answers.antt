use Rattle.std.proofs.Common.{arith}
use Rattle.std.proofs.lemmas.List.Elements.{All-from_get_or}
use Rattle.iop_base.specs.Numbers.{IsByte}
use Rattle.iop_front.proofs.snapshots.append.Goals as goal

pub returns-clause-bytes : goal.returns-clause-bytes
returns-clause-bytes c =
    All-from_get_or IsByte c.args.piece.now 0 (λ i inside. omega (arith, c.type_inv.piece i))
