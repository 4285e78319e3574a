use Rattle.std.proofs.Common.{refl}
use Rattle.iop_isa.proofs.Rows.{named-none, named-some, first-small}
use Rattle.iop_isa.proofs.naming.mnemonic_of.Goals as goal

pub returns-in_err-row : goal.returns-in_err-row
returns-in_err-row c = rw c.from_residual.ensures (named-none _ _ c.in_err-row.ensures refl)

pub invariant_of-result : goal.invariant_of-result
invariant_of-result c = record { small = first-small _ _ _ c.in_ok-row.ensures refl }

pub returns : goal.returns
returns c = named-some _ _ _ c.in_ok-row.ensures refl
