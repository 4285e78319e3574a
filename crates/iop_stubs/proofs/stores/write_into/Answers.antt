use Rattle.std.proofs.Common.{arith}
use Rattle.std.proofs.lemmas.List.{get_or_default}
use Rattle.iop_stubs.proofs.stores.write_into.Goals as goal

pub returns-clause-bytes : goal.returns-clause-bytes
returns-clause-bytes g c =
    λ k d below.
    rw (get_or_default c.write.new.arg2 k d 0 below) (omega (arith, c.type_inv.window k))
