use Rattle.std.proofs.Common.{◌≡◌, ◌==◌, ◌||◌, false, arith}
use Rattle.std.proofs.lemmas.Bool.Decides.{nat_tests}
use Rattle.iop_thread.specs.declared.thread.TheConstants.{LOADER}
use Rattle.iop_kernel.proofs.kernel.Kernel.delete_thread.Goals as goal

pub returns : goal.returns
returns g c k h =
    let other : (c.args.id == 0 || c.args.id == LOADER) ≡ false =
    grind (arith, nat_tests, c.if-id-eq0.false, c.if-id-eq-LOADER.false) in
    rw other (c.delete_other.ensures k h)
