use Rattle.std.proofs.Common.{refl}
use Rattle.iop_base.proofs.Giving.{whole_gives}
use Rattle.iop_sysclib_tests.proofs.told.ToldLines.text.Goals as goal

pub returns : goal.returns
returns c =
    whole_gives _ _ _ refl refl (record { console = refl; trace = refl })
    (record { console = refl; trace = refl }) refl
