use Rattle.std.proofs.Common.{refl}
use Rattle.iop_base.proofs.Giving.{whole_gives}
use Rattle.iop_sysclib_tests.proofs.told.ToldLines.line.Goals as goal

pub returns-in-Stub : goal.returns-in-Stub
returns-in-Stub c =
    whole_gives _ _ _ refl refl (record { console = refl; trace = refl })
    (record { console = refl; trace = refl }) refl

pub returns-in_default : goal.returns-in_default
returns-in_default c =
    whole_gives _ _ _ refl refl (record { console = refl; trace = refl })
    (record { console = refl; trace = refl }) refl
