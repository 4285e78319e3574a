use Rattle.std.proofs.Common.{subst}
use Rattle.iop_objects.specs.Objects.{AreObjects}
use Rattle.iop_objects.proofs.Tables.{AreObjects-in}
use Rattle.iop_objects.proofs.objects.Objects.len.Goals as goal

pub returns-clause-sound : goal.returns-clause-sound
returns-clause-sound g c =
    subst AreObjects c.self.view_is (AreObjects-in _ _ _ _ c.self.invariant.0)
