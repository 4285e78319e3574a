-- What a call that writes a value says.
use Rattle.std.specs.Prelude.{◌≡◌, true, Result, OnOk}
use Rattle.iop_base.specs.declared.write_fault.WriteFault.{WriteFault}
use Rattle.iop_snapshot.specs.Forms.{Form}
use Rattle.iop_snapshot.specs.Writing.{Place, Writes}

-- a value was written, and has a spelling, or a write failed
pub record IsSaved {X : Type 0} (form : Form X) (x : X) (result : Result Unit WriteFault)
    (old new : Place) : Type 0 where
  pub written : Writes result (form.spell x) old new
  pub fits : OnOk result (form.fits x ≡ true)
