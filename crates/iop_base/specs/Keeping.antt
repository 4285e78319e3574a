-- What becomes of a module after its return (ps2sdk: the results of a module's entry). That 3 is as
-- 1 is this project's profile.
use Rattle.std.specs.Prelude.{ℕ, ◌%◌, ◌==◌, if◌then◌else◌}
use Rattle.iop_base.specs.declared.kept.Kept.{Kept}
use Rattle.iop_base.specs.declared.kept.Kept.TheVariants.{Resident, Removed, Removable}

-- by the low two bits of what it returned
abbrev pub kept_of : ℕ → Kept
kept_of value = if value % 4 == 0 then Resident else if value % 4 == 2 then Removable else Removed
