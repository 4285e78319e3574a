-- What a keep tells of the calls that created its file, and what such a call makes of it: this
-- project's profile. Each of the three is none where the keep does not tell it.
use Rattle.std.specs.Prelude.{◌≡◌, ℕ, Option, None, option_map, List, IfSome}
use Rattle.iop_base.specs.Counts.{risen, HasCause}

pub record KeepTold : Type 0 where
  -- the name last asked for
  pub name : Option (List ℕ)
  -- how many calls were made, failed ones among them
  pub creates : Option ℕ
  -- the count of faults that stood before the last of them, and 0 before any
  pub faults_before : Option ℕ

-- of what tells nothing of them, as each sink that is no keep
abbrev pub nothing_told : KeepTold
nothing_told = record { name = None; creates = None; faults_before = None }

-- after one more call, for a file of this name, before which so many faults stood
pub record HasAsked (wanted : List ℕ) (faults : ℕ) (old new : KeepTold) : Type 0 where
  pub name : IfSome new.name (λ name. name ≡ wanted)
  pub creates : new.creates ≡ option_map risen old.creates
  pub faults_before : new.faults_before ≡ option_map (λ _. faults) old.faults_before

-- the number of calls rose, or stands at its last value
abbrev pub CreatesRose : KeepTold → KeepTold → Type 0
CreatesRose old new = IfSome old.creates (λ before. IfSome new.creates (HasCause before))
