-- What the calls that create a keep's file leave in it: this project's profile.
use Rattle.std.specs.Prelude.{◌≡◌, ℕ, ◌<◌, ◌≤◌, ◌⊎◌, Bool, true, false, option_map, List, [], IfSome}
use Rattle.iop_base.specs.Counts.{risen, HasCause}
use Rattle.iop_ports.specs.Keeps.{HasAsked, CreatesRose}
use Rattle.iop_ports.specs.Sinks.{SinkTold}

-- the file is there, and nothing is in it
pub record HasCreated (name : List ℕ) (old new : SinkTold) : Type 0 where
  pub taken : new.taken ≡ option_map (λ _. []) old.taken
  pub faults : new.faults ≡ old.faults
  pub asked : HasAsked name old.faults old.keep new.keep

-- the call failed: what was taken before stays
pub record FailsToCreate (name : List ℕ) (old new : SinkTold) : Type 0 where
  pub taken : new.taken ≡ old.taken
  pub cause : HasCause old.faults new.faults
  pub never_falls : old.faults ≤ new.faults
  pub asked : HasAsked name old.faults old.keep new.keep

-- a file of this name was asked for, by whether the call succeeded
abbrev pub Creates : Bool → List ℕ → SinkTold → SinkTold → Type 0
Creates true name old new = HasCreated name old new
Creates false name old new = FailsToCreate name old new

-- what is left where at most one file was asked for, one of this name, and no write failed before
pub record AsksOnce (wanted : List ℕ) (old new : SinkTold) : Type 0 where
  -- the number of calls rose by at most one
  pub once : IfSome old.keep.creates (λ before. IfSome new.keep.creates (λ after.
      (after ≡ before) ⊎ (after ≡ risen before)))
  -- where it rose, the name last asked for is this one
  pub name : IfSome old.keep.creates (λ before. IfSome new.keep.creates (λ after.
      before < after → IfSome new.keep.name (λ name. name ≡ wanted)))
  -- where the count of faults rose, so did that number, or it stands at its last value
  pub cause : old.faults < new.faults → CreatesRose old.keep new.keep
  -- and no fault stood between the beginning and the last call
  pub before : old.faults < new.faults
      → IfSome new.keep.faults_before (λ faults. faults ≡ old.faults)
