-- What a sink tells of itself, and what writes leave in it: this project's profile.
use Rattle.std.specs.Prelude.{◌≡◌, ℕ, ◌≤◌, Bool, true, false, Option, List}
use Rattle.iop_base.specs.Counts.{HasCause}
use Rattle.iop_base.specs.Piece.{IsFrontOf}
use Rattle.iop_base.specs.Output.{extended}
use Rattle.iop_ports.specs.Keeps.{KeepTold, nothing_told}

pub record SinkTold : Type 0 where
  -- the bytes that it has taken, where it tells them
  pub taken : Option (List ℕ)
  -- how often a call has failed
  pub faults : ℕ
  -- what no write changes: the calls that created its file
  pub keep : KeepTold

-- what a sink tells that is no keep
abbrev pub plain_sink : Option (List ℕ) → ℕ → SinkTold
plain_sink taken faults = record { taken = taken; faults = faults; keep = nothing_told }

-- after it took these bytes, with no failure
abbrev pub after_taking : List ℕ → SinkTold → SinkTold
after_taking bytes told = record told { taken = extended told.taken bytes }

-- it took these bytes, and then a write failed
pub record FailsAfter (bytes : List ℕ) (old new : SinkTold) : Type 0 where
  pub taken : new.taken ≡ extended old.taken bytes
  pub cause : HasCause old.faults new.faults
  pub never_falls : old.faults ≤ new.faults
  pub keep : new.keep ≡ old.keep

-- a write failed before the piece was whole: a front of it was taken
pub record IsSentShort (piece : List ℕ) (old new : SinkTold) : Type 0 where
  pub part : List ℕ
  pub is_front : IsFrontOf part piece
  pub fails : FailsAfter part old new

-- a piece was sent, by whether it is whole: then no write failed
abbrev pub Sends : Bool → List ℕ → SinkTold → SinkTold → Type 0
Sends true piece old new = new ≡ after_taking piece old
Sends false piece old new = IsSentShort piece old new
