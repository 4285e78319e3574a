-- What a call of an encoder leaves in its sink: this project's profile.
use Rattle.std.specs.Prelude.{◌≡◌, ℕ, is_ok, Result, List}
use Rattle.std.specs.Borrow.{GName}
use Rattle.iop_base.specs.declared.write_fault.WriteFault.{WriteFault}
use Rattle.iop_ports.specs.Sinks.{SinkTold, Sends}
use Rattle.iop_snapshot.specs.declared.encoder.Encoder.{Encoder}

-- where an encoder writes: what its sink tells, and the borrow through which it is written
pub record Place : Type 0 where
  pub told : SinkTold
  pub name : GName

-- by what the encoder's sink tells
abbrev pub place_of : {S : Type 0} → (S → SinkTold) → Encoder S → Place
place_of told encoder = record { told = told encoder.sink.now; name = encoder.sink.ghost_name }

-- the sink has taken all bytes, and no write failed; or the call failed, a write failed, and the
-- sink has taken a front of the bytes
pub record HasWritten (result : Result Unit WriteFault) (bytes : List ℕ) (old new : Place)
    : Type 0 where
  pub sends : Sends (is_ok result) bytes old.told new.told
  pub name : new.name ≡ old.name

-- the same, as one word
pub data Writes : Result Unit WriteFault → List ℕ → Place → Place → Type 0 where
  written : {result : Result Unit WriteFault} {bytes : List ℕ} {old new : Place}
      → HasWritten result bytes old new → Writes result bytes old new
