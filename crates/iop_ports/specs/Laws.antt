-- What the laws of keeps say.
use Rattle.std.specs.Prelude.{ℕ, Bool, List}
use Rattle.iop_ports.specs.Sinks.{SinkTold, Sends}
use Rattle.iop_ports.specs.Creating.{Creates, AsksOnce}

pub record CreationsComeFirst : Type 0 where
  -- nothing is asked for
  pub none : (name : List ℕ) (told : SinkTold) → AsksOnce name told told
  -- a file is asked for, and then a piece is sent, whether or not either succeeds
  pub first : (succeeds whole : Bool) (name piece : List ℕ) (old middle new : SinkTold)
      → Creates succeeds name old middle → Sends whole piece middle new → AsksOnce name old new
