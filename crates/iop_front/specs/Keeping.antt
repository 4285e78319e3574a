-- The file that a command keeps, and what can be seen of all that it writes to: this project's own
-- profile.
use Rattle.std.specs.Prelude.{◌≡◌, ◌≢◌, ℕ, Bool, true, false, Option, Some, None, List}
use Rattle.iop_base.specs.Output.{Output}
use Rattle.iop_ports.specs.Creating.{Creates}
use Rattle.iop_ports.specs.Sinks.{SinkTold, Sends}
use Rattle.iop_trace.specs.Outs.{sinks}
use Rattle.iop_front.specs.declared.status.Status.{Status}
use Rattle.iop_front.specs.declared.status.Status.TheVariants.{Budget, SinkFault}

-- what a command writes to: the console and the trace, and a keep
pub record Written : Type 0 where
  pub output : Output
  pub keep : SinkTold

module _ {K C T : Type 0} where
  -- by what the three tell
  abbrev pub written : (K → SinkTold) → (C → SinkTold) → (T → SinkTold) → K → C → T → Written
  written keep_told console_told trace_told keep console trace = record {
    output = sinks console_told trace_told console trace;
    keep = keep_told keep;
  }

-- a file that is to be kept
pub record KeptFile : Type 0 where
  pub name : List ℕ
  pub bytes : List ℕ

-- what keeping one leaves, by whether all of it is kept: it is created, and its bytes are sent;
-- where its creation fails nothing is sent
pub data KeepsFile (file : KeptFile) : Bool → SinkTold → SinkTold → Type 0 where
  sent : {whole : Bool} {old middle new : SinkTold} → Creates true file.name old middle
      → Sends whole file.bytes middle new → KeepsFile file whole old new
  not_created : {old new : SinkTold} → Creates false file.name old new
      → KeepsFile file false old new

-- where no file is to be kept the keep is not called, and nothing fails
abbrev pub Keeps : Option KeptFile → Bool → SinkTold → SinkTold → Type 0
Keeps None whole old new = (whole ≡ true) × (new ≡ old)
Keeps (Some file) whole old new = KeepsFile file whole old new

-- a keep that is not called is as it was, also in what it does not tell: where no file is to be
-- saved, and where the status is neither that of a run that its budget ended nor that of a write
-- that failed
pub record IsUncalled {K : Type 0} (save : Option (List ℕ)) (status : Status) (old new : K)
    : Type 0 where
  pub unsaved : save ≡ None → new ≡ old
  pub ended : status ≢ Budget → status ≢ SinkFault → new ≡ old
