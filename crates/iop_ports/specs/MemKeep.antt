-- A keep in memory, whose listed calls fail. This project's own profile.
use Rattle.std.specs.Prelude.{ℕ, Bool, true, false, not, ◌||◌, if◌then◌else◌, nat_lt, Option, Some, None, List, [], ◌∷◌, length}
use Rattle.iop_base.specs.Counts.{risen}
use Rattle.iop_ports.specs.declared.mem_keep.TheConstants.{LONGEST_NAME}
use Rattle.iop_ports.specs.Calls.{is_listed, with_call}
use Rattle.iop_ports.specs.Sinks.{SinkTold}
use Rattle.iop_ports.specs.MemSink as sink
use Rattle.iop_ports.specs.MemSink.{MemSink, empty_sink}

pub record MemKeep : Type 0 where
  -- its bytes are those since the last creation that succeeded; creations and writes are its calls
  pub sink : MemSink
  -- the name last asked for: none before any creation and after one of a name that is too long
  pub name : Option (List ℕ)
  -- whether the last creation succeeded: not before any
  pub is_open : Bool
  -- how many creations were asked for
  pub creates : ℕ
  -- the count of faults that stood before the last of them, and 0 before any
  pub faults_before : ℕ

abbrev pub empty_keep : ℕ → List ℕ → MemKeep
empty_keep room fail = record {
  sink = empty_sink room fail;
  name = None;
  is_open = false;
  creates = 0;
  faults_before = 0;
}

abbrev pub is_too_long : List ℕ → Bool
is_too_long name = nat_lt LONGEST_NAME (length name)

-- a creation fails where its number is listed or the name is too long
abbrev pub create_fails : List ℕ → MemKeep → Bool
create_fails name keep = is_listed keep.sink.calls || is_too_long name

-- after a creation under this name
abbrev pub after_create : List ℕ → MemKeep → MemKeep
after_create name keep = record {
  sink = record keep.sink {
    bytes = if create_fails name keep then keep.sink.bytes else [];
    calls = with_call (create_fails name keep) keep.sink.calls;
  };
  name = if is_too_long name then None else Some name;
  is_open = not (create_fails name keep);
  creates = risen keep.creates;
  faults_before = keep.sink.calls.faults;
}

-- the write of an empty piece does not fail; another does where the sink's does, and where the last
-- creation failed or none was asked for
abbrev pub write_fails : List ℕ → MemKeep → Bool
write_fails [] keep = false
write_fails (byte ∷ piece) keep = not keep.is_open || sink.write_fails (byte ∷ piece) keep.sink

-- after a write of this piece: where no file is open, that of one that is not empty is a call that
-- fails
abbrev pub after_write : List ℕ → MemKeep → MemKeep
after_write [] keep = keep
after_write (byte ∷ piece) keep = record keep {
  sink =
      if keep.is_open
      then sink.after_write (byte ∷ piece) keep.sink
      else record keep.sink { calls = with_call true keep.sink.calls };
}

-- it tells everything
abbrev pub told_of : MemKeep → SinkTold
told_of keep = record {
  taken = Some keep.sink.bytes;
  faults = keep.sink.calls.faults;
  keep = record {
    name = keep.name;
    creates = Some keep.creates;
    faults_before = Some keep.faults_before;
  };
}
