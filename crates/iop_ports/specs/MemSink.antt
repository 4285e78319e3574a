-- A sink in memory with room for a number of bytes, whose listed writes fail. This project's own
-- profile.
use Rattle.std.specs.Prelude.{ℕ, Bool, false, ◌||◌, if◌then◌else◌, ◌-◌, nat_le, min, List, [], ◌∷◌, ◌++◌, length, take}
use Rattle.iop_ports.specs.Calls.{Calls, no_calls, is_listed, with_call}

pub record MemSink : Type 0 where
  -- the bytes that it has taken
  pub bytes : List ℕ
  -- how many bytes it can take in all
  pub room : ℕ
  pub calls : Calls

abbrev pub empty_sink : ℕ → List ℕ → MemSink
empty_sink room fail = record { bytes = []; room = room; calls = no_calls fail }

-- the write of an empty piece does not fail; another does where its number is listed or no room is
-- left
abbrev pub write_fails : List ℕ → MemSink → Bool
write_fails [] sink = false
write_fails (byte ∷ piece) sink = is_listed sink.calls || nat_le sink.room (length sink.bytes)

-- how many bytes of a piece are taken: as many as the room that is left holds
abbrev pub taken_count : List ℕ → MemSink → ℕ
taken_count piece sink = min (length piece) (sink.room - length sink.bytes)

-- after a write of this piece; that of an empty one is no call
abbrev pub after_write : List ℕ → MemSink → MemSink
after_write [] sink = sink
after_write (byte ∷ piece) sink = record sink {
  bytes =
      if write_fails (byte ∷ piece) sink
      then sink.bytes else sink.bytes ++ take (taken_count (byte ∷ piece) sink) (byte ∷ piece);
  calls = with_call (write_fails (byte ∷ piece) sink) sink.calls;
}
