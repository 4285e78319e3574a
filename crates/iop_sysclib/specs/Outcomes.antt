-- What a call of the C library answers and writes. That a range which is not wholly in RAM is an
-- Address fault, that a range of no byte is not looked at, and that what is written is one store,
-- is this project's own profile.
use Rattle.std.specs.Prelude.{◌≡◌, ℕ, ◌+◌, ◌==◌, Bool, ◌||◌, if◌then◌else◌, is_some, Option, Some, None, option_map, option_and_then, Result, List, [], length}
use Rattle.std.specs.Option.{ok_or, option_map_or}
use Rattle.iop_base.specs.Numbers.{wrapped}
use Rattle.iop_base.specs.Output.{Output, Gives}
use Rattle.iop_base.specs.Piece.{Piece}
use Rattle.iop_base.specs.Places.{range_at}
use Rattle.iop_base.specs.declared.guest_fault.GuestFault.{GuestFault}
use Rattle.iop_base.specs.declared.guest_fault.GuestFault.TheVariants.{Address}
use Rattle.iop_ram.specs.Windows.{window_of}
use Rattle.iop_stubs.specs.Stubs.{Memory, range_place, after_store, store_lines}

-- bytes that are written from an address on
pub record Write : Type 0 where
  pub at : ℕ
  pub bytes : List ℕ

-- what a call that does not fault answers, and what it writes
pub record Outcome : Type 0 where
  pub answer : ℕ
  pub write : Option Write

-- a call that only reads, and always answers a word
abbrev pub answers : ℕ → Option Outcome
answers word = Some (record { answer = word; write = None })

-- a call that only reads: it answers a word, or faults
abbrev pub reads : Option ℕ → Option Outcome
reads word = option_and_then answers word

-- whether a range lies wholly in RAM, or has no byte
abbrev pub is_open : List ℕ → ℕ → ℕ → Bool
is_open ram at len = len == 0 || is_some (range_at (length ram) at len)

-- a call that writes bytes and answers a word: it faults where their range is not open
abbrev pub writes : List ℕ → ℕ → List ℕ → ℕ → Option Outcome
writes ram at bytes word =
    if is_open ram at (length bytes)
    then Some (record { answer = word; write = Some (record { at = at; bytes = bytes }) })
    else None

-- the bytes of an open range
abbrev pub bytes_at : List ℕ → ℕ → ℕ → Option (List ℕ)
bytes_at ram at len = if len == 0 then Some [] else window_of ram at len

-- the address of a byte by its index behind another; 0 where there is none
abbrev pub address_or_zero : ℕ → Option ℕ → ℕ
address_or_zero at index = option_map_or (λ i. wrapped (at + i)) index 0

-- what a call gives: an Address fault where it has no outcome
abbrev pub result_of : Option Outcome → Result ℕ GuestFault
result_of outcome = ok_or (option_map (λ o. o.answer) outcome) Address

-- what a call writes: nothing where it faults
abbrev pub write_of : Option Outcome → Option Write
write_of outcome = option_and_then (λ o. o.write) outcome

-- memory after a write, which is one store
abbrev pub after_write : Memory → Option Write → Memory
after_write memory None = memory
after_write memory (Some write) =
    after_store memory (range_place memory write.at (length write.bytes)) write.bytes

-- the lines of a write at a moment
abbrev pub write_lines : ℕ → Memory → Option Write → List Piece
write_lines t memory None = []
write_lines t memory (Some write) =
    let len = length write.bytes in store_lines t memory (range_place memory write.at len) len

-- a call of this outcome gave this result at a moment, left this memory, and told of its store
pub record IsServed (outcome : Option Outcome) (t : ℕ) (result : Result ℕ GuestFault)
    (old new : Memory) (before after : Output) : Type 0 where
  pub answer : result ≡ result_of outcome
  pub memory : new ≡ after_write old (write_of outcome)
  pub lines : Gives before after (write_lines t old (write_of outcome))
