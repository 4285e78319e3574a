-- What the laws of memory after a call say: each reads back what was written, in other words than
-- the definition that it is about.
use Rattle.std.specs.Prelude.{◌≡◌, ◌⊎◌, ℕ, ◌+◌, ◌-◌, ◌%◌, ◌<◌, ◌≤◌, Option, Some, IfSome, List, [], ◌∷◌, ◌++◌, length, take, replicate, slice_index}
use Rattle.iop_base.specs.Places.{range_at, IsRamSize}
use Rattle.iop_exec.specs.declared.cpu.Cpu.{Cpu}
use Rattle.iop_exec.specs.Row.{reg}
use Rattle.iop_printf.specs.Formatting.{format_text}
use Rattle.iop_printf.specs.Texts.{string_at}
use Rattle.iop_services.specs.declared.sysclib_service.SysclibService.{SysclibService}
use Rattle.iop_services.specs.declared.sysclib_service.SysclibService.TheVariants.{Memset}
use Rattle.iop_stubs.specs.Stubs.{Memory}
use Rattle.iop_sysclib.specs.Calls.{serves_sysclib}
use Rattle.iop_sysclib.specs.MemoryCalls.{memcpy, bzero}
use Rattle.iop_sysclib.specs.Outcomes.{Outcome, Write, bytes_at, after_write}
use Rattle.iop_sysclib.specs.StringCalls.{strcpy, strcat, strncpy, sprintf}

-- RAM after a call of this outcome
abbrev pub ram_after : Memory → Outcome → List ℕ
ram_after memory outcome = (after_write memory outcome.write).ram

-- a place lies before so many bytes from another on, or behind them
abbrev pub IsOutside : (first : Option ℕ) (len place : ℕ) → Type 0
IsOutside first len place = IfSome first (λ p. (place < p) ⊎ (p + len ≤ place))

-- the range that was written reads back, and every other byte of RAM is as it was
pub record IsWritten (old new : List ℕ) (write : Write) : Type 0 where
  pub written : bytes_at new write.at (length write.bytes) ≡ Some write.bytes
  pub size : length new ≡ length old
  pub others : (place : ℕ)
      → IsOutside (range_at (length old) write.at (length write.bytes)) (length write.bytes) place
      → slice_index new place ≡ slice_index old place

-- the range that a call writes
abbrev pub WritesAreRead : Type 0
WritesAreRead =
    (memory : Memory) (cpu : Cpu) (service : SysclibService) (outcome : Outcome) (write : Write)
    → serves_sysclib memory.ram cpu service ≡ Some outcome → outcome.write ≡ Some write
    → IsWritten memory.ram (ram_after memory outcome) write

-- a range holds what another held
abbrev pub RangesAreCopied : Type 0
RangesAreCopied =
    (memory : Memory) (to from len : ℕ) (outcome : Outcome)
    → memcpy memory.ram to from len ≡ Some outcome
    → bytes_at (ram_after memory outcome) to len ≡ bytes_at memory.ram from len

-- each byte of a range is this one
pub record HoldsOnly (byte : ℕ) (ram : List ℕ) (at len : ℕ) : Type 0 where
  pub bytes : List ℕ
  pub stand : bytes_at ram at len ≡ Some bytes
  pub whole : length bytes ≡ len
  pub only : (k : ℕ) → k < len → slice_index bytes k ≡ byte

-- by the registers $a0 to $a2 of the call
abbrev pub RangesAreFilled : Type 0
RangesAreFilled =
    (memory : Memory) (cpu : Cpu) (outcome : Outcome)
    → serves_sysclib memory.ram cpu Memset ≡ Some outcome
    → HoldsOnly (reg cpu 5 % 256) (ram_after memory outcome) (reg cpu 4) (reg cpu 6)

abbrev pub RangesAreCleared : Type 0
RangesAreCleared =
    (memory : Memory) (to len : ℕ) (outcome : Outcome) → bzero memory.ram to len ≡ Some outcome
    → HoldsOnly 0 (ram_after memory outcome) to len

-- the string that stood at an address stands at another
abbrev pub StringsAreCopied : Type 0
StringsAreCopied =
    (memory : Memory) (to from : ℕ) (outcome : Outcome)
    → strcpy memory.ram to from ≡ Some outcome
    → string_at (ram_after memory outcome) to ≡ string_at memory.ram from

-- it stands behind the one that stood there
abbrev pub StringsAreJoined : Type 0
StringsAreJoined =
    (memory : Memory) (to from : ℕ) (outcome : Outcome) → IsRamSize (length memory.ram)
    → strcat memory.ram to from ≡ Some outcome
    → string_at (ram_after memory outcome) to
    ≡ string_at memory.ram to ++ string_at memory.ram from

-- a string that is shorter than the limit is copied whole
abbrev pub ShortStringsAreCopied : Type 0
ShortStringsAreCopied =
    (memory : Memory) (to from len : ℕ) (outcome : Outcome)
    → length (string_at memory.ram from) < len
    → strncpy memory.ram to from len ≡ Some outcome
    → string_at (ram_after memory outcome) to ≡ string_at memory.ram from

-- the front of a string, and as many zeros as are left up to the limit
abbrev pub FrontsAreCopied : Type 0
FrontsAreCopied =
    (memory : Memory) (to from len : ℕ) (outcome : Outcome)
    → strncpy memory.ram to from len ≡ Some outcome
    → bytes_at (ram_after memory outcome) to len
    ≡ Some (take len (string_at memory.ram from)
    ++ replicate (len - length (string_at memory.ram from)) 0)

-- the text of a format, and a zero behind it
abbrev pub TextsAreStored : Type 0
TextsAreStored =
    (memory : Memory) (to format : ℕ) (registers : List ℕ) (sp : ℕ) (outcome : Outcome)
    → sprintf memory.ram to format registers sp ≡ Some outcome
    → let text = format_text memory.ram format registers sp in
    bytes_at (ram_after memory outcome) to (length text + 1) ≡ Some (text ++ 0 ∷ [])
