-- The values of options: this project's own profile.
use Rattle.std.specs.Prelude.{◌≡◌, ℕ, ◌≤◌, true, ◌-◌, ◌^◌, ◌==◌, nat_le, Bool, ◌&&◌, if◌then◌else◌, Option, Some, None, option_and_then, is_some, codes, List, length}
use Rattle.std.specs.List.{before_first, after_first}
use Rattle.std.specs.Str.{bytes_eq}
use Rattle.iop_base.specs.Places.{range_at}
use Rattle.iop_base.specs.declared.limits.TheConstants.{MOST_WORKERS}
use Rattle.iop_options.specs.Numbers.{number_of}
use Rattle.iop_options.specs.declared.limits.TheConstants.{DEFAULT_BUDGET, MOST_BUDGET, LONGEST_DUMP, MOST_HEX_DIGITS, LONGEST_WORD}
use Rattle.iop_options.specs.declared.ram_size.RamSize.{RamSize}
use Rattle.iop_options.specs.declared.ram_size.RamSize.TheVariants.{TwoMiB, EightMiB}

-- a range of the guest's memory
pub record DumpRange : Type 0 where
  pub from : ℕ
  pub len : ℕ

pub record IsDumpRange (range : DumpRange) : Type 0 where
  pub some : 1 ≤ range.len
  pub short : range.len ≤ LONGEST_DUMP

-- the range lies wholly inside RAM of so many bytes
abbrev pub IsInside : (size : ℕ) → DumpRange → Type 0
IsInside size range = is_some (range_at size range.from range.len) ≡ true

-- how many instructions a run may execute
abbrev pub budget_of : Option (List ℕ) → Option ℕ
budget_of None = Some DEFAULT_BUDGET
budget_of (Some text) = number_of 10 0 MOST_BUDGET text

-- the name of a script's file
abbrev pub script_of : List ℕ → Option (List ℕ)
script_of text = if nat_le 1 (length text) then Some text else None

-- a name of 1 to `LONGEST_WORD` bytes
abbrev pub is_short_name : List ℕ → Bool
is_short_name text = nat_le 1 (length text) && nat_le (length text) LONGEST_WORD

-- the name of a snapshot's file
abbrev pub snapshot_of : List ℕ → Option (List ℕ)
snapshot_of text = if is_short_name text then Some text else None

-- how many workers a generated module has
abbrev pub workers_of : List ℕ → Option ℕ
workers_of text = number_of 10 1 MOST_WORKERS text

-- a size of memory in bytes
abbrev pub ram_bytes : RamSize → ℕ
ram_bytes TwoMiB = 0x200000
ram_bytes EightMiB = 0x800000

-- `2` or `8`, in MiB
abbrev pub ram_written : List ℕ → Option RamSize
ram_written text =
    if bytes_eq text (codes "2") then Some TwoMiB
    else if bytes_eq text (codes "8") then Some EightMiB
    else None

-- how much memory the machine has: 2 MiB where it is left out
abbrev pub ram_of : Option (List ℕ) → Option RamSize
ram_of None = Some TwoMiB
ram_of (Some text) = ram_written text

-- a number of 1 to 8 hexadecimal digits
abbrev pub hex_of : List ℕ → Option ℕ
hex_of text = if nat_le (length text) MOST_HEX_DIGITS then number_of 16 0 (2 ^ 32 - 1) text else None

-- a range of 1 to `LONGEST_DUMP` bytes that lies wholly inside RAM of so many bytes
abbrev pub range_of : (size from len : ℕ) → Option DumpRange
range_of size from len =
    if nat_le 1 len && nat_le len LONGEST_DUMP && is_some (range_at size from len)
    then Some (record { from = from; len = len })
    else None

abbrev pub is_colon : ℕ → Bool
is_colon byte = byte == 58

-- `FROM:LEN`: the numbers before and behind the first `:`. No digit is one
abbrev pub dump_of : (size : ℕ) → List ℕ → Option DumpRange
dump_of size text = option_and_then (λ from. option_and_then (λ len. range_of size from len)
    (hex_of (after_first is_colon text))) (hex_of (before_first is_colon text))
