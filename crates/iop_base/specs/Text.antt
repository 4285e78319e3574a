-- The text of a trace line: its moment, what happened, a line feed. Addresses and lengths have
-- eight lower-case hexadecimal digits, other numbers are decimal.
use Rattle.std.specs.Prelude.{ℕ, zero, suc, ◌+◌, ◌/◌, ◌%◌, nat_lt, if◌then◌else◌, List, [], ◌∷◌, ◌++◌, codes, decimal, slice_index_or, map}
use Rattle.std.specs.Fmt.{signed_decimal}
use Rattle.iop_base.specs.Numbers.{signed}
use Rattle.iop_base.specs.Strings.{before_zero}
use Rattle.iop_base.specs.declared.libraries.TheConstants.{KERNEL_LIBRARIES}
use Rattle.iop_base.specs.declared.guest_fault.GuestFault.{GuestFault}
use Rattle.iop_base.specs.declared.guest_fault.GuestFault.TheVariants.{Address, Overflow, Reserved, Break, BranchInSlot, Service}
use Rattle.iop_base.specs.declared.stop.Stop.{Stop}
use Rattle.iop_base.specs.declared.stop.Stop.TheVariants.{Quiet, Budget, Fault}
use Rattle.iop_base.specs.declared.kept.Kept.{Kept}
use Rattle.iop_base.specs.declared.kept.Kept.TheVariants.{Resident, Removed, Removable}
use Rattle.iop_base.specs.declared.line.Line.{Line}
use Rattle.iop_base.specs.declared.line.Line.TheVariants.{Load, Refused, Returned, Run, Irq, Alarm, Due, Stub, Unlisted, End}

abbrev pub hex_digit : ℕ → ℕ
hex_digit d = if nat_lt d 10 then 48 + d else 87 + d

-- the last k hexadecimal digits of a number
abbrev pub hex_digits : ℕ → ℕ → List ℕ
hex_digits zero n = []
hex_digits (suc k) n = hex_digits k (n / 16) ++ hex_digit (n % 16) ∷ []

-- a word as an address or a length is written
unfoldable pub hex : ℕ → List ℕ
hex n = hex_digits 8 n

abbrev pub kept_name : Kept → List ℕ
kept_name Resident = codes "resident"
kept_name Removed = codes "removed"
kept_name Removable = codes "removable"

-- the names of the kernel's libraries, by their numbers
abbrev pub library_names : List (List ℕ)
library_names = map before_zero KERNEL_LIBRARIES

-- a number that no library has stands for itself
abbrev pub library_name : ℕ → List ℕ
library_name lib = slice_index_or library_names lib (decimal lib)

abbrev pub fault_name : GuestFault → List ℕ
fault_name Address = codes "address"
fault_name Overflow = codes "overflow"
fault_name Reserved = codes "reserved"
fault_name Break = codes "break"
fault_name BranchInSlot = codes "slot"
fault_name Service = codes "service"

abbrev pub stop_text : Stop → List ℕ
stop_text Quiet = codes "quiet"
stop_text Budget = codes "budget"
stop_text (Fault kind pc) = codes "fault " ++ fault_name kind ++ codes " " ++ hex pc

-- what a line says, between its moment and its end
abbrev pub line_text : Line → List ℕ
line_text (Load k base len) =
    codes "load " ++ decimal k ++ codes " ok " ++ hex base ++ codes " " ++ hex len
line_text (Refused k code) = codes "load " ++ decimal k ++ codes " " ++ signed_decimal code.0
line_text (Returned k value kept) =
    codes "result " ++ decimal k ++ codes " " ++ signed_decimal (signed 32 value) ++ codes " "
    ++ kept_name kept
line_text (Run id) = codes "run " ++ decimal id
line_text (Irq line) = codes "line " ++ decimal line
line_text (Alarm number) = codes "alarm " ++ decimal number
line_text (Due id) = codes "due " ++ decimal id
line_text (Stub at) = codes "stub " ++ hex at
line_text (Unlisted lib index) = codes "service " ++ library_name lib ++ codes " " ++ decimal index
line_text (End stop) = codes "end " ++ stop_text stop

-- the bytes of a line that was given at moment t
unfoldable pub line_bytes : ℕ → Line → List ℕ
line_bytes t line = decimal t ++ codes " " ++ line_text line ++ codes "\n"
