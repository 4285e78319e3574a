-- Which units are refused, and what is given for the others. The limits are this project's own
-- profile.
use Rattle.std.specs.Prelude.{◌≡◌, ℕ, ◌-◌, ◌^◌, ◌≤◌, min, max, nat_lt, ◌||◌, if◌then◌else◌, is_some, Option, Some, None, Result, Ok, Err, List, length, Vec}
use Rattle.std.specs.declared.alloc.Global.{Global}
use Rattle.iop_base.specs.Numbers.{IsHalf, IsWord}
use Rattle.iop_base.specs.Strings.{first_zero}
use Rattle.irx_info.specs.Information.{Information}
use Rattle.iop_asm.specs.Units.{ModuleUnit}
use Rattle.irx_build.specs.declared.building.TheConstants.{SHORTEST_TEXT, LONGEST_NAME, LARGEST_UNIT}
use Rattle.irx_build.specs.declared.build_fault.BuildFault.{BuildFault}
use Rattle.irx_build.specs.declared.build_fault.BuildFault.TheVariants.{Empty, Name, TooLong, Memory}
use Rattle.irx_build.specs.Files.{image_length, entries_size, file_of}

-- how many bytes the image takes in memory, or the relocation entries in the file, whichever is
-- more; a number past 64 bits stands still at their greatest
abbrev pub greater_size : ModuleUnit → ℕ
greater_size unit = min (max (image_length unit) (entries_size unit)) (2 ^ 64 - 1)

-- the first reason to refuse a unit
unfoldable pub refusal : ModuleUnit → Option BuildFault
refusal unit =
    if nat_lt (length unit.text) SHORTEST_TEXT then Some Empty
    else if is_some (first_zero unit.name) || nat_lt LONGEST_NAME (length unit.name) then Some Name
    else if nat_lt LARGEST_UNIT (greater_size unit) then Some (TooLong (greater_size unit))
    else None

-- what holds of a unit that is not refused
pub record IsAccepted (unit : ModuleUnit) : Type 0 where
  pub text : SHORTEST_TEXT ≤ length unit.text
  pub no_zero : first_zero unit.name ≡ None
  pub name : length unit.name ≤ LONGEST_NAME
  pub image : image_length unit ≤ LARGEST_UNIT
  pub entries : entries_size unit ≤ LARGEST_UNIT

-- what is given where nothing is refused
abbrev pub ok_unless : {A : Type 0} → Option BuildFault → A → Result A BuildFault
ok_unless None x = Ok x
ok_unless (Some fault) x = Err fault

-- the file of a unit, or the first reason to refuse it
abbrev pub file_or_refusal : ModuleUnit → Result (List ℕ) BuildFault
file_or_refusal unit = ok_unless (refusal unit) (file_of unit)

-- an answer is what is wanted, unless host memory runs out
abbrev pub Gives : Result (Vec ℕ Global) BuildFault → Result (List ℕ) BuildFault → Type 0
Gives (Ok file) wanted = wanted ≡ Ok file.items
Gives (Err Memory) wanted = Unit {0}
Gives (Err fault) wanted = wanted ≡ Err fault

-- the numbers that a file says of its module have room there
pub record HasNumbers (info : Information) : Type 0 where
  pub version : IsHalf info.version
  pub entry : IsWord info.entry
  pub gp : IsWord info.gp
