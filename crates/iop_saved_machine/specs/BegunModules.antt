-- How the module that the loader's thread begins or runs is spelled. This project's own profile.
use Rattle.std.specs.Prelude.{ℕ, Bool, Option, Some, is_some, List, [], ◌∷◌, slice_index}
use Rattle.iop_base.specs.Numbers.{one_if}
use Rattle.iop_snapshot.specs.Flags.{flag_of}
use Rattle.iop_snapshot.specs.Forms.{Form, item, both, seen_as, present}
use Rattle.iop_snapshot.specs.declared.widths.TheConstants.{MODULE_PRESENT, MODULE}
use Rattle.iop_saved_machine.specs.declared.begun_module.BegunModule.{BegunModule}

-- whether there is a module
abbrev pub flag_numbers : Bool → List ℕ
flag_numbers there = one_if there ∷ []

abbrev pub flag_in : List ℕ → Option Bool
flag_in numbers = flag_of (slice_index numbers 0)

unfoldable pub flag_form : Form Bool
flag_form = seen_as (item MODULE_PRESENT) flag_in flag_numbers

-- a module: its number, and where its image stands
abbrev pub begun_numbers : BegunModule → List ℕ
begun_numbers m = m.number ∷ m.place.base ∷ m.place.len ∷ []

abbrev pub begun_of : List ℕ → Option BegunModule
begun_of numbers = Some (record {
  number = slice_index numbers 0;
  place = record { base = slice_index numbers 1; len = slice_index numbers 2 };
})

unfoldable pub module_form : Form BegunModule
module_form = seen_as (item MODULE) begun_of begun_numbers

-- whether there is one, and where there is, that one
abbrev pub begun_nest : Form (Bool × Option BegunModule)
begun_nest = both flag_form (λ there. present there module_form)

abbrev pub flagged : Option BegunModule → Bool × Option BegunModule
flagged begun = (is_some begun, begun)

unfoldable pub begun_form : Form (Option BegunModule)
begun_form = seen_as begun_nest (λ parts. Some parts.1) flagged
