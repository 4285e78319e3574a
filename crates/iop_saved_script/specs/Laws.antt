-- What the laws of the forms, and of scripts that are short, say.
use Rattle.std.specs.Prelude.{◌≡◌, ℕ, ◌+◌, ◌^◌, ◌<◌, true, All, Ok, List, length}
use Rattle.iop_script.specs.Reading.{script_of}
use Rattle.iop_script.specs.Scripts.{Args, Named, Script}
use Rattle.iop_script.specs.declared.raise.Raise.{Raise}
use Rattle.iop_snapshot.specs.Forms.{IsLawful}
use Rattle.iop_saved_script.specs.Files.{NamedFile}
use Rattle.iop_saved_script.specs.Forms.{list_of, event_form, args_form, named_form, file_form}
use Rattle.iop_saved_script.specs.Sizes.{IsShort, ArgsAreShort, NamedIsShort, FileIsShort, ScriptIsShort}

-- what was spelled is read, whatever follows, and what was read is what is spelled
pub record FormsAreLawful : Type 0 where
  pub events : IsLawful (list_of event_form)
  pub args : IsLawful (list_of args_form)
  pub named : IsLawful (list_of named_form)
  pub files : IsLawful (list_of file_form)

-- what has a spelling, as all that was read has, is short enough to be written
pub record FittingIsShort : Type 0 where
  pub events : (events : List Raise) → (list_of event_form).fits events ≡ true → IsShort events
  pub args : (args : List Args) → (list_of args_form).fits args ≡ true
      → IsShort args × All ArgsAreShort args
  pub named : (named : List Named) → (list_of named_form).fits named ≡ true
      → IsShort named × All NamedIsShort named
  pub files : (files : List NamedFile) → (list_of file_form).fits files ≡ true
      → IsShort files × All FileIsShort files

-- the script of a text of fewer than 2^32 - 1 bytes is short enough to be written
abbrev pub ShortTextsGiveShortScripts : Type 0
ShortTextsGiveShortScripts = (text : List ℕ) (script : Script) → length text + 1 < 2 ^ 32
    → script_of text ≡ Ok script → ScriptIsShort script
