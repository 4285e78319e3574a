-- Lists whose lengths have room in their counts: this project's own profile.
use Rattle.std.specs.Prelude.{ℕ, ◌<◌, ◌^◌, All, List, length}
use Rattle.iop_script.specs.Scripts.{Args, Named, Script}
use Rattle.iop_saved_script.specs.Files.{NamedFile}

abbrev pub IsShort : {X : Type 0} → List X → Type 0
IsShort xs = length xs < 2 ^ 32

-- words, and each of them
pub record WordsAreShort (words : List (List ℕ)) : Type 0 where
  pub all : IsShort words
  pub each : All IsShort words

abbrev pub ArgsAreShort : Args → Type 0
ArgsAreShort args = WordsAreShort args.words

pub record NamedIsShort (named : Named) : Type 0 where
  pub name : IsShort named.name
  pub words : WordsAreShort named.words

pub record FileIsShort (named : NamedFile) : Type 0 where
  pub name : IsShort named.name
  pub file : IsShort named.file

-- the lists of a script, and those in them
pub record ScriptIsShort (script : Script) : Type 0 where
  pub events : IsShort script.events
  pub args : IsShort script.args
  pub words : All ArgsAreShort script.args
  pub named : IsShort script.named
  pub named_words : All NamedIsShort script.named
