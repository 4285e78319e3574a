-- The modules that were not loaded yet, as the program holds them.
use Rattle.std.specs.Prelude.{◌+◌, ◌≤◌, List, ◌∷◌, drop, length, All}
use Rattle.iop_saved_script.specs.Sizes.{IsShort, ArgsAreShort, NamedIsShort, FileIsShort}
use Rattle.iop_script.specs.Scripts.{Args, Named}
use Rattle.iop_script.specs.declared.statements.TheConstants.{MOST_MODULES}
use Rattle.iop_machine.specs.Modules.{NamedFile, Module, ModulesLeft, HasRoom, modules_of}
use Rattle.iop_machine.specs.declared.modules_left.ModulesLeft.TheInside.{Inside}
use Rattle.iop_machine.specs.declared.modules_left.Next.{Next}

abbrev pub module_of : Next → Module
module_of next = record {
  number = next.number;
  words = next.name.now ∷ next.words.now;
  file = next.file.now;
}

abbrev pub modules_left : Inside → ModulesLeft
modules_left w = record {
  args = w.args.items;
  named = w.named.items;
  next = w.first_number + w.taken;
  files = drop w.taken w.modules.items;
}

-- the script's words for modules have room in the counts of a snapshot
pub record ArgsHaveCounts (args : List Args) : Type 0 where
  pub all : IsShort args
  pub each : All ArgsAreShort args

pub record NamedHaveCounts (named : List Named) : Type 0 where
  pub all : IsShort named
  pub each : All NamedIsShort named

-- and so have modules
pub record FilesHaveCounts (files : List NamedFile) : Type 0 where
  pub all : IsShort files
  pub each : All FileIsShort files

-- what always holds of them
pub record AreLeft (w : Inside) : Type 0 where
  -- each module that is left has room
  pub room : All HasRoom (modules_of (modules_left w))
  -- the script's words are few enough to be counted
  pub args : ArgsHaveCounts w.args.items
  pub named : NamedHaveCounts w.named.items
  -- numbers begin at 1
  pub some : 1 ≤ w.first_number
  -- no module has a number behind the last one that there is
  pub few : w.first_number + length w.modules.items ≤ MOST_MODULES + 1
  -- no more were taken than there were
  pub taken : w.taken ≤ length w.modules.items
