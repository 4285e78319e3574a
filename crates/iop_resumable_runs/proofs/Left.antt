-- Modules that are taken one by one, and events that are taken at their ticks, leave fewer.
use Rattle.std.proofs.Common.{ℕ, suc, not, Option, List, [], ◌∷◌, arith}
use Rattle.std.proofs.lemmas.List.Elements.{All-tail}
use Rattle.std.proofs.lemmas.List.Sums.{length-filter, count_by-le-length}
use Rattle.iop_machine.specs.Events.{is_due, left_events}
use Rattle.iop_machine.specs.Modules.{CanBeLeft, ModulesLeft, NamedFile, HasRoom, modules_from, without_first}
use Rattle.iop_machine.specs.ScriptWords.{IsShortName, WordsCanStand}
use Rattle.iop_saved_machine.specs.Loading.{LoadingParts, LoadingIsShort}
use Rattle.iop_saved_machine.specs.declared.begun_module.BegunModule.{BegunModule}
use Rattle.iop_saved_script.specs.Sizes.{FileIsShort}
use Rattle.iop_script.specs.Scripts.{Args, Named}
use Rattle.iop_script.specs.declared.raise.Raise.{Raise}

-- the modules that are left, and the script with its events still to come
abbrev pub parts_left : Option BegunModule → ModulesLeft → List Raise → LoadingParts
parts_left begun left events = record {
  begun = begun;
  next = left.next;
  modules = left.files;
  events = events;
  args = left.args;
  named = left.named;
}

-- the modules can be left, with the script's words, and all lists have room in their counts,
-- whatever module runs
pub record AreLeft (left : ModulesLeft) (events : List Raise) : Type 0 where
  pub modules : CanBeLeft left
  pub words : WordsCanStand left
  pub short : (begun : Option BegunModule) → LoadingIsShort (parts_left begun left events)

module _ (args : List Args) (named : List Named) (next : ℕ) where
  abbrev left_with : List NamedFile → ModulesLeft
  left_with files = record { args = args; named = named; next = next; files = files }

  taken_by : (files : List NamedFile) (events : List Raise) → AreLeft (left_with files) events
      → AreLeft (without_first (left_with files)) events
  taken_by [] events h = h
  taken_by (first ∷ rest) events h = record {
    modules = record {
      some = omega arith;
      few = omega (arith, h.modules.few);
      room = All-tail HasRoom _ (modules_from args named (suc next) rest) h.modules.room;
    };
    words = record {
      numbers = h.words.numbers;
      names = h.words.names;
      short = All-tail IsShortName first rest h.words.short;
    };
    short = λ begun. let short = h.short begun in record {
      modules = omega (arith, short.modules);
      files = All-tail FileIsShort first rest short.files;
      events = short.events;
      args = short.args;
      words = short.words;
      named = short.named;
      named_words = short.named_words;
    };
  }

-- a module is taken
pub module_taken : (left : ModulesLeft) (events : List Raise) → AreLeft left events
    → AreLeft (without_first left) events
module_taken left = taken_by left.args left.named left.next left.files

-- the events that are due are
pub events_taken : (left : ModulesLeft) (events : List Raise) (moment : ℕ) → AreLeft left events
    → AreLeft left (left_events moment events)
events_taken left events moment h =
    let stays = λ (e : Raise). not (is_due moment e) in
    record {
      modules = h.modules;
      words = h.words;
      short = λ begun. let short = h.short begun in record {
        modules = short.modules;
        files = short.files;
        events = omega (
          arith,
          length-filter stays events,
          count_by-le-length stays events,
          short.events,
        );
        args = short.args;
        words = short.words;
        named = short.named;
        named_words = short.named_words;
      };
    }
