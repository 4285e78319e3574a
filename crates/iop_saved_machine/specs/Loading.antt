-- How the modules that are still to be loaded, and what is still to come of the script, are
-- spelled. This project's own profile.
use Rattle.std.specs.Prelude.{ℕ, Option, Some, All, List, [], ◌∷◌, slice_index}
use Rattle.iop_script.specs.Scripts.{Args, Named}
use Rattle.iop_script.specs.declared.raise.Raise.{Raise}
use Rattle.iop_saved_script.specs.Files.{NamedFile}
use Rattle.iop_saved_script.specs.Forms.{list_of, event_form, args_form, named_form, file_form}
use Rattle.iop_saved_script.specs.Sizes.{IsShort, ArgsAreShort, NamedIsShort, FileIsShort}
use Rattle.iop_snapshot.specs.Forms.{Form, item, both, seen_as}
use Rattle.iop_snapshot.specs.declared.widths.TheConstants.{NEXT_MODULE}
use Rattle.iop_saved_machine.specs.BegunModules.{begun_form}
use Rattle.iop_saved_machine.specs.declared.begun_module.BegunModule.{BegunModule}

-- the number of the module that is loaded next
unfoldable pub next_module_form : Form ℕ
next_module_form =
    seen_as (item NEXT_MODULE) (λ numbers. Some (slice_index numbers 0)) (λ next. next ∷ [])

pub record LoadingParts : Type 0 where
  -- the module that the loader's thread begins or runs, if there is one
  pub begun : Option BegunModule
  -- the number of the module that is loaded next
  pub next : ℕ
  -- the modules that were not loaded yet, in order
  pub modules : List NamedFile
  -- the events that are still to come, in order
  pub events : List Raise
  -- the words for modules by their numbers, and those by their names
  pub args : List Args
  pub named : List Named

-- the same, one behind the other
abbrev pub LoadingNest : Type 0
LoadingNest =
    Option BegunModule × (ℕ × (List NamedFile × (List Raise × (List Args × List Named))))

abbrev pub loading_with : LoadingNest → LoadingParts
loading_with nest = record {
  begun = nest.0;
  next = nest.1.0;
  modules = nest.1.1.0;
  events = nest.1.1.1.0;
  args = nest.1.1.1.1.0;
  named = nest.1.1.1.1.1;
}

abbrev pub loading_nest_of : LoadingParts → LoadingNest
loading_nest_of p = (p.begun, (p.next, (p.modules, (p.events, (p.args, p.named)))))

abbrev pub loading_nest : Form LoadingNest
loading_nest =
    both begun_form (λ _. both next_module_form (λ _. both (list_of file_form)
    (λ _. both (list_of event_form) (λ _. both (list_of args_form)
    (λ _. list_of named_form)))))

unfoldable pub loading_form : Form LoadingParts
loading_form = seen_as loading_nest (λ nest. Some (loading_with nest)) loading_nest_of

-- the lists have room in their counts
pub record LoadingIsShort (p : LoadingParts) : Type 0 where
  pub modules : IsShort p.modules
  pub files : All FileIsShort p.modules
  pub events : IsShort p.events
  pub args : IsShort p.args
  pub words : All ArgsAreShort p.args
  pub named : IsShort p.named
  pub named_words : All NamedIsShort p.named
