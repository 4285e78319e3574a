-- Which words are a command, and what they choose: this project's own profile.
use Rattle.std.specs.Prelude.{◌≡◌, ℕ, ◌≤◌, ◌==◌, nat_le, Bool, true, false, not, ◌&&◌, if◌then◌else◌, Option, Some, None, is_some, option_map, option_and_then, IfSome, All, codes, List, [], length}
use Rattle.std.specs.List.{list_all}
use Rattle.iop_base.specs.declared.limits.TheConstants.{MOST_WORKERS}
use Rattle.iop_options.specs.Parts.{Part, parts_from, unless_repeated, value_of, files_of}
use Rattle.iop_options.specs.Values.{DumpRange, budget_of, script_of, is_short_name, snapshot_of, workers_of, ram_bytes, ram_of, IsInside, dump_of}
use Rattle.iop_options.specs.declared.limits.TheConstants.{MOST_BUDGET, LONGEST_WORD}
use Rattle.iop_options.specs.declared.ram_size.RamSize.{RamSize}
use Rattle.iop_options.specs.declared.ram_size.RamSize.TheVariants.{TwoMiB}
use Rattle.iop_script.specs.declared.statements.TheConstants.{MOST_MODULES}

pub record Command : Type 0 where
  -- how many instructions the run may execute
  pub budget : ℕ
  -- the name of the script's file, if there is one
  pub script : Option (List ℕ)
  -- what is dumped at the end, if something is
  pub dump : Option DumpRange
  -- how much memory the machine has
  pub ram : RamSize
  -- how many workers the generated module has, if one is generated
  pub generate : Option ℕ
  -- the name of the file that a snapshot of the end is written to, if one is
  pub save : Option (List ℕ)
  -- the name of the snapshot's file that the run goes on from, if it does
  pub restore : Option (List ℕ)
  -- the names of the modules' files, in order
  pub modules : List (List ℕ)

abbrev pub are_modules : List (List ℕ) → Bool
are_modules words =
    nat_le 1 (length words) && nat_le (length words) MOST_MODULES && list_all is_short_name words

-- a command names modules, or generates one, or names a snapshot, and does but one of these
abbrev pub has_one_source : (workers : Option ℕ) → (restore : Option (List ℕ)) → List (List ℕ)
    → Bool
has_one_source None None words = are_modules words
has_one_source None (Some name) words = length words == 0
has_one_source (Some workers) None words = length words == 0
has_one_source (Some workers) (Some name) words = false

-- a snapshot has its own script and its own memory: `--script` and `--ram` do not stand beside it
abbrev pub is_unmixed : (restore script ram : Option (List ℕ)) → Bool
is_unmixed None script ram = true
is_unmixed (Some name) script ram = not (is_some script) && not (is_some ram)

-- a value that may be left out
abbrev pub if_given : {A : Type 0} → (List ℕ → Option A) → Option (List ℕ) → Option (Option A)
if_given read None = Some None
if_given read (Some text) = option_map (λ it. Some it) (read text)

-- the command of these values, if none is bad and it has one thing to run
abbrev pub command_with : RamSize → Option ℕ → Option (Option (List ℕ))
    → Option (Option DumpRange) → Option (Option ℕ) → (save restore : Option (Option (List ℕ)))
    → List (List ℕ) → Option Command
command_with ram (Some budget) (Some script) (Some dump) (Some generate) (Some save) (Some restore)
    modules =
    if has_one_source generate restore modules
    then Some (record {
      budget = budget;
      script = script;
      dump = dump;
      ram = ram;
      generate = generate;
      save = save;
      restore = restore;
      modules = modules;
    })
    else None
command_with ram budget script dump generate save restore modules = None

-- the command by the values of its options, as texts, and its files. The dump lies inside memory of
-- the size that is read
abbrev pub command_from : (budget script dump ram generate save restore : Option (List ℕ))
    → List (List ℕ) → Option Command
command_from budget script dump ram generate save restore files =
    if is_unmixed restore script ram then option_and_then
    (λ size. command_with size (budget_of budget) (if_given script_of script)
    (if_given (dump_of (ram_bytes size)) dump) (if_given workers_of generate)
    (if_given snapshot_of save) (if_given snapshot_of restore) files)
    (ram_of ram)
    else None

-- the command that the parts are, if they are one
abbrev pub command_given : List Part → Option Command
command_given parts = command_from (value_of (codes "budget") parts)
    (value_of (codes "script") parts) (value_of (codes "dump") parts)
    (value_of (codes "ram") parts) (value_of (codes "generate") parts)
    (value_of (codes "save") parts) (value_of (codes "restore") parts) (files_of parts)

-- the command that the words are, without the program's name, if they are one
unfoldable pub command_of : List (List ℕ) → Option Command
command_of words =
    option_and_then command_given (option_and_then unless_repeated (parts_from None words))

pub record AreModules (words : List (List ℕ)) : Type 0 where
  pub some : 1 ≤ length words
  pub few : length words ≤ MOST_MODULES
  pub named : All (λ word. 1 ≤ length word) words
  pub short : All (λ word. length word ≤ LONGEST_WORD) words

-- a command has one thing to run: modules, or a generated one, or what a snapshot holds
abbrev pub HasOneSource : (workers : Option ℕ) → (restore : Option (List ℕ)) → List (List ℕ)
    → Type 0
HasOneSource None None words = AreModules words
HasOneSource None (Some name) words = words ≡ []
HasOneSource (Some workers) None words = words ≡ []
HasOneSource (Some workers) (Some name) words = ⊥

pub record IsShortName (name : List ℕ) : Type 0 where
  pub some : 1 ≤ length name
  pub short : length name ≤ LONGEST_WORD

-- what always holds of a command
pub record IsCommand (command : Command) : Type 0 where
  pub budget : command.budget ≤ MOST_BUDGET
  pub script : IfSome command.script (λ name. 1 ≤ length name)
  pub dump : IfSome command.dump (IsInside (ram_bytes command.ram))
  pub workers : IfSome command.generate (λ workers. (1 ≤ workers) × (workers ≤ MOST_WORKERS))
  pub save : IfSome command.save IsShortName
  pub restore : IfSome command.restore IsShortName
  pub source : HasOneSource command.generate command.restore command.modules
  -- the dump of a run that goes on from a snapshot lies in 2 MiB, and the script is the snapshot's
  pub restored : IfSome command.restore
      (λ name. (command.script ≡ None) × (command.ram ≡ TwoMiB))
