-- With which registers a module begins, and what the argument block says to the module that reads it, as
-- C's `main` is handed its arguments: the words' addresses, of which a word 0 is the end, and each word as a
-- string, of which a zero byte is the end. Where they stand is this project's own profile.
use Rattle.std.specs.Prelude.{◌≡◌, ◌≢◌, All, Contains, ℕ, ◌+◌, ◌*◌, ◌<◌, ◌≤◌, Some, List, [], ◌∷◌, ◌++◌, slice_get, slice_index, length, take, drop}
use Rattle.iop_base.specs.Numbers.{number_at, wrapped}
use Rattle.iop_base.specs.Places.{IsRamSize}
use Rattle.iop_thread.specs.FirstRegisters.{BeginsWith}
use Rattle.iop_modload.specs.declared.loaded.Loaded.{Loaded}
use Rattle.iop_script.specs.Laws.{CanRun}
use Rattle.iop_script.specs.Scripts.{Args, Named, Script, words_for}
use Rattle.iop_machine.specs.declared.arguments.TheConstants.{ARGUMENTS, ARGUMENTS_LEN, LOADER_STACK_TOP, MODULE_RETURN, MOST_WORDS, MOST_WORD_BYTES}
use Rattle.iop_machine.specs.Iop.{Iop}
use Rattle.iop_machine.specs.Loading.{passes}
use Rattle.iop_machine.specs.Modules.{argument_block, strings, module_start}

-- a module begins at its entry with the number of its words, the place of their addresses, its `$gp`, the
-- loader's stack, and the place where a module returns to
abbrev pub ModulesBeginWith : Type 0
ModulesBeginWith =
    (m : Loaded) (words : ℕ)
    → BeginsWith (module_start m words) (wrapped (m.place.base + m.entry)) words ARGUMENTS
    (wrapped (m.place.base + m.gp)) LOADER_STACK_TOP MODULE_RETURN

-- a word and the zero byte that ends it stand at an address of the argument block
pub record HasString (ram : List ℕ) (at : ℕ) (word : List ℕ) : Type 0 where
  pub begins : ARGUMENTS ≤ at
  pub ends : at + length word + 1 ≤ ARGUMENTS + ARGUMENTS_LEN
  pub bytes : take (length word + 1) (drop at ram) ≡ word ++ 0 ∷ []

-- each word stands at its address, a word 0 is behind the last address, and zeros are behind all words
pub record HasWords (ram : List ℕ) (words : List (List ℕ)) : Type 0 where
  pub string : (i : ℕ) (word : List ℕ) → slice_get words i ≡ Some word
      → HasString ram (number_at ram (ARGUMENTS + 4 * i) 4) word
  pub last : number_at ram (ARGUMENTS + 4 * length words) 4 ≡ 0
  pub behind : (k : ℕ) → length (argument_block words) ≤ k → k < ARGUMENTS_LEN
      → slice_index ram (ARGUMENTS + k) ≡ 0

-- words that have room in the argument block are read there, whatever stood in memory
abbrev pub ArgumentsAreRead : Type 0
ArgumentsAreRead =
    (s : Iop) (words : List (List ℕ)) → IsRamSize (length s.memory.ram)
    → length words ≤ MOST_WORDS → length (strings words) ≤ MOST_WORD_BYTES
    → HasWords (passes s (argument_block words)).state.memory.ram words

-- these are the words that a script has for a module of this number and this name
pub record AreWordsOf (script : Script) (number : ℕ) (name : List ℕ) (words : List (List ℕ))
    : Type 0 where
  -- those of its number, also where there are none
  pub by_number : (a : Args) → Contains script.args a → a.number ≡ number → words ≡ a.words
  -- else those of its name
  pub by_name : All (λ a. a.number ≢ number) script.args → (n : Named)
      → Contains script.named n → n.name ≡ name → words ≡ n.words
  -- else none
  pub by_none : All (λ a. a.number ≢ number) script.args → All (λ n. n.name ≢ name) script.named
      → words ≡ []

-- so it is with each script that a machine can run: a number and a name have words once
abbrev pub WordsAreOfModules : Type 0
WordsAreOfModules = (script : Script) → CanRun script → (number : ℕ) (name : List ℕ)
    → AreWordsOf script number name (words_for script.args script.named number name)
