-- The modules of a command, and what the kernel hands each of them. How many there can be, and how much
-- they are handed, is this project's own profile.
use Rattle.std.specs.Prelude.{ℕ, suc, ◌+◌, ◌*◌, ◌≤◌, List, [], ◌∷◌, ◌++◌, length, drop, All}
use Rattle.iop_base.specs.Numbers.{wrapped, bytes_of}
use Rattle.iop_exec.specs.declared.cpu.Cpu.{Cpu}
use Rattle.iop_exec.specs.Row.{with_reg}
use Rattle.iop_thread.specs.States.{zeroed_at}
use Rattle.iop_modload.specs.declared.limits.TheConstants.{LONGEST_FILE}
use Rattle.iop_modload.specs.declared.loaded.Loaded.{Loaded}
use Rattle.iop_script.specs.Scripts.{Args, Named, Script, words_for}
use Rattle.iop_script.specs.declared.statements.TheConstants.{MOST_MODULES}
pub use Rattle.iop_saved_script.specs.Files.{NamedFile}
use Rattle.iop_machine.specs.declared.arguments.TheConstants.{ARGUMENTS, LOADER_STACK_TOP, MODULE_RETURN, MOST_WORDS, MOST_WORD_BYTES}

-- a module that was not loaded yet
pub record Module : Type 0 where
  -- its number, from 1 on
  pub number : ℕ
  -- the words that it is handed: its own word of the command line, and then those of the script
  pub words : List (List ℕ)
  -- the bytes of its file
  pub file : List ℕ

-- the modules of these files, numbered from a number on
abbrev pub modules_from : List Args → List Named → ℕ → List NamedFile → List Module
modules_from args named number [] = []
modules_from args named number (first ∷ rest) =
    record {
      number = number;
      words = first.name ∷ words_for args named number first.name;
      file = first.file;
    }
    ∷ modules_from args named (suc number) rest

-- the modules that were not loaded yet
pub record ModulesLeft : Type 0 where
  -- the script's words for modules by their numbers: in a run they stay as they are
  pub args : List Args
  -- those for modules by their names, which stay, too
  pub named : List Named
  -- the number of the first module that is left
  pub next : ℕ
  -- the modules that are left, in order, as the command names them
  pub files : List NamedFile

-- each with its number and with the words that it is handed
abbrev pub modules_of : ModulesLeft → List Module
modules_of left = modules_from left.args left.named left.next left.files

-- these modules and this script, where none was loaded: their numbers begin at 1
abbrev pub none_loaded : Script → List NamedFile → ModulesLeft
none_loaded script files =
    record { args = script.args; named = script.named; next = 1; files = files }

-- the number behind that of the first of these modules: where there is none, the same
abbrev pub next_behind : ℕ → List NamedFile → ℕ
next_behind next [] = next
next_behind next (first ∷ rest) = suc next

-- the first module is taken out, where one is left
abbrev pub without_first : ModulesLeft → ModulesLeft
without_first left = record left {
  next = next_behind left.next left.files;
  files = drop 1 left.files;
}

-- the address of each word, the words standing one after the other from an address on
abbrev pub addresses : ℕ → List (List ℕ) → List ℕ
addresses at [] = []
addresses at (word ∷ words) = bytes_of 4 at ++ addresses (at + length word + 1) words

-- the words, each ended by a zero byte
abbrev pub strings : List (List ℕ) → List ℕ
strings [] = []
strings (word ∷ words) = word ++ 0 ∷ strings words

-- the words' addresses, a word 0, and the words
unfoldable pub argument_block : List (List ℕ) → List ℕ
argument_block words =
    addresses (ARGUMENTS + 4 * (length words + 1)) words ++ bytes_of 4 0 ++ strings words

-- a module of a machine: its file is not too long, and its words have room in the argument block
pub record HasRoom (m : Module) : Type 0 where
  pub file : length m.file ≤ LONGEST_FILE
  pub words : length m.words ≤ MOST_WORDS
  pub strings : length (strings m.words) ≤ MOST_WORD_BYTES

-- modules that can be left: their numbers are some, and each has room
pub record CanBeLeft (left : ModulesLeft) : Type 0 where
  pub some : 1 ≤ left.next
  pub few : left.next + length left.files ≤ MOST_MODULES + 1
  pub room : All HasRoom (modules_of left)

-- the loader's thread as a module begins that is handed so many words: `$a0`, how many; `$a1`, where they
-- stand; `$gp`; the loader's stack in `$sp`; and the module's return in `$ra`. The registers are those of the
-- MIPS calling convention O32.
unfoldable pub module_start : Loaded → (words : ℕ) → Cpu
module_start m words =
    with_reg (with_reg (with_reg
    (with_reg (with_reg (zeroed_at (wrapped (m.place.base + m.entry))) 4 words) 5 ARGUMENTS) 28
    (wrapped (m.place.base + m.gp))) 29 LOADER_STACK_TOP) 31 MODULE_RETURN
