-- Whether the words for modules, and the names of those that are left, can be those of a machine
-- that was put back. This project's own profile.
use Rattle.std.specs.Prelude.{◌≢◌, ℕ, ◌==◌, ◌≤◌, nat_le, Bool, true, ◌&&◌, not, List, [], ◌∷◌, length, All, AllPairs}
use Rattle.std.specs.List.{list_all, list_any}
use Rattle.std.specs.Str.{bytes_eq}
use Rattle.iop_saved_machine.specs.Loading.{LoadingParts}
use Rattle.iop_script.specs.Scripts.{Args, Named}
use Rattle.iop_machine.specs.Modules.{ModulesLeft, NamedFile}
use Rattle.iop_machine.specs.declared.script_words.TheConstants.{LONGEST_NAME}

-- whether some of these words are for the module of a number
abbrev pub has_number : (number : ℕ) → List Args → Bool
has_number number args = list_any (λ a. a.number == number) args

-- whether no two are for one
abbrev pub numbers_differ : List Args → Bool
numbers_differ [] = true
numbers_differ (a ∷ args) = not (has_number a.number args) && numbers_differ args

-- whether some of these words are for a name
abbrev pub has_name : (name : List ℕ) → List Named → Bool
has_name name named = list_any (λ n. bytes_eq n.name name) named

-- whether no two are for one
abbrev pub names_differ : List Named → Bool
names_differ [] = true
names_differ (n ∷ named) = not (has_name n.name named) && names_differ named

-- whether the name of a module is not too long
abbrev pub has_short_name : NamedFile → Bool
has_short_name named = nat_le (length named.name) LONGEST_NAME

-- and that it is not
abbrev pub IsShortName : NamedFile → Type 0
IsShortName named = length named.name ≤ LONGEST_NAME

-- whether there is one list of words at most for each number of a module and each name, and no
-- module that is left has a name that is too long
abbrev pub words_may_stand : LoadingParts → Bool
words_may_stand p =
    numbers_differ p.args && names_differ p.named && list_all has_short_name p.modules

-- the same, said without a search
pub record WordsCanStand (left : ModulesLeft) : Type 0 where
  pub numbers : AllPairs (λ a b. a.number ≢ b.number) left.args
  pub names : AllPairs (λ m n. m.name ≢ n.name) left.named
  pub short : All IsShortName left.files
