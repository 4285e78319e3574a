-- What a script says of a run: this project's own profile.
use Rattle.std.specs.Prelude.{ℕ, ◌==◌, Option, option_map, unwrap_or, List, [], find}
use Rattle.std.specs.Option.{option_or}
use Rattle.std.specs.Str.{bytes_eq}
use Rattle.iop_script.specs.declared.raise.Raise.{Raise}

-- the words that a module is handed behind its own
pub record Args : Type 0 where
  -- the module's number, from 1 on
  pub number : ℕ
  pub words : List (List ℕ)

-- the words that a module of a name is handed behind its own
pub record Named : Type 0 where
  pub name : List ℕ
  pub words : List (List ℕ)

pub record Script : Type 0 where
  -- the interrupt lines that are raised or lowered, in the order of their moments
  pub events : List Raise
  pub args : List Args
  pub named : List Named

-- the words for the module of a number, if there are some
abbrev pub words_of_number : List Args → ℕ → Option (List (List ℕ))
words_of_number args number = option_map (λ a. a.words) (find (λ a. a.number == number) args)

-- the words for a name, if there are some
abbrev pub words_of_name : List Named → List ℕ → Option (List (List ℕ))
words_of_name named name = option_map (λ n. n.words) (find (λ n. bytes_eq n.name name) named)

-- the words for a module: those of its number, else those of its name, else none
abbrev pub words_for : List Args → List Named → ℕ → List ℕ → List (List ℕ)
words_for args named number name =
    unwrap_or (option_or (words_of_number args number) (words_of_name named name)) []
