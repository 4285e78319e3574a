-- What the words of the command give, in order: this project's own profile. The words are read one
-- after the other, and an option may wait for its value.
use Rattle.std.specs.Prelude.{ℕ, nat_le, Bool, if◌then◌else◌, Option, Some, None, option_map, List, [], ◌∷◌, map, length, slice_get}
use Rattle.std.specs.List.{list_all}
use Rattle.std.specs.Str.{bytes_eq}
use Rattle.iop_options.specs.Words.{Kind, separator, option, unknown, plain, kind_of, option_names, is_option}

pub data Part : Type 0 where
  -- an option's value
  value : (name text : List ℕ) → Part
  -- the file of a module
  file : List ℕ → Part

-- a part, and those that others give, if they are good
abbrev pub part_before : Part → Option (List Part) → Option (List Part)
part_before part parts = option_map (λ behind. part ∷ behind) parts

-- an option with its value, or one that waits for it
abbrev pub option_given : (name : List ℕ) → Option (List ℕ)
    → (Option (List ℕ) → Option (List Part)) → Option (List Part)
option_given name None next = next (Some name)
option_given name (Some text) next = part_before (value name text) (next None)

-- a word where no option waits. `next` is what the words behind it give, by what waits there
abbrev pub word_given : Kind → (word : List ℕ) → (behind : List (List ℕ))
    → (next : Option (List ℕ) → Option (List Part)) → Option (List Part)
word_given separator word behind next = Some (map file behind)
word_given (option name text) word behind next =
    if is_option name then option_given name text next else None
word_given unknown word behind next = None
word_given plain word behind next = part_before (file word) (next None)

-- a word where an option waits: its value, if the word can be one
abbrev pub value_given : (name : List ℕ) → Kind → (word : List ℕ)
    → (next : Option (List ℕ) → Option (List Part)) → Option (List Part)
value_given name plain word next = part_before (value name word) (next None)
value_given name separator word next = None
value_given name (option other text) word next = None
value_given name unknown word next = None

-- what words give, by the option that waits for its value, if one does
unfoldable pub parts_from : (waiting : Option (List ℕ)) → List (List ℕ) → Option (List Part)
parts_from None [] = Some []
parts_from (Some name) [] = None
parts_from None (word ∷ behind) =
    word_given (kind_of word) word behind (λ waiting. parts_from waiting behind)
parts_from (Some name) (word ∷ behind) =
    value_given name (kind_of word) word (λ waiting. parts_from waiting behind)

-- the values of an option, in order
abbrev pub values_of : (name : List ℕ) → List Part → List (List ℕ)
values_of name [] = []
values_of name (value other text ∷ rest) =
    if bytes_eq other name then text ∷ values_of name rest else values_of name rest
values_of name (file word ∷ rest) = values_of name rest

-- the files of modules, in order
abbrev pub files_of : List Part → List (List ℕ)
files_of [] = []
files_of (value name text ∷ rest) = files_of rest
files_of (file word ∷ rest) = word ∷ files_of rest

-- each option stands at most once
abbrev pub has_no_repeats : List Part → Bool
has_no_repeats parts = list_all (λ name. nat_le (length (values_of name parts)) 1) option_names

-- what the words give, if they are good and no option stands twice
abbrev pub unless_repeated : List Part → Option (List Part)
unless_repeated parts = if has_no_repeats parts then Some parts else None

-- the value of an option, if it is given
abbrev pub value_of : (name : List ℕ) → List Part → Option (List ℕ)
value_of name parts = slice_get (values_of name parts) 0
