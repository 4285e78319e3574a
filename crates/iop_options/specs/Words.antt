-- What a word of the command is by itself: this project's own profile.
use Rattle.std.specs.Prelude.{ℕ, ◌==◌, Bool, if◌then◌else◌, Option, Some, None, codes, List, [], ◌∷◌}
use Rattle.std.specs.List.{list_any, before_first, after_first}
use Rattle.std.specs.Str.{bytes_eq}

pub data Kind : Type 0 where
  -- `--`
  separator : Kind
  -- `--NAME`, or `--NAME=TEXT`
  option : (name : List ℕ) → (text : Option (List ℕ)) → Kind
  -- any other word that begins with `-`, but for `-` alone
  unknown : Kind
  plain : Kind

abbrev pub is_hyphen : ℕ → Bool
is_hyphen byte = byte == 45

abbrev pub is_equals : ℕ → Bool
is_equals byte = byte == 61

-- what stands behind the first `=`, if there is one
abbrev pub attached : List ℕ → Option (List ℕ)
attached text = if list_any is_equals text then Some (after_first is_equals text) else None

-- a word, by what follows its first two bytes `--`
abbrev pub behind_two_hyphens : List ℕ → Kind
behind_two_hyphens [] = separator
behind_two_hyphens (b ∷ rest) = option (before_first is_equals (b ∷ rest)) (attached (b ∷ rest))

-- a word, by what follows its first byte `-`
abbrev pub behind_hyphen : List ℕ → Kind
behind_hyphen [] = plain
behind_hyphen (b ∷ rest) = if is_hyphen b then behind_two_hyphens rest else unknown

abbrev pub kind_of : List ℕ → Kind
kind_of [] = plain
kind_of (b ∷ rest) = if is_hyphen b then behind_hyphen rest else plain

-- each takes one value
abbrev pub option_names : List (List ℕ)
option_names =
    codes "budget" ∷ codes "script" ∷ codes "dump" ∷ codes "ram" ∷ codes "generate"
    ∷ codes "save" ∷ codes "restore" ∷ []

abbrev pub is_option : List ℕ → Bool
is_option name = list_any (λ option. bytes_eq option name) option_names
