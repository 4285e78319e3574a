-- What may be changed in the words of a command without changing the command, and what a size of
-- memory says.
use Rattle.std.specs.Prelude.{◌≡◌, ℕ, ◌*◌, ◌^◌, ◌≤◌, true, false, Bool, not, Some, None, is_some, codes, List, [], ◌∷◌, ◌++◌, length}
use Rattle.std.specs.List.{list_all, list_any}
use Rattle.std.specs.Str.{bytes_eq}
use Rattle.iop_options.specs.Words.{is_hyphen, is_equals}
use Rattle.iop_options.specs.Parts.{parts_from}
use Rattle.iop_options.specs.Commands.{command_of}
use Rattle.iop_options.specs.Numbers.{number_of}
use Rattle.iop_options.specs.Values.{ram_bytes, ram_of}
use Rattle.iop_options.specs.declared.ram_size.RamSize.{RamSize}

-- `--NAME`
abbrev pub option_word : (name : List ℕ) → List ℕ
option_word name = codes "--" ++ name

-- `--NAME=TEXT`: the byte 61 is `=`
abbrev pub joined_word : (name text : List ℕ) → List ℕ
joined_word name text = codes "--" ++ (name ++ 61 ∷ text)

-- a name has one byte at least, and no `=`
pub record IsName (name : List ℕ) : Type 0 where
  pub some : 1 ≤ length name
  pub cut : list_any is_equals name ≡ false

-- a word that does not begin with `-`, or is `-` alone
abbrev pub is_plain : List ℕ → Bool
is_plain [] = true
is_plain (only ∷ []) = true
is_plain (first ∷ second ∷ rest) = not (is_hyphen first)

-- words behind which an option or a module may stand: they are good, none of them is `--`, and no
-- option waits for its value
pub record IsFront (words : List (List ℕ)) : Type 0 where
  pub good : is_some (parts_from None words) ≡ true
  pub free : list_all (λ word. not (bytes_eq word (codes "--"))) words ≡ true

pub record MayBeWrittenOtherwise (before : List (List ℕ)) : Type 0 where
  -- an option with its value may stand in front of the words before it
  pub moved : (name text : List ℕ) (behind : List (List ℕ)) → IsName name →
      command_of (before ++ joined_word name text ∷ behind)
      ≡ command_of (joined_word name text ∷ before ++ behind)
  -- a value may be the next word, or stand behind `=` in the option's
  pub joined : (name text : List ℕ) (behind : List (List ℕ)) → IsName name →
      is_plain text ≡ true →
      command_of (before ++ option_word name ∷ text ∷ behind)
      ≡ command_of (before ++ joined_word name text ∷ behind)
  -- `--` may be left out where no module behind it begins with `-`
  pub separated : (modules : List (List ℕ)) → list_all is_plain modules ≡ true →
      command_of (before ++ codes "--" ∷ modules) ≡ command_of (before ++ modules)

abbrev pub CommandsMayBeWrittenOtherwise : Type 0
CommandsMayBeWrittenOtherwise =
    (before : List (List ℕ)) → IsFront before → MayBeWrittenOtherwise before

-- the value of `--ram` is the number of MiB that memory has, in decimal, 2 to 8
pub record SizesAreMebibytes : Type 0 where
  pub written : (text : List ℕ) (size : RamSize) → ram_of (Some text) ≡ Some size
      → (mebibytes : ℕ) × (number_of 10 2 8 text ≡ Some mebibytes)
      × (ram_bytes size ≡ mebibytes * 2 ^ 20)
  -- they are 2 where it is left out
  pub left_out : (size : RamSize) → ram_of None ≡ Some size → ram_bytes size ≡ 2 * 2 ^ 20
