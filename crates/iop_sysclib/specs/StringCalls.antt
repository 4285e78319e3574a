-- The calls that work on strings (C99 7.21: strcat, strchr, strcmp, strcpy, strlen, strncmp,
-- strncpy, strrchr; 7.19: sprintf). That a string ends at RAM's end too and is empty outside RAM,
-- that a comparison answers -1, 0 or 1, and which ranges fault, is this project's own profile.
use Rattle.std.specs.Prelude.{ℕ, ◌+◌, ◌-◌, Bool, Option, option_map, position, List, [], ◌∷◌, ◌++◌, length, replicate, reverse, take}
use Rattle.iop_printf.specs.Formatting.{format_text}
use Rattle.iop_printf.specs.Texts.{string_at}
use Rattle.iop_sysclib.specs.Outcomes.{Outcome, writes, address_or_zero}
use Rattle.iop_sysclib.specs.MemoryCalls.{is_byte, compared}

-- a string with the zero byte that ends it
abbrev pub ended : List ℕ → List ℕ
ended string = string ++ 0 ∷ []

-- the last place that passes a test: the first from the end on
abbrev pub last_position : (ℕ → Bool) → List ℕ → Option ℕ
last_position test bytes =
    option_map (λ i. length bytes - 1 - i) (position test (reverse bytes))

-- a string cut or filled up with zeros to a length
abbrev pub filled : ℕ → List ℕ → List ℕ
filled len string = take len (string ++ replicate len 0)

module _ (ram : List ℕ) where
  unfoldable pub strlen : ℕ → ℕ
  strlen at = length (string_at ram at)

  -- the address of the first byte of a string that is the wanted one, its end among them, or 0
  unfoldable pub strchr : (at wanted : ℕ) → ℕ
  strchr at wanted =
      address_or_zero at (position (is_byte wanted) (ended (string_at ram at)))

  -- and of the last one
  unfoldable pub strrchr : (at wanted : ℕ) → ℕ
  strrchr at wanted =
      address_or_zero at (last_position (is_byte wanted) (ended (string_at ram at)))

  unfoldable pub strcmp : (a b : ℕ) → ℕ
  strcmp a b = compared (ended (string_at ram a)) (ended (string_at ram b))

  -- of at most so many bytes
  unfoldable pub strncmp : (a b most : ℕ) → ℕ
  strncmp a b most =
      compared (take most (ended (string_at ram a))) (take most (ended (string_at ram b)))

  unfoldable pub strcpy : (to from : ℕ) → Option Outcome
  strcpy to from = writes ram to (ended (string_at ram from)) to

  unfoldable pub strcat : (to from : ℕ) → Option Outcome
  strcat to from =
      writes ram (to + length (string_at ram to)) (ended (string_at ram from)) to

  unfoldable pub strncpy : (to from len : ℕ) → Option Outcome
  strncpy to from len = writes ram to (filled len (string_at ram from)) to

  -- the text of a format, whose arguments are registers and go on in the words from 16(`sp`) on
  unfoldable pub sprintf : (to format : ℕ) (registers : List ℕ) (sp : ℕ) → Option Outcome
  sprintf to format registers sp =
      let text = format_text ram format registers sp in writes ram to (ended text) (length text)
