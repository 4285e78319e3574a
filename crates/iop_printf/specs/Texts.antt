-- The texts of conversions: this project's profile, after printf of C.
use Rattle.std.specs.Prelude.{ℕ, ◌-◌, ◌%◌, ◌^◌, ◌==◌, nat_lt, true, false, not, ◌&&◌, if◌then◌else◌, Option, unwrap_or, codes, decimal, List, [], ◌∷◌, ◌++◌, length, take, drop, replicate}
use Rattle.std.specs.Fmt.{digits}
use Rattle.std.specs.Option.{option_map_or}
use Rattle.iop_base.specs.Places.{phys}
use Rattle.iop_base.specs.Strings.{before_zero}
use Rattle.iop_base.specs.Text.{hex}
use Rattle.iop_printf.specs.Conversions.{percent, minus, zero_digit}
use Rattle.iop_printf.specs.declared.conversion.Conversion.{Conversion}
use Rattle.iop_printf.specs.declared.letter.Letter.{Letter}
use Rattle.iop_printf.specs.declared.letter.Letter.TheVariants.{Number, Character, Text, Percent}
use Rattle.iop_printf.specs.declared.notation.Notation.{Notation}
use Rattle.iop_printf.specs.declared.notation.Notation.TheVariants.{Signed, Unsigned, Octal, LowerHex, UpperHex, Pointer}

-- the string at an address: it ends before a zero byte or at RAM's end, and there is none outside RAM
unfoldable pub string_at : List ℕ → ℕ → List ℕ
string_at ram at =
    option_map_or (λ place. before_zero (drop place ram)) (phys (length ram) at) []

-- the string of a conversion; address 0 has a text of its own
unfoldable pub string_or_null : List ℕ → ℕ → List ℕ
string_or_null ram at = if at == 0 then codes "(null)" else string_at ram at

-- how far a word is from 0, as a signed number
abbrev pub magnitude : ℕ → ℕ
magnitude n = if nat_lt n (2 ^ 31) then n else 2 ^ 32 - n

-- the digits of a word, without a sign
unfoldable pub digits_of : Notation → ℕ → List ℕ
digits_of Signed n = decimal (magnitude n)
digits_of Unsigned n = decimal n
digits_of Octal n = digits 8 false n
digits_of LowerHex n = digits 16 false n
digits_of UpperHex n = digits 16 true n
digits_of Pointer n = hex n

-- `-` before a negative number
abbrev pub sign_of : Notation → ℕ → List ℕ
sign_of Signed n = if nat_lt n (2 ^ 31) then [] else minus ∷ []
sign_of notation n = []

-- how many digits a number has at least: its precision, or, with flag `0`, as many as fill the width
abbrev pub least_digits : Conversion → List ℕ → ℕ
least_digits c sign =
    unwrap_or c.precision (if c.zeros && not c.left then c.width - length sign else 0)

-- a number with its sign: zeros fill it up behind the sign
abbrev pub number_text : Conversion → List ℕ → List ℕ → List ℕ
number_text c sign numeral =
    sign ++ replicate (least_digits c sign - length numeral) zero_digit ++ numeral

-- spaces fill a text up to the width, on the left or on the right
abbrev pub padded : Conversion → List ℕ → List ℕ
padded c text =
    if c.left
    then text ++ replicate (c.width - length text) 0x20
    else replicate (c.width - length text) 0x20 ++ text

-- the front of a string that is no longer than a precision
abbrev pub string_front : Option ℕ → List ℕ → List ℕ
string_front precision string = option_map_or (λ most. take most string) precision string

-- what a letter prints of a word
abbrev pub letter_text : List ℕ → Conversion → Letter → ℕ → List ℕ
letter_text ram c (Number notation) n =
    padded c (number_text c (sign_of notation n) (digits_of notation n))
letter_text ram c Character n = padded c (n % 256 ∷ [])
letter_text ram c Text n = padded c (string_front c.precision (string_or_null ram n))
letter_text ram c Percent n = percent ∷ []

-- the text of a conversion: one without a letter is printed as it was read
unfoldable pub conversion_text : List ℕ → Conversion → List ℕ → ℕ → List ℕ
conversion_text ram c read n =
    option_map_or (λ letter. letter_text ram c letter n) c.letter (percent ∷ read)

-- how many arguments a letter takes
abbrev pub letter_arguments : Letter → ℕ
letter_arguments Percent = 0
letter_arguments letter = 1

abbrev pub conversion_arguments : Conversion → ℕ
conversion_arguments c = option_map_or letter_arguments c.letter 0
