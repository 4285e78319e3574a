-- What the laws of formatted text say.
use Rattle.std.specs.Prelude.{◌≡◌, ◌≢◌, ℕ, ◌^◌, ◌<◌, ◌≤◌, ◌==◌, min, max, Bool, true, false, not, ◌&&◌, ◌+◌, Option, Some, is_none, option_map, unwrap_or, List, [], ◌∷◌, ◌++◌, length, take, drop, replicate}
use Rattle.std.specs.Char.{is_ascii_digit, is_ascii_lowercase, is_ascii_uppercase}
use Rattle.std.specs.Fmt.{signed_decimal}
use Rattle.std.specs.List.{list_all, list_any}
use Rattle.std.specs.Option.{option_map_or}
use Rattle.std.specs.Str.Parse.{IsNumeral, digits_value}
use Rattle.iop_base.specs.Numbers.{signed}
use Rattle.iop_printf.specs.Arguments.{Arguments, word_or_zero, argument}
use Rattle.iop_printf.specs.Conversions.{percent, minus, zero_digit, is_flag, is_size, letter_of, conversion_at}
use Rattle.iop_printf.specs.Formatting.{text_from, format_text}
use Rattle.iop_printf.specs.Texts.{string_at, digits_of, sign_of, letter_text, conversion_text, conversion_arguments}
use Rattle.iop_printf.specs.declared.TheConstants.{LONGEST}
use Rattle.iop_printf.specs.declared.conversion.Conversion.{Conversion}
use Rattle.iop_printf.specs.declared.letter.Letter.{Letter}
use Rattle.iop_printf.specs.declared.letter.Letter.TheVariants.{Number, Percent}
use Rattle.iop_printf.specs.declared.notation.Notation.{Notation}
use Rattle.iop_printf.specs.declared.notation.Notation.TheVariants.{Signed, Unsigned, Octal, LowerHex, UpperHex, Pointer}

abbrev pub TextsAreShort : Type 0
TextsAreShort =
    (ram : List ℕ) (fmt : ℕ) (registers : List ℕ) (sp : ℕ)
    → length (format_text ram fmt registers sp) ≤ LONGEST

abbrev pub PlainFormatsStay : Type 0
PlainFormatsStay =
    (ram : List ℕ) (fmt : ℕ) (registers : List ℕ) (sp : ℕ)
    → list_all (λ b. not (b == percent)) (string_at ram fmt) ≡ true
    → format_text ram fmt registers sp ≡ take LONGEST (string_at ram fmt)

-- what a conversion prints whose `%` stands before these bytes, and what is printed of those behind it
abbrev pub text_behind_percent : List ℕ → Arguments → (taken : ℕ) → List ℕ → List ℕ
text_behind_percent ram arguments taken rest =
    let c = conversion_at rest in
    conversion_text ram c (take c.len rest) (argument ram arguments taken)
    ++ text_from ram arguments (taken + conversion_arguments c) 0 (drop c.len rest)

abbrev pub FormatsGoOn : Type 0
FormatsGoOn =
    (ram : List ℕ) (arguments : Arguments) (taken : ℕ) (plain rest : List ℕ)
    → list_all (λ b. not (b == percent)) plain ≡ true
    → text_from ram arguments taken 0 (plain ++ percent ∷ rest)
    ≡ plain ++ text_behind_percent ram arguments taken rest

-- the first word on the stack may as well stand in one more register, behind the others
abbrev pub StackFollowsRegisters : Type 0
StackFollowsRegisters =
    (ram : List ℕ) (fmt : ℕ) (registers : List ℕ) (register sp : ℕ)
    → word_or_zero ram (sp + 16) ≡ register
    → format_text ram fmt (registers ++ register ∷ []) (sp + 4) ≡ format_text ram fmt registers sp

-- the parts of a conversion, as they stand behind its `%`: flags, the digits of a width, those
-- behind a point if there is one, sizes, and the byte of a letter
pub record Parts : Type 0 where
  pub flags : List ℕ
  pub width : List ℕ
  pub precision : Option (List ℕ)
  pub sizes : List ℕ
  pub byte : ℕ

abbrev pub parts_text : Parts → List ℕ
parts_text parts =
    parts.flags ++ parts.width ++ option_map_or (λ digits. 0x2E ∷ digits) parts.precision []
    ++ parts.sizes ++ parts.byte ∷ []

-- each part is of its kind; a width that began with `0` would begin with a flag
pub record AreParts (parts : Parts) (kind : Letter) : Type 0 where
  pub flags : list_all is_flag parts.flags ≡ true
  pub width : list_all is_ascii_digit parts.width ≡ true
  pub width_begins : take 1 parts.width ≢ zero_digit ∷ []
  pub precision : list_all is_ascii_digit (unwrap_or parts.precision []) ≡ true
  pub sizes : list_all is_size parts.sizes ≡ true
  pub letter : letter_of parts.byte ≡ Some kind

-- the value of digits; a greater one than 4,096 counts as that
abbrev pub cut_value : List ℕ → ℕ
cut_value digits = min LONGEST (digits_value 10 digits)

-- the conversion of these parts
pub record IsConversion (parts : Parts) (kind : Letter) (c : Conversion) : Type 0 where
  pub left : c.left ≡ list_any (λ b. b == minus) parts.flags
  pub zeros : c.zeros ≡ list_any (λ b. b == zero_digit) parts.flags
  pub width : c.width ≡ cut_value parts.width
  pub precision : c.precision ≡ option_map cut_value parts.precision
  pub letter : c.letter ≡ Some kind
  pub len : c.len ≡ length (parts_text parts)

abbrev pub ConversionsAreRead : Type 0
ConversionsAreRead =
    (parts : Parts) (kind : Letter) (rest : List ℕ) → AreParts parts kind
    → IsConversion parts kind (conversion_at (parts_text parts ++ rest))

-- a text of a front, a back, and one byte any number of times between them
pub record IsFilled (byte : ℕ) (front back text : List ℕ) : Type 0 where
  pub count : ℕ
  pub whole : text ≡ front ++ replicate count byte ++ back

-- whether zeros fill the width of a conversion: its letter is that of a number, flag `0` stands,
-- and neither `-` nor a precision does
abbrev pub zeros_fill : Conversion → Letter → Bool
zeros_fill c (Number notation) = c.zeros && not c.left && is_none c.precision
zeros_fill c letter = false

-- what a letter prints of a word where no width is asked for
abbrev pub bare_text : List ℕ → Conversion → Letter → ℕ → List ℕ
bare_text ram c letter n = letter_text ram (record c { width = 0 }) letter n

-- a text is as long as its width, or as it is by itself if that is longer, and spaces fill it up
pub record FillsWidth (c : Conversion) (zeros : Bool) (bare text : List ℕ) : Type 0 where
  pub len : length text ≡ max c.width (length bare)
  pub left : c.left ≡ true → IsFilled 0x20 bare [] text
  pub right : c.left ≡ false → zeros ≡ false → IsFilled 0x20 [] bare text

abbrev pub WidthsAreExact : Type 0
WidthsAreExact =
    (ram : List ℕ) (c : Conversion) (letter : Letter) (n : ℕ) → letter ≢ Percent
    → FillsWidth c (zeros_fill c letter) (bare_text ram c letter n) (letter_text ram c letter n)

-- a number has as many digits as its precision, or as its numeral if that is longer, and zeros fill
-- it up behind its sign; zeros that fill a width stand there too
pub record FillsDigits (c : Conversion) (zeros : Bool) (sign numeral bare text : List ℕ)
    : Type 0 where
  pub len : length bare ≡ length sign + max (unwrap_or c.precision 0) (length numeral)
  pub digits : IsFilled zero_digit sign numeral bare
  pub width : zeros ≡ true → IsFilled zero_digit sign numeral text

abbrev pub DigitsAreExact : Type 0
DigitsAreExact =
    (ram : List ℕ) (c : Conversion) (notation : Notation) (n : ℕ)
    → let letter = Number notation in
    FillsDigits c (zeros_fill c letter) (sign_of notation n) (digits_of notation n)
    (bare_text ram c letter n) (letter_text ram c letter n)

-- digits of this base, of this value
abbrev pub Reads : (base n : ℕ) → List ℕ → Type 0
Reads base n digits = IsNumeral base digits × (digits_value base digits ≡ n)

pub record ReadBack (n : ℕ) : Type 0 where
  pub unsigned : Reads 10 n (digits_of Unsigned n)
  pub octal : Reads 8 n (digits_of Octal n)
  pub lower_hex : Reads 16 n (digits_of LowerHex n)
  pub upper_hex : Reads 16 n (digits_of UpperHex n)
  pub pointer : Reads 16 n (digits_of Pointer n)

abbrev pub NumbersReadBack : Type 0
NumbersReadBack = (n : ℕ) → n < 2 ^ 32 → ReadBack n

-- a word with its sign is what it stands for as two's complement
abbrev pub SignedAreWritten : Type 0
SignedAreWritten =
    (n : ℕ) → n < 2 ^ 32 → sign_of Signed n ++ digits_of Signed n ≡ signed_decimal (signed 32 n)

-- no byte that passes a test stands in a text
abbrev pub HasNo : (ℕ → Bool) → List ℕ → Type 0
HasNo test text = list_any test text ≡ false

pub record HexDigits (n : ℕ) : Type 0 where
  pub lower_hex : HasNo is_ascii_uppercase (digits_of LowerHex n)
  pub upper_hex : HasNo is_ascii_lowercase (digits_of UpperHex n)
  pub pointer : HasNo is_ascii_uppercase (digits_of Pointer n)
  pub pointer_length : length (digits_of Pointer n) ≡ 8

abbrev pub HexDigitsAreWritten : Type 0
HexDigitsAreWritten = (n : ℕ) → HexDigits n
