-- The text of a format: this project's profile, after printf of C.
use Rattle.std.specs.Prelude.{ℕ, zero, suc, ◌+◌, ◌==◌, if◌then◌else◌, List, [], ◌∷◌, ◌++◌, take}
use Rattle.iop_printf.specs.Arguments.{Arguments, argument}
use Rattle.iop_printf.specs.Conversions.{percent, conversion_at}
use Rattle.iop_printf.specs.Texts.{string_at, conversion_text, conversion_arguments}
use Rattle.iop_printf.specs.declared.TheConstants.{LONGEST}

-- what a byte of the format begins: its text, how many of the bytes behind it belong to it, and how many
-- arguments it takes
pub record Part : Type 0 where
  pub text : List ℕ
  pub len : ℕ
  pub arguments : ℕ

-- a `%` begins a conversion, and every other byte stands for itself; `taken` arguments are taken
unfoldable pub part_at : List ℕ → Arguments → (taken byte : ℕ) → List ℕ → Part
part_at ram arguments taken byte rest =
    let c = conversion_at rest in
    if byte == percent
    then record {
      text = conversion_text ram c (take c.len rest) (argument ram arguments taken);
      len = c.len;
      arguments = conversion_arguments c;
    }
    else record { text = byte ∷ []; len = 0; arguments = 0 }

-- the text of what is left of a format, of which the first `passed` bytes belong to the conversion before
abbrev pub text_from : List ℕ → Arguments → (taken passed : ℕ) → List ℕ → List ℕ
text_from ram arguments taken passed [] = []
text_from ram arguments taken (suc passed) (byte ∷ rest) = text_from ram arguments taken passed rest
text_from ram arguments taken zero (byte ∷ rest) =
    let part = part_at ram arguments taken byte rest in
    part.text ++ text_from ram arguments (taken + part.arguments) part.len rest

-- the text of the format at an address, with the arguments in these registers and on the stack: it is
-- cut at 4,096 bytes
unfoldable pub format_text : (ram : List ℕ) (fmt : ℕ) (registers : List ℕ) (sp : ℕ) → List ℕ
format_text ram fmt registers sp =
    take LONGEST
    (text_from ram (record { registers = registers; sp = sp }) 0 0 (string_at ram fmt))
