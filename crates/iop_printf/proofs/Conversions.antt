-- Conversions of the same parts.
use Rattle.std.proofs.Common.{◌≡◌, ℕ, Bool, Option, refl}
use Rattle.iop_printf.specs.declared.conversion.Conversion.{Conversion}
use Rattle.iop_printf.specs.declared.letter.Letter.{Letter}

abbrev conversion : (left zeros : Bool) (width : ℕ) (precision : Option ℕ) (letter : Option Letter)
    (len : ℕ) → Conversion
conversion left zeros width precision letter len = record {
  left = left;
  zeros = zeros;
  width = width;
  precision = precision;
  letter = letter;
  len = len;
}

pub same_conversion : (left left' zeros zeros' : Bool) (width width' : ℕ)
    (precision precision' : Option ℕ) (letter letter' : Option Letter) (len len' : ℕ)
    → left ≡ left' → zeros ≡ zeros' → width ≡ width' → precision ≡ precision' → letter ≡ letter'
    → len ≡ len' → conversion left zeros width precision letter len
    ≡ conversion left' zeros' width' precision' letter' len'
same_conversion left left' zeros zeros' width width' precision precision' letter letter' len len'
    is_left is_zeros is_width is_precision is_letter is_len =
    rw (is_left, is_zeros, is_width, is_precision, is_letter, is_len) refl
