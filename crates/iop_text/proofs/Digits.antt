-- The last digits of a word, from the highest of them on.
use Rattle.std.proofs.Common.{◌≡◌, ℕ, suc, ◌+◌, ◌-◌, ◌*◌, ◌/◌, ◌^◌, ◌<◌, [], ◌∷◌, ◌++◌, refl, ap, sym, arith, add-one, bit_and}
use Rattle.std.proofs.Math.Nat.{div-one}
use Rattle.std.proofs.lemmas.Nat.{shr-shr, and_mask}
use Rattle.iop_base.specs.Text.{hex_digit, hex_digits}

-- all of the digits
pub hex_digits_all : (digits n low : ℕ) → low ≡ 0
    → hex_digits digits n ≡ hex_digits digits (n / 2 ^ low)
hex_digits_all digits n low e = rw e (ap (hex_digits digits) (sym (div-one n)))

-- one digit more, of what is left of a number without its low bits
more_at : (k n low high : ℕ) → high ≡ low + 4
    → hex_digits (suc k) (n / 2 ^ low)
    ≡ hex_digits k (n / 2 ^ high) ++ hex_digit (bit_and (n / 2 ^ low) 15) ∷ []
more_at k n low high e =
    rw (e, ← shr-shr n low 4, and_mask (n / 2 ^ low) 4) refl

-- one digit more
pub hex_digits_more : (digits k n : ℕ) → k < digits
    → hex_digits (k + 1) (n / 2 ^ (4 * digits - 4 * (k + 1)))
    ≡ hex_digits k (n / 2 ^ (4 * digits - 4 * k))
    ++ hex_digit (bit_and (n / 2 ^ (4 * (digits - 1 - k))) 15) ∷ []
hex_digits_more digits k n small =
    let low : 4 * digits - 4 * (k + 1) ≡ 4 * (digits - 1 - k) = omega arith in
    rw (low, add-one) (more_at k n (4 * (digits - 1 - k)) (4 * digits - 4 * k) (omega arith))
