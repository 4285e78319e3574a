-- The product of two signed words has 64 bits.
use Rattle.std.proofs.Common.{◌≡◌, ◌^◌, ◌≤◌, ℤ, pos, negsuc, ◌*ℤ◌, unsigned_abs, FitsSigned, refl, lit<, arith}
use Rattle.std.proofs.lemmas.Int.{fits_signed_mul, to_z-of_z}
use Rattle.std.specs.Int.{w32, w64, cast_signed, cast_unsigned}

abs_within : (z : ℤ) → FitsSigned w32 z → unsigned_abs z ≤ 2 ^ 31
abs_within (pos n) h = omega (arith, h.sfits)
abs_within (negsuc n) h = omega (arith, h.sfits)

widened : (z : ℤ) → FitsSigned w32 z → FitsSigned w64 z
widened z h = record { sfits = omega (arith, h.sfits) }

-- what a product in 64 bits computes
pub product_bits : (x y : ℤ)
    → FitsSigned w32 x → FitsSigned w32 y
    → cast_unsigned w64 (cast_signed w64 (cast_unsigned w64
    (cast_signed w64 (cast_unsigned w64 x) *ℤ cast_signed w64 (cast_unsigned w64 y))))
    ≡ cast_unsigned w64 (x *ℤ y)
product_bits x y f g =
    let fits =
    fits_signed_mul w64 x y (2 ^ 31) (2 ^ 31) (abs_within x f) (abs_within y g) (lit< tt) in
    let x_is = to_z-of_z w64 x (widened x f) in
    let y_is = to_z-of_z w64 y (widened y g) in
    rw (x_is, y_is, to_z-of_z w64 (x *ℤ y) fits) refl
