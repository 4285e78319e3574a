-- Where ranges lie.
use Rattle.std.proofs.Common.{◌≡◌, ℕ, ◌+◌, ◌/◌, ◌%◌, ◌^◌, ◌<◌, ◌≤◌, nat_le, nat_lt, Bool, true, false, cond, Option, Some, None, refl, sym, ◌∙◌, arith, ⊎_elim}
use Rattle.std.specs.Prelude.{◌&&◌}
use Rattle.std.proofs.lemmas.Bool.{leb-true, le-leb, lt-ltb, ltb-true}
use Rattle.std.proofs.lemmas.Bool.Decides.{nat_tests}
use Rattle.iop_base.specs.Numbers.{wrapped}
use Rattle.iop_base.specs.Places.{phys, range_at, is_mapped, IsRamSize}

-- RAM is small
pub small : (size : ℕ) → IsRamSize size → size ≤ 2 ^ 29
small size is = ⊎_elim (λ two. omega (arith, two)) (λ eight. omega (arith, eight)) is

-- what is known of a range that has a place
pub record HasPlace (size at len p : ℕ) : Type 0 where
  pub place : phys size at ≡ Some p
  pub inside : p + len ≤ size

by_fit : (b : Bool) (size at len q p : ℕ) → phys size at ≡ Some q → nat_le (q + len) size ≡ b
    → cond b (Some q) None ≡ Some p → HasPlace size at len p
by_fit true size at len q p place fits is =
    let inside = leb-true (q + len) size fits in
    let same : q ≡ p = cc in
    record { place = cc; inside = omega (arith, inside, same) }
by_fit false size at len q p place fits is = absurd (cc is)

by_place : (o : Option ℕ) (size at len p : ℕ) → phys size at ≡ o → range_at size at len ≡ Some p
    → HasPlace size at len p
by_place None size at len p place is =
    let none : range_at size at len ≡ None = rw place refl in absurd (cc (none, is))
by_place (Some q) size at len p place is =
    let by : range_at size at len ≡ cond (nat_le (q + len) size) (Some q) None = rw place refl in
    by_fit (nat_le (q + len) size) size at len q p place refl (sym by ∙ is)

pub has_place : (size at len p : ℕ) → range_at size at len ≡ Some p → HasPlace size at len p
has_place size at len p is = by_place (phys size at) size at len p refl is

-- a front of a range begins where the range does
pub range_front : (size at len p n : ℕ) → HasPlace size at len p → n ≤ len
    → range_at size at n ≡ Some p
range_front size at len p n is front =
    let place = is.place in
    let fits = le-leb (p + n) size (omega (arith, is.inside)) in
    rw (place, fits) refl

-- no segment lies behind the sixth
mapped_low : (segment : ℕ) → is_mapped segment ≡ true → segment ≤ 5
mapped_low segment is = grind (arith, nat_tests, is)

-- what is known of an address that has a place
pub record Stands (size at p : ℕ) : Type 0 where
  pub mapped : is_mapped (at / 0x20000000) ≡ true
  pub place : p ≡ at % 0x20000000
  pub below : p < size

stands_by : (mapped inside : Bool) (size at p : ℕ) → is_mapped (at / 0x20000000) ≡ mapped
    → nat_lt (at % 0x20000000) size ≡ inside
    → cond (mapped && inside) (Some (at % 0x20000000)) None ≡ Some p → Stands size at p
stands_by true true size at p mapped inside is =
    let same : at % 0x20000000 ≡ p = cc in
    let below = ltb-true (at % 0x20000000) size inside in
    record { mapped = mapped; place = sym same; below = omega (arith, below, same) }
stands_by true false size at p mapped inside is = absurd (cc is)
stands_by false inside size at p mapped inside_is is = absurd (cc is)

pub stands : (size at p : ℕ) → phys size at ≡ Some p → Stands size at p
stands size at p is =
    stands_by (is_mapped (at / 0x20000000)) (nat_lt (at % 0x20000000) size) size at p refl refl is

-- the place of an address behind another in RAM
pub phys-behind : (size at p k : ℕ) → size ≤ 2 ^ 29 → phys size at ≡ Some p → p + k < size
    → phys size (wrapped (at + k)) ≡ Some (p + k)
phys-behind size at p k small is inside =
    let s = stands size at p is in
    let low = mapped_low (at / 0x20000000) s.mapped in
    let place = s.place in
    let same : wrapped (at + k) ≡ at + k = omega (arith, low, place, inside, small) in
    let segment : (at + k) / 0x20000000 ≡ at / 0x20000000 =
    omega (arith, place, inside, small) in
    let rest : (at + k) % 0x20000000 ≡ p + k = omega (arith, place, inside, small) in
    let mapped = s.mapped in
    let fits = lt-ltb (p + k) size inside in
    rw (same, segment, rest, mapped, fits) refl

pub range-behind : (size at p k n : ℕ) → size ≤ 2 ^ 29 → phys size at ≡ Some p → 0 < n
    → p + k + n ≤ size → range_at size (wrapped (at + k)) n ≡ Some (p + k)
range-behind size at p k n small is some inside =
    let place = phys-behind size at p k small is (omega arith) in
    let fits = le-leb (p + k + n) size inside in
    rw (place, fits) refl

-- and it is no greater than a word
pub word-behind : (size at p k : ℕ) → size ≤ 2 ^ 29 → phys size at ≡ Some p → p + k ≤ size
    → at + k < 2 ^ 32
word-behind size at p k small is inside =
    let s = stands size at p is in
    let low = mapped_low (at / 0x20000000) s.mapped in
    let place = s.place in
    omega (arith, low, place, inside, small)
