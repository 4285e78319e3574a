-- Turns are in one order, and which of some comes first does not depend on their order.
use Rattle.std.proofs.Common.{◌≡◌, ℕ, ◌<◌, ◌≤◌, ◌⊎◌, inl, inr, true, false, ap, ◌∙◌, arith}
use Rattle.std.proofs.lemmas.Bool.{cases_lt}
use Rattle.std.proofs.lemmas.Bool.Decides.{nat_tests}
use Rattle.iop_time.specs.Turns.{is_before}
use Rattle.iop_time.specs.declared.turn.Turn.{Turn}

pub before-asym : (x y : Turn) → is_before x y ≡ true → is_before y x ≡ false
before-asym x y first = grind (arith, nat_tests)

pub before-irrefl : (x : Turn) → is_before x x ≡ false
before-irrefl x = grind (arith, nat_tests)

pub not_before-trans : (x y z : Turn) → is_before x y ≡ false → is_before y z ≡ false
    → is_before x z ≡ false
not_before-trans x y z first second = grind (arith, nat_tests)

-- what does not come behind the first of two comes before the second
pub before-later : (o x y : Turn) → is_before o x ≡ true → is_before o y ≡ false
    → is_before y x ≡ true
before-later o x y first second = grind (arith, nat_tests)

same_moment : (x y : Turn) → is_before x y ≡ false → is_before y x ≡ false → x.moment ≡ y.moment
same_moment x y first second = grind (arith, nat_tests)

same_number : (x y : Turn) → is_before x y ≡ false → is_before y x ≡ false → x.number ≡ y.number
same_number x y first second = grind (arith, nat_tests)

-- two turns of which neither comes before the other are one
pub same_turn : (x y : Turn) → is_before x y ≡ false → is_before y x ≡ false → x ≡ y
same_turn x y first second =
    let moment = same_moment x y first second in
    let number = same_number x y first second in
    let with : ℕ → ℕ → Turn = λ m n. record { moment = m; number = n } in
    ap (λ m. with m x.number) moment ∙ ap (with y.moment) number

-- of two turns the second does not come before the first
pub in_order : (x y : Turn) → is_before y x ≡ false
    → (x.moment < y.moment) ⊎ ((x.moment ≡ y.moment) × (x.number ≤ y.number))
in_order x y behind =
    elim (cases_lt x.moment y.moment) [
      | inl earlier ↦ inl earlier
      | inr no_earlier ↦ inr (grind (arith, nat_tests), grind (arith, nat_tests))
    ]
