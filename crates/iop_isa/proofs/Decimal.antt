-- The decimal digits of a number of two.
use Rattle.std.proofs.Common.{◌≡◌, ℕ, ◌+◌, ◌/◌, ◌%◌, ◌<◌, ◌≤◌, nat_eq, nat_lt, true, false, [], ◌∷◌, refl, arith}
use Rattle.std.proofs.lemmas.Bool.Decides.{nat_tests}
use Rattle.std.specs.Fmt.{decimal, digits}

pub decimal_two : (n : ℕ) → 10 ≤ n → n < 100 → decimal n ≡ (48 + n / 10) ∷ (48 + n % 10) ∷ []
unfolding digits
decimal_two n low high =
    let more : nat_eq (n / 10) 0 ≡ false = grind (arith, nat_tests) in
    let last : nat_eq (n / 10 / 10) 0 ≡ true = grind (arith, nat_tests) in
    let tens : nat_lt (n / 10 % 10) 10 ≡ true = grind (arith, nat_tests) in
    let units : nat_lt (n % 10) 10 ≡ true = grind (arith, nat_tests) in
    let all : n / 10 % 10 ≡ n / 10 = omega arith in
    rw (more, last, tens, units, all) refl
