-- Truth values are numbers, and numbers are seen as them.
use mir.Val.{bool_byte}
use Rattle.std.proofs.Common.{◌≡◌, ℕ, ◌<◌, Bool, true, false, cond, eqb, Some, None, refl, sym, ap, ◌∙◌, arith}
use Rattle.std.proofs.lemmas.Bool.{eqb-true}
use Rattle.std.proofs.lemmas.Option.{same_Some}
use Rattle.iop_base.specs.Numbers.{one_if}
use Rattle.iop_snapshot.specs.Flags.{flag_of}

-- the number that the program tells of one
pub flag_number : (b : Bool) → bool_byte b ≡ one_if b
flag_number true = refl
flag_number false = refl

-- it has room in a byte
pub flag_small : (b : Bool) → one_if b < 256
flag_small true = omega arith
flag_small false = omega arith

pub flag_again : (b : Bool) → flag_of (one_if b) ≡ Some b
flag_again true = refl
flag_again false = refl

pub flag_is : (n : ℕ) (b : Bool) → flag_of n ≡ Some b → one_if b ≡ n
flag_is n b e = by_tests (eqb n 0) (eqb n 1) (eqb-true n 0) (eqb-true n 1) e
  where
    by_tests : (p q : Bool) → (p ≡ true → n ≡ 0) → (q ≡ true → n ≡ 1)
        → cond p (Some false) (cond q (Some true) None) ≡ Some b → one_if b ≡ n
    by_tests true q f g e = ap one_if (sym (same_Some false b e)) ∙ sym (f refl)
    by_tests false true f g e = ap one_if (sym (same_Some true b e)) ∙ sym (g refl)
    by_tests false false f g e = absurd cc
