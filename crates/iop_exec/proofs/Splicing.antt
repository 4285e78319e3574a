-- A word that is spliced of two is a word.
use Rattle.std.proofs.Common.{◌≡◌, ℕ, ◌+◌, ◌-◌, ◌*◌, ◌/◌, ◌%◌, ◌^◌, ◌<◌, ◌≤◌, sym, ap, subst, ◌∙◌, arith}
use Rattle.std.proofs.lemmas.Nat.{pow-add, mul-add-lt, mod_below, pow_pos, shr_below}

pub splice_fits : (bit upper lower : ℕ)
    → bit ≤ 32 → upper < 2 ^ 32
    → upper / 2 ^ bit * 2 ^ bit + lower % 2 ^ bit < 2 ^ 32
splice_fits bit upper lower within h =
    let above : ℕ = 32 - bit in
    let sum : bit + above ≡ 32 = omega arith in
    let turned : 32 ≡ above + bit = omega arith in
    let whole : 2 ^ bit * 2 ^ above ≡ 2 ^ 32 =
    sym (pow-add 2 bit above) ∙ ap (λ n. 2 ^ n) sum in
    let high : upper / 2 ^ bit < 2 ^ above =
    shr_below upper above bit (subst (λ n. upper < 2 ^ n) turned h) in
    let low : lower % 2 ^ bit < 2 ^ bit = mod_below lower (2 ^ bit) (pow_pos bit) in
    subst (λ n. upper / 2 ^ bit * 2 ^ bit + lower % 2 ^ bit < n) whole
    (mul-add-lt _ _ _ _ high low)
