-- The words that entries leave.
use Rattle.std.proofs.Common.{◌≡◌, ℕ, ◌+◌, ◌-◌, ◌*◌, ◌/◌, ◌%◌, ◌^◌, ◌<◌, ◌≤◌, nat_eq, Bool, true, false, Some, ap, sym, ◌∙◌, arith}
use Rattle.std.proofs.Math.Nat.{div-lt_iff_lt-mul, mul-le-mul_right}
use Rattle.std.proofs.lemmas.Nat.{pow-add, pow_pos}
use Rattle.std.proofs.lemmas.Bool.{eqb-true}
use Rattle.irx_reloc.specs.Relocating.{moved_word}

-- a word with other low bits is a word: m is 2 to the number of its other bits
pub other_low_bits : (word value low m : ℕ) → 0 < low → m * low ≡ 2 ^ 32 → word < 2 ^ 32
    → word / low * low + value % low < 2 ^ 32
other_low_bits word value low m some e fits =
    let above : word / low < m = (div-lt_iff_lt-mul some).1 (omega arith) in
    let room : (word / low + 1) * low ≤ m * low = mul-le-mul_right low (omega arith) in
    let rest : value % low < low = grind arith in
    omega arith

-- the same for a number of bits
pub low_bits_fit : (bits word value : ℕ) → bits < 32 → word < 2 ^ 32
    → word / 2 ^ bits * 2 ^ bits + value % 2 ^ bits < 2 ^ 32
low_bits_fit bits word value few fits =
    let split : 32 - bits + bits ≡ 32 = omega arith in
    other_low_bits word value (2 ^ bits) (2 ^ (32 - bits)) (pow_pos bits)
    (sym (pow-add 2 (32 - bits) bits) ∙ ap (λ (n : ℕ). 2 ^ n) split) fits

-- an entry that leaves another word is not of type R_MIPS_NONE
pub moved_some : (number word low base moved : ℕ) (b : Bool) → nat_eq number 0 ≡ b
    → moved_word number word low base ≡ Some moved → nat_eq number 0 ≡ false
unfolding moved_word
moved_some number word low base moved false t e = t
moved_some number word low base moved true t e =
    let zero_is : number ≡ 0 = eqb-true number 0 t in
    let none = rw zero_is at e in
    absurd (cc)
