use Rattle.std.proofs.Common.{◌≡◌, ◌+◌, ◌<◌, ◌≤◌, ◌-◌, ◌/◌, ◌%◌, ℕ, zero, suc, List, [], ◌∷◌, ◌++◌, take, drop, length, set, refl, ap, ◌∙◌, arith, append_assoc}
use Rattle.std.proofs.lemmas.Grind.{take-set_at}
use Rattle.std.proofs.lemmas.List.{drop-set-lt}
use Rattle.iop_base.specs.Numbers.{bytes_of, with_bytes}
use Rattle.iop_exec_tests.proofs.ram.Ram.+put.Goals as goal

-- the first byte, and then the others behind it
byte_first : (m : List ℕ) (p b : ℕ) (bs : List ℕ)
    → p < length m
    → with_bytes (set m p b) (p + 1) bs ≡ with_bytes m p (b ∷ bs)
byte_first m p b bs h =
    let behind : p + 1 + length bs ≡ p + length (b ∷ bs) = omega arith in
    let before : p < p + 1 + length bs = omega arith in
    rw (take-set_at m p (p + 1) b refl h, drop-set-lt (p + 1 + length bs) m p b before, behind)
    (ap (λ xs. xs ++ drop (p + length (b ∷ bs)) m) (append_assoc (take p m) (b ∷ []) bs))

bytes_first : (m : List ℕ) (p n v : ℕ)
    → 0 < n → p + n ≤ length m
    → with_bytes (set m p (v % 256)) (p + 1) (bytes_of (n - 1) (v / 256))
    ≡ with_bytes m p (bytes_of n v)
bytes_first m p zero v some within = absurd (omega arith)
bytes_first m p (suc n) v some within =
    let e : suc n - 1 ≡ n = omega arith in
    rw e (byte_first m p (v % 256) (bytes_of n (v / 256)) (omega arith))

pub returns-then-count-gt0 : goal.returns-then-count-gt0
returns-then-count-gt0 t c =
    c.put.ensures
    ∙ bytes_first _ c.args.place c.args.count c.args.value c.if-count-gt0.true c.requires
