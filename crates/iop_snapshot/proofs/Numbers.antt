-- A list of numbers of a known length, number by number.
use Rattle.std.proofs.Common.{◌≡◌, ℕ, zero, suc, ◌+◌, ◌^◌, ◌<◌, true, ltb, List, [], ◌∷◌, ◌++◌, length, get_or, drop, replicate, refl, sym, ap, ◌∙◌, arith}
use Rattle.std.proofs.lemmas.Bool.{and_parts, and_from, ltb-true, lt-ltb}
use Rattle.std.proofs.lemmas.List.{drop_more, drop_all}
use Rattle.iop_snapshot.specs.Items.{fits_item}

-- so many numbers, from a place on
abbrev pub numbers_from : (k n : ℕ) → List ℕ → List ℕ
numbers_from k zero ns = []
numbers_from k (suc n) ns = get_or ns k 0 ∷ numbers_from (k + 1) n ns

pub numbers_from-all : (k n : ℕ) (ns : List ℕ) → length ns ≡ k + n
    → numbers_from k n ns ≡ drop k ns
numbers_from-all k zero ns e = sym (drop_all k ns (omega arith))
numbers_from-all k (suc n) ns e =
    ap (λ (rest : List ℕ). get_or ns k 0 ∷ rest) (numbers_from-all (k + 1) n ns (omega arith))
    ∙ sym (drop_more ns k 0 (omega arith))

pub fits_long : (widths ns : List ℕ) → fits_item widths ns ≡ true → length ns ≡ length widths
fits_long [] [] fits = refl
fits_long [] (n ∷ ns) fits = absurd cc
fits_long (w ∷ widths) [] fits = absurd cc
fits_long (w ∷ widths) (n ∷ ns) fits =
    ap suc (fits_long widths ns (and_parts (ltb n (256 ^ w)) (fits_item widths ns) fits).1)

-- each number has room in its width
pub fits_at : (widths ns : List ℕ) (k : ℕ) → fits_item widths ns ≡ true → k < length widths
    → get_or ns k 0 < 256 ^ get_or widths k 0
fits_at [] ns k fits inside = absurd (omega arith)
fits_at (w ∷ widths) [] k fits inside = absurd cc
fits_at (w ∷ widths) (n ∷ ns) zero fits inside =
    ltb-true n (256 ^ w) (and_parts (ltb n (256 ^ w)) (fits_item widths ns) fits).0
fits_at (w ∷ widths) (n ∷ ns) (suc k) fits inside =
    fits_at widths ns k (and_parts (ltb n (256 ^ w)) (fits_item widths ns) fits).1 (omega arith)

-- items one behind the other
pub fits_append : (widths more : List ℕ) (ns rest : List ℕ) → fits_item widths ns ≡ true
    → fits_item more rest ≡ true → fits_item (widths ++ more) (ns ++ rest) ≡ true
fits_append [] more [] rest fits behind = behind
fits_append [] more (n ∷ ns) rest fits behind = absurd cc
fits_append (w ∷ widths) more [] rest fits behind = absurd cc
fits_append (w ∷ widths) more (n ∷ ns) rest fits behind =
    let parts = and_parts (ltb n (256 ^ w)) (fits_item widths ns) fits in
    and_from (ltb n (256 ^ w)) (fits_item (widths ++ more) (ns ++ rest)) parts.0
    (fits_append widths more ns rest parts.1 behind)

-- so many numbers have room in one width
pub all_fit : (width n : ℕ) (ns : List ℕ) → length ns ≡ n
    → ((k : ℕ) → k < n → get_or ns k 0 < 256 ^ width) → fits_item (replicate n width) ns ≡ true
all_fit width zero [] long small = refl
all_fit width zero (m ∷ ns) long small = absurd (omega arith)
all_fit width (suc n) [] long small = absurd (omega arith)
all_fit width (suc n) (m ∷ ns) long small =
    and_from (ltb m (256 ^ width)) (fits_item (replicate n width) ns)
    (lt-ltb m (256 ^ width) (small 0 (omega arith)))
    (all_fit width n ns (omega arith) (λ k below. small (suc k) (omega (arith, below))))
