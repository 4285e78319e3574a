-- Numbers of an item, and numbers that are put in or taken out one by one.
use Rattle.std.proofs.Common.{◌≡◌, ℕ, suc, ◌+◌, ◌<◌, ◌^◌, true, List, [], ◌∷◌, ◌++◌, length, get_or, set, take, drop, replicate, refl, sym, ap, ◌∙◌, arith}
use Rattle.std.proofs.lemmas.Bool.{lt-ltb}
use Rattle.std.proofs.lemmas.List.{take_more, take_more_set, take_all, take-append-drop, length-drop, get_or-replicate, get_or_append_left}
use Rattle.iop_snapshot.specs.Items.{fits_item}
use Rattle.iop_snapshot.specs.declared.widths.TheConstants.{CPU}
use Rattle.iop_snapshot.proofs.Numbers.{fits_at, fits_append, all_fit}

-- a number more is as in another list
pub one_more : (xs ys : List ℕ) (i : ℕ) → take i xs ≡ take i ys → i < length xs → i < length ys
    → take (i + 1) (set xs i (get_or ys i 0)) ≡ take (i + 1) ys
one_more xs ys i same inside within =
    take_more_set xs i (get_or ys i 0) inside
    ∙ ap (λ (l : List ℕ). l ++ get_or ys i 0 ∷ []) same
    ∙ sym (take_more ys i 0 within)

-- the numbers of a processor have room
pub cpu_fits : (regs rest : List ℕ) → length regs ≡ 32
    → ((k : ℕ) → k < 32 → get_or regs k 0 < 2 ^ 32)
    → fits_item (4 ∷ 4 ∷ 4 ∷ 4 ∷ 1 ∷ 1 ∷ 4 ∷ []) rest ≡ true → fits_item CPU (regs ++ rest) ≡ true
cpu_fits regs rest long small behind =
    fits_append (replicate 32 4) (4 ∷ 4 ∷ 4 ∷ 4 ∷ 1 ∷ 1 ∷ 4 ∷ []) regs rest
    (all_fit 4 32 regs long small) behind

set_behind : (front rest : List ℕ) (k n : ℕ)
    → set (front ++ rest) (length front + k) n ≡ front ++ set rest k n
set_behind [] rest k n = let at : 0 + k ≡ k = omega arith in ap (λ j. set rest j n) at
set_behind (x ∷ front) rest k n =
    let at : suc (length front) + k ≡ suc (length front + k) = omega arith in
    ap (λ j. set (x ∷ front ++ rest) j n) at
    ∙ ap (λ (l : List ℕ). x ∷ l) (set_behind front rest k n)

-- seven numbers are put behind 32
module _ (front : List ℕ) (long : length front ≡ 32) (a b c d e f g : ℕ) where
  put : (rest : List ℕ) (k : ℕ) (n : ℕ)
      → set (front ++ rest) (32 + k) n ≡ front ++ set rest k n
  put rest k n = rw (← long) (set_behind front rest k n)

  pub seven_put : (rest : List ℕ) → length rest ≡ 7
      → set (set (set (set (set (set (set (front ++ rest) 32 a) 33 b) 34 c) 35 d) 36 e) 37 f) 38 g
      ≡ front ++ a ∷ b ∷ c ∷ d ∷ e ∷ f ∷ g ∷ []
  seven_put (p ∷ q ∷ r ∷ s ∷ t ∷ u ∷ v ∷ []) seven =
      rw (
        put (p ∷ q ∷ r ∷ s ∷ t ∷ u ∷ v ∷ []) 0 a,
        put (a ∷ q ∷ r ∷ s ∷ t ∷ u ∷ v ∷ []) 1 b,
        put (a ∷ b ∷ r ∷ s ∷ t ∷ u ∷ v ∷ []) 2 c,
        put (a ∷ b ∷ c ∷ s ∷ t ∷ u ∷ v ∷ []) 3 d,
        put (a ∷ b ∷ c ∷ d ∷ t ∷ u ∷ v ∷ []) 4 e,
        put (a ∷ b ∷ c ∷ d ∷ e ∷ u ∷ v ∷ []) 5 f,
        put (a ∷ b ∷ c ∷ d ∷ e ∷ f ∷ v ∷ []) 6 g,
      ) refl
  seven_put [] seven = absurd (omega arith)
  seven_put (p ∷ []) seven = absurd (omega arith)
  seven_put (p ∷ q ∷ []) seven = absurd (omega arith)
  seven_put (p ∷ q ∷ r ∷ []) seven = absurd (omega arith)
  seven_put (p ∷ q ∷ r ∷ s ∷ []) seven = absurd (omega arith)
  seven_put (p ∷ q ∷ r ∷ s ∷ t ∷ []) seven = absurd (omega arith)
  seven_put (p ∷ q ∷ r ∷ s ∷ t ∷ u ∷ []) seven = absurd (omega arith)
  seven_put (p ∷ q ∷ r ∷ s ∷ t ∷ u ∷ v ∷ w ∷ rest) seven = absurd (omega arith)

-- the registers stand in the first 32 numbers, and the others are put behind them
pub numbers_put : (ns regs : List ℕ) → length ns ≡ 39 → length regs ≡ 32
    → take 32 ns ≡ take 32 regs → (a b c d e f g : ℕ)
    → set (set (set (set (set (set (set ns 32 a) 33 b) 34 c) 35 d) 36 e) 37 f) 38 g
    ≡ regs ++ a ∷ b ∷ c ∷ d ∷ e ∷ f ∷ g ∷ []
numbers_put ns regs all long same a b c d e f g =
    let front : take 32 ns ≡ regs = same ∙ take_all 32 regs (omega (arith, long)) in
    let whole : ns ≡ regs ++ drop 32 ns =
    sym (take-append-drop 32 ns) ∙ ap (λ (l : List ℕ). l ++ drop 32 ns) front in
    ap (λ (l : List ℕ).
    set (set (set (set (set (set (set l 32 a) 33 b) 34 c) 35 d) 36 e) 37 f) 38 g) whole
    ∙ seven_put regs long a b c d e f g (drop 32 ns) (omega (arith, length-drop 32 ns, all))

-- a register's number is a word
pub register_fits : (ns : List ℕ) (k : ℕ) → fits_item CPU ns ≡ true → k < 32
    → get_or ns k 0 < 2 ^ 32
register_fits ns k fits below =
    let words : length {A = ℕ} (replicate 32 4) ≡ 32 = refl in
    let width : get_or CPU k 0 ≡ 4 =
    get_or_append_left (replicate 32 4) (4 ∷ 4 ∷ 4 ∷ 4 ∷ 1 ∷ 1 ∷ 4 ∷ []) 0 k
    (omega (arith, words, below))
    ∙ get_or-replicate 32 k 4 0 below in
    let less = fits_at CPU ns k fits (omega (arith, below)) in
    rw width at less

-- the numbers behind the registers have room, where those of words are words
pub rest_fits : (a b c d flag reg value : ℕ) → a < 2 ^ 32 → b < 2 ^ 32 → c < 2 ^ 32 → d < 2 ^ 32
    → flag < 256 → reg < 256 → value < 2 ^ 32
    → fits_item (4 ∷ 4 ∷ 4 ∷ 4 ∷ 1 ∷ 1 ∷ 4 ∷ []) (a ∷ b ∷ c ∷ d ∷ flag ∷ reg ∷ value ∷ []) ≡ true
rest_fits a b c d flag reg value ha hb hc hd hf hr hv =
    rw (
      lt-ltb a (256 ^ 4) ha,
      lt-ltb b (256 ^ 4) hb,
      lt-ltb c (256 ^ 4) hc,
      lt-ltb d (256 ^ 4) hd,
      lt-ltb flag (256 ^ 1) hf,
      lt-ltb reg (256 ^ 1) hr,
      lt-ltb value (256 ^ 4) hv,
    ) refl
