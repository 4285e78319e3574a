-- Lists in which no node stands twice.
use Rattle.std.proofs.Common.{◌≡◌, ◌≢◌, ℕ, suc, ◌+◌, Bool, true, false, cond, eqb, not, List, [], ◌∷◌, ◌++◌, length, refl, ap, sym, arith}
use Rattle.std.specs.List.{All, AllPairs}
use Rattle.std.proofs.lemmas.Bool.{eq-eqb, ne_eqb, eqb-true}
use Rattle.std.proofs.lemmas.List.Elements.{All-head, All-tail}
use Rattle.iop_base.proofs.Searching.{AllPairs-head, AllPairs-tail}
use Rattle.iop_cblock.specs.Lists.{holds, without}
use Rattle.iop_cblock.proofs.Changes.{without-lacks}
use Rattle.iop_cblock.proofs.Rings.{lacks-cons, holds-tail}

abbrev pub Differ : ℕ → ℕ → Type 0
Differ x y = x ≢ y

pub lacks-all : (x : ℕ) (xs : List ℕ) → All (Differ x) xs → holds x xs ≡ false
lacks-all x [] all = refl
lacks-all x (y ∷ ys) all =
    lacks-cons x y ys (All-head (Differ x) y ys all)
    (lacks-all x ys (All-tail (Differ x) y ys all))

at_seam : (P : ℕ → Type 0) (xs : List ℕ) (y : ℕ) (ys : List ℕ) → All P (xs ++ y ∷ ys) → P y
at_seam P [] y ys all = All-head P y ys all
at_seam P (x ∷ xs) y ys all = at_seam P xs y ys (All-tail P x (xs ++ y ∷ ys) all)

without-first : (x : ℕ) (xs : List ℕ) → AllPairs Differ (x ∷ xs) → without x (x ∷ xs) ≡ xs
without-first x xs pairs =
    rw (eq-eqb x x refl) (without-lacks x xs (lacks-all x xs (AllPairs-head Differ x xs pairs)))

-- a node that stands between others is taken out
pub without-between : (before : List ℕ) (node : ℕ) (behind : List ℕ)
    → AllPairs Differ (before ++ node ∷ behind)
    → without node (before ++ node ∷ behind) ≡ before ++ behind
without-between [] node behind pairs = without-first node behind pairs
without-between (x ∷ xs) node behind pairs =
    let rest = xs ++ node ∷ behind in
    let other = at_seam (Differ x) xs node behind (AllPairs-head Differ x rest pairs) in
    rw (ne_eqb node x (λ e. other (sym e)))
    (ap (λ ys. x ∷ ys) (without-between xs node behind (AllPairs-tail Differ x rest pairs)))

length_by : (b : Bool) (node x : ℕ) (xs : List ℕ) → eqb node x ≡ b
    → AllPairs Differ (x ∷ xs) → (holds node xs ≡ true → length (without node xs) + 1 ≡ length xs)
    → holds node (x ∷ xs) ≡ true
    → length (cond (not b) (x ∷ without node xs) (without node xs)) + 1 ≡ suc (length xs)
length_by true node x xs e pairs later here =
    let same : node ≡ x = eqb-true node x e in
    let left = without-lacks node xs (rw same (lacks-all x xs (AllPairs-head Differ x xs pairs))) in
    omega (arith, ap length left)
length_by false node x xs e pairs later here = omega (arith, later (holds-tail node x xs e here))

-- it was one of them
pub length-without : (node : ℕ) (xs : List ℕ) → AllPairs Differ xs → holds node xs ≡ true
    → length (without node xs) + 1 ≡ length xs
length-without node [] pairs here = cc
length-without node (x ∷ xs) pairs here =
    length_by (eqb node x) node x xs refl pairs
    (length-without node xs (AllPairs-tail Differ x xs pairs)) here
