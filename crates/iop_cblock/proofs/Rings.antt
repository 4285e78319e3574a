-- Chains of places, and what a node put into one or taken out of one leaves.
use Rattle.std.proofs.Common.{◌≡◌, ◌≢◌, ◌∙◌, ℕ, Bool, true, false, eqb, ◌⊎◌, inl, inr, List, [], ◌∷◌, refl, sym, ap, arith}
use Rattle.std.proofs.lemmas.Bool.{eqb-true, eqb-false, ne_eqb, or_parts}
use Rattle.std.proofs.lemmas.Bool.Decides.{nat_tests}
use Rattle.iop_cblock.specs.Lists.{holds}
use Rattle.iop_cblock.specs.Links.{Chain}

-- what lacks a node lacks it at its head and behind
pub lacks-head : (x y : ℕ) (ys : List ℕ) → holds x (y ∷ ys) ≡ false → x ≢ y
lacks-head x y ys h = eqb-false x y (or_parts (eqb x y) (holds x ys) h).0

pub lacks-tail : (x y : ℕ) (ys : List ℕ) → holds x (y ∷ ys) ≡ false → holds x ys ≡ false
lacks-tail x y ys h = (or_parts (eqb x y) (holds x ys) h).1

pub lacks-cons : (x y : ℕ) (ys : List ℕ) → x ≢ y → holds x ys ≡ false → holds x (y ∷ ys) ≡ false
lacks-cons x y ys ne h = rw (ne_eqb x y ne) h

-- what has a node and another one at its head has it behind
pub holds-tail : (x y : ℕ) (ys : List ℕ) → eqb x y ≡ false → holds x (y ∷ ys) ≡ true
    → holds x ys ≡ true
holds-tail x y ys ne h = rw ne at h

-- what the links of a state are to those of an earlier one: the same but at these places
pub record Agree (nx pv nx' pv' : ℕ → ℕ) (p n w : ℕ) : Type 0 where
  pub next : (y : ℕ) → y ≢ p → y ≢ w → nx' y ≡ nx y
  pub previous : (y : ℕ) → y ≢ n → y ≢ w → pv' y ≡ pv y

-- a place is not this one, nor one of these
pub record Misses (p : ℕ) (a : ℕ) (xs : List ℕ) : Type 0 where
  pub first : p ≢ a
  pub others : holds p xs ≡ false

misses-tail : (p a x : ℕ) (xs : List ℕ) → Misses p a (x ∷ xs) → Misses p x xs
misses-tail p a x xs m =
    record { first = lacks-head p x xs m.others; others = lacks-tail p x xs m.others }

misses-end : (p b x : ℕ) (xs : List ℕ) → Misses p b (x ∷ xs) → Misses p b xs
misses-end p b x xs m = record { first = m.first; others = lacks-tail p x xs m.others }

-- a place of a chain, or its end
abbrev pub IsIn : ℕ → List ℕ → ℕ → Type 0
IsIn p xs b = (holds p xs ≡ true) ⊎ (p ≡ b)

pub in-tail : (p x : ℕ) (xs : List ℕ) (b : ℕ) → eqb p x ≡ false → IsIn p (x ∷ xs) b → IsIn p xs b
in-tail p x xs b ne (inl h) = inl (holds-tail p x xs ne h)
in-tail p x xs b ne (inr e) = inr e

module _ (nx pv : ℕ → ℕ) where
  previous_by : (a y : ℕ) (ys : List ℕ) (b p : ℕ) (t : Bool) → eqb p y ≡ t
      → ((IsIn p ys b) → holds (pv p) (y ∷ ys) ≡ true)
      → pv y ≡ a → IsIn p (y ∷ ys) b → IsIn (pv p) (y ∷ ys) a
  previous_by a y ys b p true e ih here h = inr (ap pv (eqb-true p y e) ∙ here)
  previous_by a y ys b p false e ih here h = inl (ih (in-tail p y ys b e h))

  pub in-more : (q y : ℕ) (ys : List ℕ) → IsIn q ys y → holds q (y ∷ ys) ≡ true
  in-more q y ys (inl h) = grind (arith, nat_tests, h)
  in-more q y ys (inr e) = grind (arith, nat_tests, e)

  -- what is in front of a place of a chain is one of the chain, or its start
  pub previous-in : (a : ℕ) (xs : List ℕ) (b p : ℕ) → IsIn p xs b → Chain nx pv a xs b
      → IsIn (pv p) xs a
  previous-in a [] b p (inl h) c = cc
  previous-in a [] b p (inr e) c = inr (ap pv e ∙ c.1)
  previous-in a (y ∷ ys) b p h c =
      previous_by a y ys b p (eqb p y) refl
      (λ h'. in-more (pv p) y ys (previous-in y ys b p h' c.2)) c.1 h

  pub head-in : (x : ℕ) (ys : List ℕ) (b : ℕ) → Chain nx pv x ys b → IsIn (nx x) ys b
  head-in x [] b c = inr c.0
  head-in x (y ∷ ys) b c = inl (grind (arith, nat_tests, c.0))

  pub in-behind : (q y : ℕ) (ys : List ℕ) (b : ℕ) → IsIn q ys b → IsIn q (y ∷ ys) b
  in-behind q y ys b (inl h) = inl (grind (arith, nat_tests, h))
  in-behind q y ys b (inr e) = inr e

  next_by : (y : ℕ) (ys : List ℕ) (b p : ℕ) (t : Bool) → eqb p y ≡ t
      → (holds p ys ≡ true → IsIn (nx p) ys b) → Chain nx pv y ys b
      → holds p (y ∷ ys) ≡ true → IsIn (nx p) ys b
  next_by y ys b p true e ih c h = rw (eqb-true p y e) (head-in y ys b c)
  next_by y ys b p false e ih c h = ih (holds-tail p y ys e h)

  -- what is behind a place of a chain stands behind its first, or is its end
  pub next-in : (y : ℕ) (ys : List ℕ) (b p : ℕ) → holds p (y ∷ ys) ≡ true → Chain nx pv y ys b
      → IsIn (nx p) ys b
  next-in y [] b p h c = next_by y [] b p (eqb p y) refl (λ h'. cc) c h
  next-in y (z ∷ zs) b p h c =
      next_by y (z ∷ zs) b p (eqb p y) refl
      (λ h'. in-behind (nx p) z zs b (next-in z zs b p h' c.2)) c h

  module _ (nx' pv' : ℕ → ℕ) (p n w : ℕ) (agree : Agree nx pv nx' pv' p n w) where
    -- a chain that has none of the places stays
    pub frame : (a : ℕ) (xs : List ℕ) (b : ℕ) → Misses p a xs → Misses w a xs → Misses n b xs
        → w ≢ b → Chain nx pv a xs b → Chain nx' pv' a xs b
    frame a [] b mp mw mn wb c = (
      agree.next a (λ e. mp.first (sym e)) (λ e. mw.first (sym e)) ∙ c.0,
      agree.previous b (λ e. mn.first (sym e)) (λ e. wb (sym e)) ∙ c.1,
    )
    frame a (x ∷ xs) b mp mw mn wb c = (
      agree.next a (λ e. mp.first (sym e)) (λ e. mw.first (sym e)) ∙ c.0,
      agree.previous x (λ e. lacks-head n x xs mn.others (sym e))
          (λ e. lacks-head w x xs mw.others (sym e)) ∙ c.1,
      frame x xs b (misses-tail p a x xs mp) (misses-tail w a x xs mw)
          (misses-end n b x xs mn) wb c.2,
    )
