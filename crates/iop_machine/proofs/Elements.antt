-- Elements of a list that pass a test, or do not, and what an option has.
use Rattle.std.proofs.Common.{◌≡◌, ℕ, zero, suc, Bool, true, false, cond, not, Option, Some, None, is_some, List, [], ◌∷◌, Bor, refl, ap, sym, ◌∙◌, subst, arith, inl, inr}
use Rattle.std.specs.List.{slice_get}
use Rattle.std.specs.Slice.{IsItemAt}
use Rattle.std.specs.Prelude.{◌⊎◌, option_copied, Contains, filter, map}
use Rattle.std.proofs.lemmas.List.Elements.{Contains-append_right, Contains-append_cases}
use Rattle.iop_base.proofs.Lists.{option_copied-item}

-- what is there is some
pub there : {X : Type 0} (o : Option X) → is_some o ≡ true → (x : X) × (o ≡ Some x)
there None some = absurd (cc some)
there (Some x) some = (x, refl)

-- a list of one has that one
pub only : {X : Type 0} {x y : X} → Contains (y ∷ []) x → y ≡ x
only (zero, lt, is) = is
only (suc k, lt, is) = absurd (omega (arith, lt))

module _ {X Y : Type 0} (test : X → Bool) (f : X → Y) where
  head : (b : Bool) (y : X) (fails passes : List X)
      → Contains (cond (not b) (y ∷ fails) fails) y
      ⊎ Contains (map f (cond b (y ∷ passes) passes)) (f y)
  head true y fails passes = inr (0, omega arith, refl)
  head false y fails passes = inl (0, omega arith, refl)

  tail : (b : Bool) (x y : X) (fails passes : List X)
      → Contains fails x ⊎ Contains (map f passes) (f x)
      → Contains (cond (not b) (y ∷ fails) fails) x
      ⊎ Contains (map f (cond b (y ∷ passes) passes)) (f x)
  tail true x y fails passes (inl h) = inl h
  tail true x y fails passes (inr h) = inr (Contains-append_right (f y ∷ []) (map f passes) (f x) h)
  tail false x y fails passes (inl h) = inl (Contains-append_right (y ∷ []) fails x h)
  tail false x y fails passes (inr h) = inr h

  -- an element fails the test, or its image is one of those that pass
  pub fails_or_passes : (xs : List X) (x : X) → Contains xs x
      → Contains (filter (λ y. not (test y)) xs) x ⊎ Contains (map f (filter test xs)) (f x)
  fails_or_passes [] x h = absurd (omega (arith, h.1))
  fails_or_passes (y ∷ ys) x h =
      let fails = filter (λ z. not (test z)) ys in
      let passes = filter test ys in
      elim (Contains-append_cases (y ∷ []) ys x h) [
        | inl here ↦ subst (λ z. Contains (filter (λ z. not (test z)) (y ∷ ys)) z
            ⊎ Contains (map f (filter test (y ∷ ys))) (f z)) (only here)
            (head (test y) y fails passes)
        | inr there ↦ tail (test y) x y fails passes (fails_or_passes ys x there)
      ]

-- the element that was looked up
pub looked_up : {X : Type 0} {xs ys : List X} {i : ℕ} {r : Option (Bor X)} {x : Bor X} → ys ≡ xs
    → IsItemAt ys i r → r ≡ Some x → slice_get xs i ≡ Some x.now
looked_up {xs = xs} {ys} {i} {r} e lookup is =
    ap (λ zs. slice_get zs i) (sym e) ∙ sym (option_copied-item ys i r lookup) ∙ ap option_copied is
