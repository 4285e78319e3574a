-- What the first stub behind a place tells of all of them, where they stand in order.
use Rattle.std.proofs.Common.{◌≡◌, ℕ, suc, ◌+◌, ◌-◌, ◌≤◌, ◌||◌, Bool, true, false, cond, not, Option, Some, None, List, [], ◌∷◌, get_or, inl, inr, refl, ap, sym, ◌∙◌, arith}
use Rattle.std.specs.List.Sorted.{IsNonDecreasingBy}
use Rattle.std.specs.List.{All, find, list_any}
use Rattle.std.specs.Bool.{then_some}
use Rattle.std.proofs.lemmas.Bool.{ltb-true, ltb-false, le-ltb, ne_eqb, cases_lt}
use Rattle.std.proofs.lemmas.List.Folds.{list_any_none}
use Rattle.iop_base.proofs.Lists.{find-none}
use Rattle.iop_stubs.specs.Stubs.{stands_at, stands_before, stands_from, meets}
use Rattle.iop_stubs.specs.Binding.{IsInOrder}
use Rattle.iop_stubs.specs.declared.live_stub.Stub.{Stub}

pub in_order-tail : (first : Stub) (rest : List Stub) → IsInOrder (first ∷ rest) → IsInOrder rest
in_order-tail first rest h = λ i j d lt below. h (suc i) (suc j) d (omega arith) (omega arith)

pub in_order-behind : (first : Stub) (rest : List Stub) → IsInOrder (first ∷ rest) →
    All (λ s. first.at + 8 ≤ s.at) rest
in_order-behind first rest h = λ k d below. h 0 (suc k) d (omega arith) (omega arith)

-- what a search by halving asks for
pub places_rise : (stubs : List Stub) → IsInOrder stubs →
    IsNonDecreasingBy (λ (s : Stub). s.at) stubs
places_rise stubs h i j d le below =
    elim (cases_lt i j) [
      | inl lt ↦ omega (arith, h i j d lt below)
      | inr ge ↦ let same : i ≡ j =
          omega arith in omega (arith, ap (λ k. (get_or stubs k d).at) same)
    ]

-- the stub, if it stands at the place
abbrev pub if_at : ℕ → Option Stub → Option Stub
if_at place None = None
if_at place (Some stub) = then_some (stands_at place stub) stub

-- whether the range meets it
abbrev pub is_met : ℕ → ℕ → Option Stub → Bool
is_met place len None = false
is_met place len (Some stub) = meets place len stub

module _ (place : ℕ) where
  at_by : (b c : Bool) (first : Stub) (rest : List Stub) → (b ≡ true → c ≡ false) →
      (b ≡ false → find (stands_at place) rest ≡ None) →
      find (stands_at place) rest ≡ if_at place (find (stands_from place) rest) →
      stands_at place first ≡ c →
      cond c (Some first) (find (stands_at place) rest)
      ≡ if_at place (cond (not b) (Some first) (find (stands_from place) rest))
  at_by true c first rest far none later is =
      ap (λ t. cond t (Some first) (find (stands_at place) rest)) (far refl) ∙ later
  at_by false true first rest far none later is = ap (λ t. then_some t first) (sym is)
  at_by false false first rest far none later is = none refl ∙ ap (λ t. then_some t first) (sym is)

  find_at_is : (stubs : List Stub) → IsInOrder stubs →
      find (stands_at place) stubs ≡ if_at place (find (stands_from place) stubs)
  find_at_is [] h = refl
  find_at_is (first ∷ rest) h =
      at_by (stands_before place first) (stands_at place first) first rest
      (λ e. ne_eqb _ _ (λ same. absurd (omega (arith, same, ltb-true _ _ e))))
      (λ e. find-none (stands_at place) rest (λ k d below. ne_eqb _ _
      (λ same. absurd (omega
      (arith, same, ltb-false _ _ e, in_order-behind first rest h k d below)))))
      (find_at_is rest (in_order-tail first rest h)) refl

  pub found_at : (stubs : List Stub) → IsInOrder stubs → (first : Option Stub) →
      first ≡ find (stands_from place) stubs → if_at place first ≡ find (stands_at place) stubs
  found_at stubs h first e = ap (if_at place) e ∙ sym (find_at_is stubs h)

  module _ (len : ℕ) where
    met_by : (b c : Bool) (first : Stub) (rest : List Stub) → (b ≡ true → c ≡ false) →
        (b ≡ false → c ≡ false → list_any (meets place len) rest ≡ false) →
        list_any (meets place len) rest ≡ is_met place len (find (stands_from (place - 7)) rest) →
        meets place len first ≡ c →
        (c || list_any (meets place len) rest)
        ≡ is_met place len (cond (not b) (Some first) (find (stands_from (place - 7)) rest))
    met_by true c first rest far none later is =
        ap (λ t. t || list_any (meets place len) rest) (far refl) ∙ later
    met_by false true first rest far none later is = sym is
    met_by false false first rest far none later is = none refl refl ∙ sym is

    -- a range that does not meet the first stub that ends behind its place meets none
    any_met_is : (stubs : List Stub) → IsInOrder stubs →
        list_any (meets place len) stubs ≡ is_met place len (find (stands_from (place - 7)) stubs)
    any_met_is [] h = refl
    any_met_is (first ∷ rest) h =
        met_by (stands_before (place - 7) first) (meets place len first) first rest
        (λ e. le-ltb _ _ (omega (arith, ltb-true _ _ e)))
        (λ e f. list_any_none (meets place len) rest
        (λ k d below. le-ltb _ _ (omega
        (arith, ltb-false _ _ e, ltb-false _ _ f, in_order-behind first rest h k d below))))
        (any_met_is rest (in_order-tail first rest h)) refl

    pub found_met : (stubs : List Stub) → IsInOrder stubs → (first : Option Stub) →
        first ≡ find (stands_from (place - 7)) stubs →
        is_met place len first ≡ list_any (meets place len) stubs
    found_met stubs h first e = ap (is_met place len) e ∙ sym (any_met_is stubs h)
