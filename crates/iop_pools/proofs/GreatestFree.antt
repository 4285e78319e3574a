-- So many bytes are free at one place of a pool as the greatest of its gaps has, and more at none.
use Rattle.std.proofs.Common.{◌≡◌, ℕ, ◌+◌, ◌-◌, ◌≤◌, ◌⊎◌, inl, inr, Bool, true, false, nat_le, max, List, [], ◌∷◌, refl, sym, subst, arith, All}
use Rattle.std.proofs.Math.Nat.{max-eq_left, max-eq_right, le-max_left, le-max_right}
use Rattle.std.proofs.lemmas.Bool.{leb-true, leb-false}
use Rattle.std.proofs.lemmas.List.Elements.{All-nil, All-cons, All-head, All-tail}
use Rattle.iop_pools.specs.Laws.{IsMostFree}
use Rattle.iop_pools.specs.Pools.{Pool, greatest_free}
use Rattle.iop_pools.specs.Ranges.{end_of, gaps, greatest}
use Rattle.iop_pools.specs.Standing.{AreInOrder, IsPool}
use Rattle.iop_pools.specs.declared.range.Range.{Range}
use Rattle.iop_pools.proofs.RangesOf.{order-le}

-- so many bytes at a place do not meet a range
abbrev IsApart : (len place : ℕ) → Range → Type 0
IsApart len place r = (end_of r ≤ place) ⊎ (place + len ≤ r.start)

-- so many bytes are free at a place between two others
record HasFree (from end : ℕ) (rs : List Range) (len : ℕ) : Type 0 where
  place : ℕ
  behind : from ≤ place
  inside : place + len ≤ end
  apart : All (IsApart len place) rs

-- what ends in front of all of them meets none
in_front : (from end len place : ℕ) (rs : List Range) → AreInOrder from end rs
    → place + len ≤ from → All (IsApart len place) rs
in_front from end len place [] order before = All-nil (IsApart len place)
in_front from end len place (r ∷ rs) order before =
    All-cons (IsApart len place) r rs (inr (omega (arith, before, order.0)))
    (in_front (end_of r) end len place rs order.2 (omega (arith, before, order.0, order.1)))

module _ (from end : ℕ) (r : Range) (rs : List Range) (order : AreInOrder from end (r ∷ rs)) where
  before_it : HasFree from end (r ∷ rs) (r.start - from)
  before_it =
      let len = r.start - from in
      let ends = order-le (end_of r) end rs order.2 in
      record {
        place = from;
        behind = omega arith;
        inside = omega (arith, order.0, order.1, ends);
        apart =
            All-cons (IsApart len from) r rs (inr (omega (arith, order.0)))
            (in_front (end_of r) end len from rs order.2 (omega (arith, order.0, order.1)));
      }

  behind_it : (len : ℕ) → HasFree (end_of r) end rs len → HasFree from end (r ∷ rs) len
  behind_it len later = record {
    place = later.place;
    behind = omega (arith, later.behind, order.0, order.1);
    inside = later.inside;
    apart = All-cons (IsApart len later.place) r rs (inl later.behind) later.apart;
  }

  greater : (rest : ℕ) (b : Bool) → nat_le rest (r.start - from) ≡ b
      → HasFree (end_of r) end rs rest → HasFree from end (r ∷ rs) (max (r.start - from) rest)
  greater rest true is later =
      subst (HasFree from end (r ∷ rs)) (sym (max-eq_left (leb-true rest (r.start - from) is)))
      before_it
  greater rest false is later =
      let less = leb-false rest (r.start - from) is in
      let le : r.start - from ≤ rest = omega (arith, less) in
      subst (HasFree from end (r ∷ rs)) (sym (max-eq_right le)) (behind_it rest later)

greatest_fits : (from end : ℕ) (rs : List Range) → AreInOrder from end rs
    → HasFree from end rs (greatest (gaps from end rs))
greatest_fits from end [] order =
    let only : max (end - from) 0 ≡ end - from = max-eq_left (omega arith) in
    subst (HasFree from end []) (sym only) (record {
      place = from;
      behind = omega arith;
      inside = omega (arith, order);
      apart = All-nil (IsApart (end - from) from);
    })
greatest_fits from end (r ∷ rs) order =
    let rest = greatest (gaps (end_of r) end rs) in
    greater from end r rs order rest (nat_le rest (r.start - from)) refl
    (greatest_fits (end_of r) end rs order.2)

none_greater : (from end : ℕ) (rs : List Range) → AreInOrder from end rs
    → (len place : ℕ) → from ≤ place → place + len ≤ end → All (IsApart len place) rs
    → len ≤ greatest (gaps from end rs)
none_greater from end [] order len place behind inside apart =
    omega (arith, behind, inside, le-max_left (end - from) 0)
none_greater from end (r ∷ rs) order len place behind inside apart =
    let first = r.start - from in
    let rest = greatest (gaps (end_of r) end rs) in
    elim (All-head (IsApart len place) r rs apart) [
      | inl past ↦
          let le = none_greater (end_of r) end rs order.2 len place past inside
          (All-tail (IsApart len place) r rs apart) in
          omega (arith, le, le-max_right first rest)
      | inr before ↦ omega (arith, before, behind, le-max_left first rest)
    ]

pub greatest_is_most : (most : ℕ) (x : Pool) → IsPool most x → IsMostFree x (greatest_free x)
greatest_is_most most x sound =
    let end = x.base + x.size in
    let one = greatest_fits x.base end x.ranges sound.order in
    record {
      place = one.place;
      behind = one.behind;
      free = record { inside = one.inside; apart = one.apart };
      most = λ len place behind free.
          none_greater x.base end x.ranges sound.order len place behind free.inside free.apart;
    }
