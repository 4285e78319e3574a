-- The ranges of one pool among those of all, and what a walk over them has still ahead.
use Rattle.std.proofs.Common.{◌≡◌, ◌≢◌, ℕ, ◌+◌, ◌-◌, ◌<◌, ◌≤◌, Bool, true, false, nat_le, Some, None, List, max, [], ◌∷◌, length, drop, get_or, refl, sym, ap, ◌∙◌, subst, arith, drop-cons, add-one, add-zero}
use Rattle.std.proofs.lemmas.Bool.{eq-eqb, ne_eqb, le-leb}
use Rattle.std.proofs.lemmas.Bool.Decides.{nat_tests}
use Rattle.std.specs.Prelude.{◌==◌, if◌then◌else◌}
use Rattle.std.specs.Bool.{then_some}
use Rattle.std.specs.Ordering.{ord_max, nat_cmp}
use Rattle.std.proofs.lemmas.List.{drop_all}
use Rattle.iop_pools.specs.Ranges.{end_of, gaps, greatest, total}
use Rattle.iop_pools.specs.Standing.{ranges_of, AreInOrder}
use Rattle.iop_pools.specs.Walks.{first_gap}
use Rattle.iop_pools.specs.declared.out.Out.{Out}
use Rattle.iop_pools.specs.declared.range.Range.{Range}

pub ranges_of-own : (id : ℕ) (o : Out) (outs : List Out) → (o.pool == id) ≡ true
    → ranges_of id (o ∷ outs) ≡ o.range ∷ ranges_of id outs
ranges_of-own id o outs own = rw own refl

pub ranges_of-other : (id : ℕ) (o : Out) (outs : List Out) → (o.pool == id) ≡ false
    → ranges_of id (o ∷ outs) ≡ ranges_of id outs
ranges_of-other id o outs other = rw other refl

-- the ranges that a walk has still ahead
abbrev pub ahead : (id : ℕ) (outs : List Out) (i : ℕ) → List Range
ahead id outs i = ranges_of id (drop i outs)

module _ (id : ℕ) (outs : List Out) (i : ℕ) (d : Out) (below : i < length outs) where
  abbrev pub here : Range
  here = (get_or outs i d).range

  cut : drop i outs ≡ get_or outs i d ∷ drop (i + 1) outs
  cut = drop-cons outs i d below ∙ ap (λ k. get_or outs i d ∷ drop k outs) (sym (add-one i))

  pub ahead-own : (get_or outs i d).pool ≡ id → ahead id outs i ≡ here ∷ ahead id outs (i + 1)
  ahead-own own =
      ap (ranges_of id) cut
      ∙ ranges_of-own id (get_or outs i d) (drop (i + 1) outs) (eq-eqb _ _ own)

  pub ahead-other : (get_or outs i d).pool ≢ id → ahead id outs i ≡ ahead id outs (i + 1)
  ahead-other other =
      ap (ranges_of id) cut
      ∙ ranges_of-other id (get_or outs i d) (drop (i + 1) outs) (ne_eqb _ _ other)

  module _ (place end : ℕ) (order : AreInOrder place end (ahead id outs i)) where
    pub order-own : (get_or outs i d).pool ≡ id
        → AreInOrder place end (here ∷ ahead id outs (i + 1))
    order-own own = subst (AreInOrder place end) (ahead-own own) order

    pub order-other : (get_or outs i d).pool ≢ id → AreInOrder place end (ahead id outs (i + 1))
    order-other other = subst (AreInOrder place end) (ahead-other other) order

-- what is in order ends where it begins, or behind it
pub order-le : (from end : ℕ) (rs : List Range) → AreInOrder from end rs → from ≤ end
order-le from end [] order = order
order-le from end (r ∷ rs) order =
    omega (arith, order.0, order.1, order-le (end_of r) end rs order.2)

-- nothing is ahead in the end
pub ahead-end : (id : ℕ) (outs : List Out) (i : ℕ) → length outs ≤ i → ahead id outs i ≡ []
ahead-end id outs i past = ap (ranges_of id) (drop_all i outs past)

-- the first gap, where a range is ahead
pub gap_here : (place end len : ℕ) (r : Range) (rs : List Range) → len ≤ r.start - place
    → first_gap place end len (r ∷ rs) ≡ Some place
gap_here place end len r rs fits = rw (le-leb len (r.start - place) fits) refl

pub gap_later : (place end len : ℕ) (r : Range) (rs : List Range) → r.start - place < len
    → first_gap place end len (r ∷ rs) ≡ first_gap (end_of r) end len rs
gap_later place end len r rs short =
    let no : nat_le len (r.start - place) ≡ false = grind (arith, nat_tests) in rw no refl

pub then_some-is : {X : Type 0} (b : Bool) (x : X)
    → then_some b x ≡ (if b then Some x else None)
then_some-is true x = refl
then_some-is false x = refl

-- the greatest of the gaps, where a range is ahead
pub greatest_more : (most place end : ℕ) (r : Range) (rs : List Range) (all more : ℕ)
    → max most (greatest (gaps place end (r ∷ rs))) ≡ all → more ≡ max most (r.start - place)
    → max more (greatest (gaps (end_of r) end rs)) ≡ all
greatest_more most place end r rs all more is more_is = omega (arith, is, more_is)

-- all of the gaps
pub total_more : (free place end : ℕ) (r : Range) (rs : List Range) (all : ℕ)
    → free + total (gaps place end (r ∷ rs)) ≡ all
    → free + (r.start - place) + total (gaps (end_of r) end rs) ≡ all
total_more free place end r rs all is =
    let first : total (gaps place end (r ∷ rs)) ≡ r.start - place + total (gaps (end_of r) end rs) =
    refl in
    omega (arith, is, first)

pub total_last : (free place end all : ℕ) → free + total (gaps place end []) ≡ all
    → free + (end - place) ≡ all
total_last free place end all is =
    let one : total (gaps place end []) ≡ end - place = add-zero (end - place) in
    omega (arith, is, one)

pub max_is : (a b n : ℕ) → n ≡ ord_max nat_cmp a b → n ≡ max a b
max_is a b n e = e ∙ grind (arith, nat_tests)
