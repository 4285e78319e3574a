-- Which ranges are out of a pool once memory is taken of it, or given back.
use Rattle.std.proofs.Common.{◌≡◌, ℕ, ◌+◌, ◌-◌, ◌<◌, ◌==◌, nat_lt, Bool, true, false, if◌then◌else◌, Option, Some, None, map, List, [], ◌∷◌, refl, ap, sym, ◌∙◌, subst, arith}
use Rattle.std.proofs.lemmas.Bool.Decides.{nat_tests}
use Rattle.iop_objects.specs.Objects.{state_of}
use Rattle.iop_objects.proofs.Changes.{state_of-with_state}
use Rattle.iop_pools.specs.Laws.{range_of, ChangesRanges, IsTakenOf, IsGivenBack, TellsRanges, MemoryIsOut}
use Rattle.iop_pools.specs.Pools.{Pool, Pools, free_of, length_for, place_for, with_ranges, takes_at, takes_of, takes_place, frees_it, frees}
use Rattle.iop_pools.specs.Ranges.{end_of, with_range, is_out, without, gaps, total}
use Rattle.iop_pools.specs.Standing.{AreInOrder, IsPool}
use Rattle.iop_pools.specs.declared.range.Range.{Range}
use Rattle.iop_pools.proofs.RangesOf.{order-le}

-- one more is found at its start, and all others as before
more_out : (r : Range) (rs : List Range) (block : ℕ)
    → range_of block (with_range r rs)
    ≡ (if r.start == block then Some r else range_of block rs)
more_out r [] block = refl
more_out r (x ∷ xs) block =
    by (nat_lt x.start r.start) refl (x.start == block) refl (more_out r xs block)
  where
    by : (before : Bool) → nat_lt x.start r.start ≡ before → (here : Bool)
        → (x.start == block) ≡ here
        → range_of block (with_range r xs)
        ≡ (if r.start == block then Some r else range_of block xs)
        → range_of block (if before then x ∷ with_range r xs else r ∷ x ∷ xs)
        ≡ (if r.start == block then Some r
        else if x.start == block then Some x else range_of block xs)
    by false is here found later = refl
    by true is true found later =
        let other : (r.start == block) ≡ false = grind (arith, nat_tests, is, found) in
        rw (found, other) refl
    by true is false found later = rw found later

-- none is at a place in front of all
none_before : (block from end : ℕ) → block < from → (rs : List Range) → AreInOrder from end rs
    → range_of block rs ≡ None
none_before block from end less [] order = refl
none_before block from end less (r ∷ rs) order =
    let other : (r.start == block) ≡ false = grind (arith, nat_tests, less, order.0) in
    rw other (none_before block (end_of r) end (omega (arith, less, order.0, order.1)) rs order.2)

-- one less is not found any more, and all others are as before
less_out : (block from end : ℕ) (rs : List Range) → AreInOrder from end rs → (other : ℕ)
    → range_of other (without block rs)
    ≡ (if block == other then None else range_of other rs)
less_out block from end [] order other = by (block == other)
  where
    by : (b : Bool) → range_of other [] ≡ (if b then None else range_of other [])
    by true = refl
    by false = refl
less_out block from end (r ∷ rs) order other =
    by (r.start == block) refl (block == other) refl
    (less_out block (end_of r) end rs order.2 other)
  where
    left : (same : Bool) → (block == other) ≡ same
        → range_of other (without block rs)
        ≡ (if block == other then None else range_of other rs)
        → range_of other (without block rs) ≡ (if same then None else range_of other rs)
    left same it later =
        subst (λ (b : Bool). range_of other (without block rs)
        ≡ (if b then None else range_of other rs)) it later

    by : (this : Bool) → (r.start == block) ≡ this → (same : Bool) → (block == other) ≡ same
        → range_of other (without block rs)
        ≡ (if block == other then None else range_of other rs)
        → range_of other (if this then rs else r ∷ without block rs)
        ≡ (if same then None else if r.start == other then Some r else range_of other rs)
    by true is true it later =
        none_before other (end_of r) end
        (grind (arith, nat_tests, is, it, order.1)) rs order.2
    by true is false it later =
        let away : (r.start == other) ≡ false = grind (arith, nat_tests, is, it) in rw away refl
    by false is true it later =
        let away : (r.start == other) ≡ false = grind (arith, nat_tests, is, it) in
        rw away (left true it later)
    by false is false it later =
        ap (λ found. if r.start == other then Some r else found) (left false it later)

module _ {W : Type 0} (s : Pools W) (id : ℕ) where
  module _ (x : Pool) (known : state_of s id ≡ Some x) where
    -- other ranges are out
    abbrev changed : (ranges : List Range) → ChangesRanges x (state_of (with_ranges s id x ranges) id)
    changed ranges = record {
      new = record x { ranges = ranges };
      is = state_of-with_state s id x known _;
      rest = refl;
    }

    pub taken_at : (size place : ℕ)
        → IsTakenOf x size place (state_of (takes_at s id size x (Some place)).1 id)
    taken_at size place =
        let new : Range = record { start = place; size = length_for x size } in
        record { changes = changed (with_range new x.ranges); ranges = more_out new x.ranges }

    pub given_at : (most block : ℕ) → IsPool most x
        → IsGivenBack x block (state_of (with_ranges s id x (without block x.ranges)) id)
    given_at most block sound = record {
      changes = changed (without block x.ranges);
      ranges = less_out block x.base (x.base + x.size) x.ranges sound.order;
    }

    taken : (size place : ℕ) → place_for x size ≡ Some place
        → ((takes_place s id size).0 ≡ Some place)
        × IsTakenOf x size place (state_of (takes_place s id size).1 id)
    taken size place is =
        let did : takes_place s id size ≡ takes_at s id size x (Some place) =
        ap (takes_of s id size) known ∙ ap (takes_at s id size x) is in (
          ap (λ t. t.0) did,
          subst (λ t. IsTakenOf x size place (state_of t.1 id)) (sym did) (taken_at size place),
        )

    given : (most block : ℕ) → IsPool most x → is_out block x.ranges ≡ true
        → IsGivenBack x block (state_of (frees s id block).1 id)
    given most block sound there =
        let did : frees s id block ≡ (Some true, with_ranges s id x (without block x.ranges)) =
        ap (frees_it s id block) known ∙ rw there refl in
        subst (λ t. IsGivenBack x block (state_of t.1 id)) (sym did) (given_at most block sound)

    kept : (block : ℕ) → is_out block x.ranges ≡ false → (frees s id block).1 ≡ s
    kept block none = ap (λ t. t.1) (ap (frees_it s id block) known) ∙ rw none refl

  not_taken : (size : ℕ) → (takes_place s id size).0 ≡ None → (takes_place s id size).1 ≡ s
  not_taken size = by (state_of s id)
    where
      at : (x : Pool) (o : Option ℕ) → (takes_at s id size x o).0 ≡ None
          → (takes_at s id size x o).1 ≡ s
      at x None none = refl
      at x (Some place) none = cc

      by : (o : Option Pool) → (takes_of s id size o).0 ≡ None → (takes_of s id size o).1 ≡ s
      by None none = refl
      by (Some x) none = at x (place_for x size) none

-- what is free and what is out between two places
all_counted : (from end : ℕ) (rs : List Range) → AreInOrder from end rs
    → total (gaps from end rs) + total (map (λ r. r.size) rs) ≡ end - from
all_counted from end [] order = omega (arith, order)
all_counted from end (r ∷ rs) order =
    let later = all_counted (end_of r) end rs order.2 in
    let within = order-le (end_of r) end rs order.2 in
    omega (arith, later, order.0, within)

counted : (most : ℕ) (x : Pool) → IsPool most x
    → free_of x + total (map (λ r. r.size) x.ranges) ≡ x.size
counted most x sound =
    omega (arith, all_counted x.base (x.base + x.size) x.ranges sound.order)

tells_ranges : {W : Type 0} (s : Pools W) → TellsRanges s
tells_ranges s = record {
  taken = λ id size place x known. taken s id x known size place;
  not_taken = not_taken s;
  given_back = λ most id block x known. given s id x known most block;
  not_given_back = λ id block x known. kept s id x known block;
}

pub memory_is_out : MemoryIsOut
memory_is_out = record { counted = counted; variable = tells_ranges; fixed = tells_ranges }
