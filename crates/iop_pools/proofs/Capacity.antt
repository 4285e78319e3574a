-- How many ranges can be out of all pools together.
use Rattle.std.proofs.Common.{◌≡◌, ℕ, suc, ◌+◌, ◌*◌, ◌≤◌, Bool, true, false, cond, not, is_some, Some, List, [], ◌∷◌, length, map, filter, if◌then◌else◌, refl, ap, sym, ◌∙◌, subst, arith, All}
use Rattle.std.specs.Prelude.{◌==◌}
use Rattle.std.proofs.lemmas.Bool.{eqb-false, ne_eqb}
use Rattle.std.proofs.lemmas.List.Elements.{All-nil, All-cons, All-head, All-tail, All-weaker}
use Rattle.iop_objects.specs.Objects.{Object, Objects, object_of}
use Rattle.iop_objects.specs.declared.objects.TheConstants.{MOST_OBJECTS}
use Rattle.iop_pools.specs.Pools.{Pool}
use Rattle.iop_pools.specs.Standing.{ranges_of, pool_in, AreInOrder, IsPool, IsTable}
use Rattle.iop_pools.specs.Walks.{is_behind, with_out}
use Rattle.iop_pools.specs.declared.layout.Layout.{Layout}
use Rattle.iop_pools.specs.declared.out.Out.{Out}
use Rattle.iop_pools.proofs.Gaps.{count-le}
use Rattle.iop_pools.proofs.RangesOf.{ranges_of-own, ranges_of-other}

pub length-with_out : (o : Out) (xs : List Out) → length (with_out o xs) ≡ length xs + 1
length-with_out o [] = refl
length-with_out o (x ∷ xs) = by (is_behind o.pool o.range.start x) (length-with_out o xs)
  where
    by : (b : Bool) → length (with_out o xs) ≡ length xs + 1
        → length (if b then o ∷ x ∷ xs else x ∷ with_out o xs) ≡ length (x ∷ xs) + 1
    by true later = omega arith
    by false later = omega (arith, later)

-- the ranges of all other pools
abbrev pub others_of : ℕ → List Out → List Out
others_of id outs = filter (λ o. not (o.pool == id)) outs

parts : (id : ℕ) (outs : List Out)
    → length (ranges_of id outs) + length (others_of id outs) ≡ length outs
parts id [] = refl
parts id (o ∷ outs) = by (o.pool == id) (parts id outs)
  where
    by : (b : Bool) → length (ranges_of id outs) + length (others_of id outs) ≡ length outs
        → length (map (λ o. o.range) (cond b (o ∷ filter (λ o. o.pool == id) outs)
        (filter (λ o. o.pool == id) outs)))
        + length (cond (not b) (o ∷ others_of id outs) (others_of id outs))
        ≡ suc (length outs)
    by true same = omega (arith, same)
    by false same = omega (arith, same)

fewer : (id other : ℕ) (outs : List Out)
    → length (ranges_of other (others_of id outs)) ≤ length (ranges_of other outs)
fewer id other [] = omega arith
fewer id other (o ∷ outs) = by (o.pool == id) (o.pool == other) refl (fewer id other outs)
  where
    by : (b c : Bool) → (o.pool == other) ≡ c
        → length (ranges_of other (others_of id outs)) ≤ length (ranges_of other outs)
        → length (ranges_of other (cond (not b) (o ∷ others_of id outs) (others_of id outs)))
        ≤ length (ranges_of other (o ∷ outs))
    by true true is le =
        omega (arith, le, ap length (ranges_of-own other o outs is))
    by true false is le =
        omega (arith, le, ap length (ranges_of-other other o outs is))
    by false true is le =
        omega (
          arith,
          le,
          ap length (ranges_of-own other o outs is),
          ap length (ranges_of-own other o (others_of id outs) is),
        )
    by false false is le =
        omega (
          arith,
          le,
          ap length (ranges_of-other other o outs is),
          ap length (ranges_of-other other o (others_of id outs) is),
        )

-- a pool has no more ranges than units
pub units_count : (most : ℕ) (x : Pool) (sound : IsPool most x) → length x.ranges ≤ sound.units
units_count most x sound =
    let end : x.base + x.size ≡ x.base + sound.units * x.unit =
    omega (arith, sound.size) in
    let from : x.base ≡ x.base + 0 * x.unit = omega arith in
    let order : AreInOrder (x.base + 0 * x.unit) (x.base + sound.units * x.unit) x.ranges =
    subst (λ n. AreInOrder n (x.base + sound.units * x.unit) x.ranges) from
    (subst (λ n. AreInOrder x.base n x.ranges) end sound.order) in
    let count = count-le x.base x.unit sound.units sound.unit 0 x.ranges sound.placed order in
    omega (arith, count)

few_of : (most : ℕ) (x : Pool) → IsPool most x → length x.ranges ≤ most
few_of most x sound = omega (arith, units_count most x sound, sound.few)

module _ {W : Type 0} where
  abbrev IsOwned : List (Object Layout W) → Out → Type 0
  IsOwned live o = is_some (object_of live o.pool) ≡ true

  owned_others : (p : Object Layout W) (live : List (Object Layout W)) (outs : List Out)
      → All (IsOwned (p ∷ live)) outs → All (IsOwned live) (others_of p.id outs)
  owned_others p live [] all = All-nil (IsOwned live)
  owned_others p live (o ∷ outs) all =
      by (o.pool == p.id) refl (All-head (IsOwned (p ∷ live)) o outs all)
      (owned_others p live outs (All-tail (IsOwned (p ∷ live)) o outs all))
    where
      by : (b : Bool) → (o.pool == p.id) ≡ b → IsOwned (p ∷ live) o
          → All (IsOwned live) (others_of p.id outs)
          → All (IsOwned live)
          (cond (not b) (o ∷ others_of p.id outs) (others_of p.id outs))
      by true is here later = later
      by false is here later =
          let away : (p.id == o.pool) ≡ false =
          ne_eqb p.id o.pool (λ e. eqb-false o.pool p.id is (sym e)) in
          let behind : IsOwned live o =
          sym (ap (λ b. is_some (cond b (Some p) (object_of live o.pool))) away) ∙ here in
          All-cons (IsOwned live) o (others_of p.id outs) behind later

  module _ (most : ℕ) where
    abbrev IsFew : List Out → Object Layout W → Type 0
    IsFew outs o = length (ranges_of o.id outs) ≤ most

    count_out : (live : List (Object Layout W)) (outs : List Out) → All (IsOwned live) outs
        → All (IsFew outs) live → length outs ≤ length live * most
    count_out [] [] owned few = omega arith
    count_out [] (o ∷ outs) owned few =
        let never : IsOwned [] o = All-head (IsOwned []) o outs owned in cc
    count_out (p ∷ live) outs owned few =
        let here = All-head (IsFew outs) p live few in
        let later =
        count_out live (others_of p.id outs) (owned_others p live outs owned)
        (All-weaker (IsFew outs) (IsFew (others_of p.id outs))
        (λ o le. omega (arith, le, fewer p.id o.id outs)) live
        (All-tail (IsFew outs) p live few)) in
        let all = parts p.id outs in
        let more : length (p ∷ live) * most ≡ most + length live * most = grind arith in
        omega (arith, here, later, all, more)

    each_few : (outs : List Out) (live : List (Object Layout W))
        → All (λ o. IsPool most o.state) (map (pool_in outs) live) → All (IsFew outs) live
    each_few outs [] all = All-nil (IsFew outs)
    each_few outs (o ∷ live) all =
        All-cons (IsFew outs) o live
        (few_of most (pool_in outs o).state
        (All-head (λ p. IsPool most p.state) (pool_in outs o) (map (pool_in outs) live) all))
        (each_few outs live
        (All-tail (λ p. IsPool most p.state) (pool_in outs o) (map (pool_in outs) live) all))

    pub few_out : (objects : Objects Layout W) (outs : List Out) → IsTable objects outs most
        → length objects.live ≤ MOST_OBJECTS → length outs ≤ MOST_OBJECTS * most
    few_out objects outs table few =
        let count =
        count_out objects.live outs table.owned (each_few outs objects.live table.pools) in
        let more : length objects.live * most ≤ MOST_OBJECTS * most = grind (arith, few) in
        omega (arith, count, more)
