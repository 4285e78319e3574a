-- Ranges in order are apart, and the place that is found is the least one that is free.
use Rattle.std.proofs.Common.{◌≡◌, ℕ, zero, suc, ◌+◌, ◌*◌, ◌/◌, ◌<◌, ◌≤◌, ◌⊎◌, inl, inr, ◌∙◌, Bool, true, false, cond, nat_le, Some, None, List, [], ◌∷◌, map, find, refl, ap, subst, arith, mul-div_cancel, mul-pos, All, AllPairs}
use Rattle.std.specs.Prelude.{◌==◌, ◌||◌}
use Rattle.std.specs.Bool.{Decides}
use Rattle.std.specs.List.{list_all, range_with_len}
use Rattle.std.proofs.lemmas.Bool.{eqb-true, leb-true, leb-false, le-leb}
use Rattle.std.proofs.lemmas.Bool.Decides.{Decides-and, Decides-or, Decides-by_and}
use Rattle.std.proofs.lemmas.List.Elements.{All-nil, All-cons, All-weaker}
use Rattle.iop_pools.specs.Laws.{range_of, Apart, IsFree, TakesLeast, IsFull, IsFreed, PoolsAreApart}
use Rattle.iop_pools.specs.Pools.{Pool, Pools, length_for, place_for, units_of}
use Rattle.iop_pools.specs.Ranges.{end_of, is_apart, is_free, is_out, without}
use Rattle.iop_pools.specs.Standing.{AreInOrder, IsPlace, IsPool, ArePools}
use Rattle.iop_pools.specs.declared.range.Range.{Range}
use Rattle.iop_pools.proofs.GreatestFree.{greatest_is_most}
use Rattle.iop_pools.proofs.RangesOf.{order-le}
use Rattle.iop_pools.proofs.Taking.{ceil_some}

-- what is in order begins behind its first place and ends before its end
all_within : (from end : ℕ) (rs : List Range) → AreInOrder from end rs
    → All (λ r. (from ≤ r.start) × (end_of r ≤ end)) rs
all_within from end [] order = All-nil (λ r. (from ≤ r.start) × (end_of r ≤ end))
all_within from end (r ∷ rs) order =
    All-cons (λ r. (from ≤ r.start) × (end_of r ≤ end)) r rs
    (order.0, order-le (end_of r) end rs order.2)
    (All-weaker (λ x. (end_of r ≤ x.start) × (end_of x ≤ end))
    (λ x. (from ≤ x.start) × (end_of x ≤ end))
    (λ x both. (omega (arith, both.0, order.0, order.1), both.1)) rs
    (all_within (end_of r) end rs order.2))

all_some : (from end : ℕ) (rs : List Range) → AreInOrder from end rs → All (λ r. 0 < r.size) rs
all_some from end [] order = All-nil (λ r. 0 < r.size)
all_some from end (r ∷ rs) order =
    All-cons (λ r. 0 < r.size) r rs order.1 (all_some (end_of r) end rs order.2)

all_disjoint : (from end : ℕ) (rs : List Range) → AreInOrder from end rs
    → AllPairs (λ a b. end_of a ≤ b.start) rs
all_disjoint from end [] order i j d less below = absurd (omega (arith, below))
all_disjoint from end (r ∷ rs) order zero zero d less below = absurd (omega (arith, less))
all_disjoint from end (r ∷ rs) order zero (suc j) d less below =
    (all_within (end_of r) end rs order.2 j d (omega (arith, below))).0
all_disjoint from end (r ∷ rs) order (suc i) zero d less below = absurd (omega (arith, less))
all_disjoint from end (r ∷ rs) order (suc i) (suc j) d less below =
    all_disjoint (end_of r) end rs order.2 i j d (omega (arith, less)) (omega (arith, below))

-- what is given back meets none of the others
pub record Freed (block from end : ℕ) (rs : List Range) : Type 0 where
  pub range : Range
  pub is : range_of block rs ≡ Some range
  pub start : range.start ≡ block
  pub some : 0 < range.size
  pub behind : from ≤ block
  pub inside : end_of range ≤ end
  pub apart : All (λ r. (end_of r ≤ block) ⊎ (block + range.size ≤ r.start)) (without block rs)

freed_range : (block from end : ℕ) (rs : List Range) → AreInOrder from end rs
    → is_out block rs ≡ true → Freed block from end rs
freed_range block from end [] order is = cc
freed_range block from end (r ∷ rs) order is =
    by (r.start == block) refl (freed_range block (end_of r) end rs order.2) is
  where
    by : (b : Bool) → (r.start == block) ≡ b
        → (is_out block rs ≡ true → Freed block (end_of r) end rs)
        → (b || is_out block rs) ≡ true
        → Freed block from end (r ∷ rs)
    by true here later e =
        let start = eqb-true r.start block here in
        record {
          range = r;
          is = rw here refl;
          start = start;
          some = order.1;
          behind = omega (arith, order.0, start);
          inside = order-le (end_of r) end rs order.2;
          apart = rw here
              (All-weaker (λ y. (end_of r ≤ y.start) × (end_of y ≤ end))
              (λ y. (end_of y ≤ block) ⊎ (block + r.size ≤ y.start))
              (λ y both. inr (omega (arith, both.0, start))) rs
              (all_within (end_of r) end rs order.2));
        }
    by false here later e =
        let rest = later e in
        record {
          range = rest.range;
          is = rw here rest.is;
          start = rest.start;
          some = rest.some;
          behind = omega (arith, order.0, order.1, rest.behind);
          inside = rest.inside;
          apart = rw here
              (All-cons (λ y. (end_of y ≤ block) ⊎ (block + rest.range.size ≤ y.start)) r
              (without block rs) (inl rest.behind) rest.apart);
        }

within : (a b : ℕ) → Decides (nat_le a b) (a ≤ b)
within a b = (leb-true a b, le-leb a b)

module _ (base unit : ℕ) (some : 0 < unit) (p : ℕ → Bool) where
  abbrev place : ℕ → ℕ
  place k = base + k * unit

  not_before : (a j : ℕ) → a ≤ j → place j < place a → ⊥
  not_before a j le less =
      let long : a * unit ≤ j * unit = grind (arith, le) in omega (arith, long, less)

  pub record Least (a q : ℕ) : Type 0 where
    pub passes : p q ≡ true
    pub at : IsPlace base unit q
    pub before : (j : ℕ) → a ≤ j → place j < q → p (place j) ≡ false

  found_least : (a n q : ℕ) → find p (map place (range_with_len a n)) ≡ Some q → Least a q
  found_least a zero q is = cc
  found_least a (suc n) q is =
      by (p (place a)) refl (found_least (a + 1) n q) is
    where
      by : (b : Bool) → p (place a) ≡ b
          → (find p (map place (range_with_len (a + 1) n)) ≡ Some q → Least (a + 1) q)
          → cond b (Some (place a)) (find p (map place (range_with_len (a + 1) n))) ≡ Some q
          → Least a q
      by true passes later e =
          let same : place a ≡ q = cc in
          subst (Least a) same (record {
            passes = passes;
            at = (a, refl);
            before = λ j le less. absurd (not_before a j le less);
          })
      by false fails later e =
          let rest = later e in
          record {
            passes = rest.passes;
            at = rest.at;
            before = λ j le less. here j (nat_le (a + 1) j) refl le less rest;
          }
        where
          here : (j : ℕ) (c : Bool) → nat_le (a + 1) j ≡ c → a ≤ j → place j < q
              → Least (a + 1) q → p (place j) ≡ false
          here j true is le less rest = rest.before j (leb-true (a + 1) j is) less
          here j false is le less rest =
              let same : a ≡ j = omega (arith, leb-false (a + 1) j is, le) in
              subst (λ k. p (place k) ≡ false) same fails

  none_found : (a n : ℕ) → find p (map place (range_with_len a n)) ≡ None
      → (j : ℕ) → a ≤ j → j < a + n → p (place j) ≡ false
  none_found a zero is j le less = absurd (omega (arith, le, less))
  none_found a (suc n) is j le less =
      by (p (place a)) refl (none_found (a + 1) n) is (nat_le (a + 1) j) refl
    where
      by : (b : Bool) → p (place a) ≡ b
          → (find p (map place (range_with_len (a + 1) n)) ≡ None
          → (j : ℕ) → a + 1 ≤ j → j < a + 1 + n → p (place j) ≡ false)
          → cond b (Some (place a)) (find p (map place (range_with_len (a + 1) n))) ≡ None
          → (c : Bool) → nat_le (a + 1) j ≡ c → p (place j) ≡ false
      by true passes later e c later_is = cc
      by false fails later e true later_is =
          later e j (leb-true (a + 1) j later_is) (omega (arith, less))
      by false fails later e false later_is =
          let same : a ≡ j = omega (arith, leb-false (a + 1) j later_is, le) in
          subst (λ k. p (place k) ≡ false) same fails

module _ (most : ℕ) (x : Pool) (sound : IsPool most x) where
  pub apart : Apart x
  apart = record {
    some = all_some x.base (x.base + x.size) x.ranges sound.order;
    disjoint = all_disjoint x.base (x.base + x.size) x.ranges sound.order;
    inside = all_within x.base (x.base + x.size) x.ranges sound.order;
  }

  units_is : units_of x ≡ sound.units
  units_is = ap (λ n. n / x.unit) sound.size ∙ mul-div_cancel sound.units sound.unit

  end_is : x.base + units_of x * x.unit ≡ x.base + x.size
  end_is = ap (λ n. x.base + n * x.unit) units_is ∙ omega (arith, sound.size)

  module _ (size : ℕ) (some : 0 < size) where
    abbrev len : ℕ
    len = length_for x size

    long : 0 < len
    long = mul-pos (ceil_some size x.unit some) sound.unit

    abbrev test : ℕ → Bool
    test = is_free (x.base + units_of x * x.unit) len x.ranges

    tells : (place : ℕ) → Decides (test place)
        ((place + len ≤ x.base + units_of x * x.unit)
        × All (λ r. (end_of r ≤ place) ⊎ (place + len ≤ r.start)) x.ranges)
    tells place =
        Decides-and _ _ (within _ _)
        (Decides-by_and (is_apart place len)
        (λ r. (end_of r ≤ place) ⊎ (place + len ≤ r.start)) (list_all (is_apart place len))
        (λ r. Decides-or _ _ (within _ _) (within _ _)) refl (λ _ _. refl) x.ranges)

    free_of : (place : ℕ) → test place ≡ true → IsFree x len place
    free_of place is =
        let both = (tells place).0 is in
        record { inside = omega (arith, both.0, end_is); apart = both.1 }

    passes_of : (place : ℕ) → IsFree x len place → test place ≡ true
    passes_of place free =
        (tells place).1 (omega (arith, free.inside, end_is), free.apart)

    takes : (place : ℕ) → place_for x size ≡ Some place → TakesLeast x size place
    takes place is =
        let least = found_least x.base x.unit sound.unit test 0 (units_of x) place is in
        record {
          free = free_of place least.passes;
          units = least.at;
          least = λ other at free. by other at free least (nat_le place other) refl;
        }
      where
        by : (other : ℕ) → IsPlace x.base x.unit other → IsFree x len other
            → Least x.base x.unit sound.unit test 0 place → (b : Bool)
            → nat_le place other ≡ b → place ≤ other
        by other at free least true is = leb-true place other is
        by other at free least false is =
            let less = leb-false place other is in
            let before : x.base + at.0 * x.unit < place = omega (arith, less, at.1) in
            let fails : test other ≡ false =
            ap test at.1 ∙ least.before at.0 (omega arith) before in
            let passes = passes_of other free in
            cc

    full : place_for x size ≡ None → IsFull x size
    full is place at free =
        let inside : x.base + at.0 * x.unit < x.base + units_of x * x.unit =
        omega (arith, free.inside, at.1, long, end_is) in
        let fewer : at.0 < units_of x = less_units at.0 (units_of x) inside in
        let fails : test place ≡ false =
        ap test at.1
        ∙ none_found x.base x.unit sound.unit test 0 (units_of x) is at.0 (omega arith)
        (omega (arith, fewer)) in
        let passes = passes_of place free in
        cc
      where
        less_units : (a b : ℕ) → x.base + a * x.unit < x.base + b * x.unit → a < b
        less_units a b less =
            let some = sound.unit in grind (arith, less, some)

  freed : (block : ℕ) → is_out block x.ranges ≡ true → IsFreed x block
  freed block is =
      let one = freed_range block x.base (x.base + x.size) x.ranges sound.order is in
      record {
        range = one.range;
        is = one.is;
        start = one.start;
        some = one.some;
        free = record { inside = omega (arith, one.inside, one.start); apart = one.apart };
      }

pub pools_apart : PoolsAreApart
pools_apart =
    record {
      apart = apart;
      takes = takes';
      full = full';
      freed = freed;
      greatest = greatest_is_most;
    }
  where
    takes' : (most : ℕ) (x : Pool) → IsPool most x → (size place : ℕ) → 0 < size
        → place_for x size ≡ Some place → TakesLeast x size place
    takes' most x sound size place some is = takes most x sound size some place is

    full' : (most : ℕ) (x : Pool) → IsPool most x → (size : ℕ) → 0 < size
        → place_for x size ≡ None → IsFull x size
    full' most x sound size some is = full most x sound size some is

-- so they are in every pool of a table
pub all_apart : {W : Type 0} (most : ℕ) (s : Pools W) → ArePools most s
    → All (λ o. Apart o.state) s.live
all_apart most s all =
    All-weaker (λ o. IsPool most o.state) (λ o. Apart o.state)
    (λ o sound. apart most o.state sound) s.live all
