-- The last of the ranges that are out of a pool, and a range that is put behind it.
use Rattle.std.proofs.Common.{◌≡◌, ℕ, ◌+◌, ◌-◌, ◌*◌, ◌/◌, ◌%◌, ◌<◌, ◌≤◌, ◌∙◌, ◌==◌, nat_lt, nat_le, Bool, true, false, cond, Option, Some, None, option_map, List, [], ◌∷◌, ◌++◌, map, filter, find, reverse, refl, sym, ap, arith, div-add-mod', mul_comm}
use Rattle.std.specs.List.{last_or}
use Rattle.std.specs.Option.{option_or}
use Rattle.std.proofs.Math.Nat.{mul-mod_left, mul-mod_right, mul-sub}
use Rattle.std.proofs.lemmas.Bool.{and_parts, and_from, leb-true, le-leb, ltb-true, lt-ltb, eqb-true, eq-eqb}
use Rattle.std.proofs.lemmas.List.{reverse-append}
use Rattle.std.proofs.lemmas.List.Folds.{find-append}
use Rattle.iop_pools.specs.Ranges.{end_of}
use Rattle.iop_pools.specs.Restoring.{last_end, lies_from}
use Rattle.iop_pools.specs.Standing.{ranges_of, AreInOrder, IsPlace, ArePlaced}
use Rattle.iop_pools.specs.Walks.{end_behind}
use Rattle.iop_pools.specs.declared.layout.Layout.{Layout}
use Rattle.iop_pools.specs.declared.out.Out.{Out}
use Rattle.iop_pools.specs.declared.range.Range.{Range}
use Rattle.iop_pools.proofs.Gaps.{range_at}

-- the last range of a pool is the first that is found from the end on
module _ (id : ℕ) where
  abbrev is_own : Out → Bool
  is_own o = o.pool == id

  abbrev found : List Out → Option Range
  found outs = option_map (λ o. o.range) (find is_own (reverse outs))

  reverse_cons : (o : Out) (outs : List Out) → reverse (o ∷ outs) ≡ reverse outs ++ o ∷ []
  reverse_cons o outs = reverse-append (o ∷ []) outs

  found_cons : (o : Out) (outs : List Out) → found (o ∷ outs)
      ≡ option_or (found outs) (cond (is_own o) (Some o.range) None)
  found_cons o outs =
      ap (λ l. option_map (λ o. o.range) (find is_own l)) (reverse_cons o outs)
      ∙ ap (option_map (λ o. o.range)) (find-append is_own (reverse outs) (o ∷ []))
      ∙ by (find is_own (reverse outs)) (is_own o)
    where
      by : (f : Option Out) (b : Bool)
          → option_map (λ o. o.range) (option_or f (cond b (Some o) None))
          ≡ option_or (option_map (λ o. o.range) f) (cond b (Some o.range) None)
      by (Some p) b = refl
      by None true = refl
      by None false = refl

  last_from : (first : Option Range) (outs : List Out)
      → last_or first (ranges_of id outs) ≡ option_or (found outs) first
  last_from first [] = refl
  last_from first (o ∷ outs) =
      by (is_own o) refl (last_from (Some o.range) outs) (last_from first outs)
      ∙ sym (ap (λ f. option_or f first) (found_cons o outs))
    where
      or_or : (a b c : Option Range) → option_or a (option_or b c) ≡ option_or (option_or a b) c
      or_or (Some r) b c = refl
      or_or None b c = refl

      by : (b : Bool) → is_own o ≡ b
          → last_or (Some o.range) (ranges_of id outs)
          ≡ option_or (found outs) (Some o.range)
          → last_or first (ranges_of id outs) ≡ option_or (found outs) first
          → last_or first
          (map (λ o. o.range) (cond b (o ∷ filter is_own outs) (filter is_own outs)))
          ≡ option_or (option_or (found outs) (cond (is_own o) (Some o.range) None)) first
      by true is own other =
          own
          ∙ or_or (found outs) (Some o.range) first
          ∙ sym (ap (λ b. option_or (option_or (found outs) (cond b (Some o.range) None)) first) is)
      by false is own other =
          other
          ∙ or_or (found outs) None first
          ∙ sym (ap (λ b. option_or (option_or (found outs) (cond b (Some o.range) None)) first) is)

  pub last-is : (outs : List Out) → found outs ≡ last_or None (ranges_of id outs)
  last-is outs = sym (last_from None outs ∙ or_none (found outs))
    where
      or_none : (a : Option Range) → option_or a None ≡ a
      or_none (Some r) = refl
      or_none None = refl

-- where the last range ends
pub last_end-is : (from : ℕ) (rs : List Range)
    → end_behind from (last_or None rs) ≡ last_end from rs
last_end-is from rs = each None from from refl rs
  where
    each : (last : Option Range) (from end : ℕ) → end_behind from last ≡ end → (rs : List Range)
        → end_behind from (last_or last rs) ≡ last_end end rs
    each last from end is [] = is
    each last from end is (r ∷ rs) = each (Some r) from (end_of r) refl rs

pub last_end-push : (from : ℕ) (rs : List Range) (r : Range)
    → last_end from (rs ++ r ∷ []) ≡ end_of r
last_end-push from [] r = refl
last_end-push from (x ∷ rs) r = last_end-push (end_of x) rs r

-- it is behind the place that all begin from, and not behind that at which they end
pub last_end-le : (from end : ℕ) (rs : List Range) → AreInOrder from end rs
    → (from ≤ last_end from rs) × (last_end from rs ≤ end)
last_end-le from end [] order = (omega arith, order)
last_end-le from end (r ∷ rs) order =
    let later = last_end-le (end_of r) end rs order.2 in
    (omega (arith, later.0, order.0, order.1), later.1)

-- a range that is put there keeps the order
pub order-push : (from end start size : ℕ) (rs : List Range) → AreInOrder from end rs
    → last_end from rs ≤ start → 0 < size → start + size ≤ end
    → AreInOrder from end (rs ++ range_at start size ∷ [])
order-push from end start size [] order behind some inside = (behind, some, inside)
order-push from end start size (r ∷ rs) order behind some inside =
    (order.0, order.1, order-push (end_of r) end start size rs order.2 behind some inside)

pub placed-push : (base unit : ℕ) (r : Range) → IsPlace base unit r.start
    → IsPlace base unit (end_of r) → (rs : List Range) → ArePlaced base unit rs
    → ArePlaced base unit (rs ++ r ∷ [])
placed-push base unit r first last [] placed = (first, last, tt)
placed-push base unit r first last (x ∷ rs) placed =
    (placed.0, placed.1, placed-push base unit r first last rs placed.2)

-- what the test of a range says
pub record LiesBehind (x : Layout) (from place size : ℕ) : Type 0 where
  pub behind : from ≤ place
  pub placed : (place - x.base) % x.unit ≡ 0
  pub some : 0 < size
  pub units : size % x.unit ≡ 0
  pub inside : place + size ≤ x.base + x.size

module _ (x : Layout) (from place size : ℕ) where
  pub facts_of : lies_from x from place size ≡ true → LiesBehind x from place size
  facts_of may =
      let inside = and_parts _ (nat_le (place + size) (x.base + x.size)) may in
      let units = and_parts _ (size % x.unit == 0) inside.0 in
      let some = and_parts _ (nat_lt 0 size) units.0 in
      let placed = and_parts _ ((place - x.base) % x.unit == 0) some.0 in
      record {
        behind = leb-true _ _ placed.0;
        placed = eqb-true _ _ placed.1;
        some = ltb-true _ _ some.1;
        units = eqb-true _ _ units.1;
        inside = leb-true _ _ inside.1;
      }

  pub from_facts : LiesBehind x from place size → lies_from x from place size ≡ true
  from_facts f =
      and_from _ _ (and_from _ _ (and_from _ _ (and_from _ _ (le-leb _ _ f.behind)
      (eq-eqb _ _ f.placed)) (lt-ltb _ _ f.some)) (eq-eqb _ _ f.units)) (le-leb _ _ f.inside)

  -- it begins and ends so many units behind the base
  pub first_place : LiesBehind x from place size → x.base ≤ from → IsPlace x.base x.unit place
  first_place f le =
      let parts = div-add-mod' (place - x.base) x.unit in
      ((place - x.base) / x.unit, omega (arith, parts, f.placed, f.behind, le))

  pub last_place : LiesBehind x from place size → x.base ≤ from
      → IsPlace x.base x.unit (place + size)
  last_place f le =
      let first = first_place f le in
      let parts = div-add-mod' size x.unit in
      (first.0 + size / x.unit, omega (arith, parts, f.units, first.1))

-- units of a pool behind others are seen as such
pub units_behind : (x : Layout) (from place size : ℕ) → from ≤ place → 0 < size
    → place + size ≤ x.base + x.size → IsPlace x.base x.unit place
    → IsPlace x.base x.unit (place + size) → LiesBehind x from place size
units_behind x from place size le some inside first last = record {
  behind = le;
  placed =
      let away : place - x.base ≡ first.0 * x.unit = omega (arith, first.1) in
      ap (λ n. n % x.unit) away ∙ mul-mod_left first.0 x.unit;
  some = some;
  units =
      let long : size ≡ x.unit * last.0 - x.unit * first.0 =
      omega (arith, first.1, last.1, mul_comm last.0 x.unit, mul_comm first.0 x.unit) in
      ap (λ n. n % x.unit) (long ∙ sym (mul-sub x.unit last.0 first.0))
      ∙ mul-mod_right x.unit (last.0 - first.0);
  inside = inside;
}
