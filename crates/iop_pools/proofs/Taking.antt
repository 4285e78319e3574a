-- A range that is taken.
use Rattle.std.proofs.Common.{◌≡◌, ◌≢◌, ℕ, ◌+◌, ◌*◌, ◌/◌, ◌<◌, ◌≤◌, ◌∙◌, true, refl, Option, Some, None, is_some, List, length, ap, sym, subst, arith, mul-div_cancel, le-div_iff_mul-le, mul-pos, div-add-mod', min, zero, suc, ◌%◌, ◌^◌, mul-lt-mul_of_pos_right}
use Rattle.std.specs.Int.{div_ceil}
use Rattle.std.proofs.lemmas.List.Elements.{All-weaker}
use Rattle.iop_objects.specs.Objects.{Objects, AreObjects, object_of, state_of}
use Rattle.iop_objects.specs.declared.objects.TheConstants.{MOST_OBJECTS}
use Rattle.iop_pools.specs.Pools.{Pool, Pools, place_for, with_ranges, takes_at, takes_of, takes_place}
use Rattle.iop_pools.specs.Ranges.{with_range, first_free, rounded}
use Rattle.iop_pools.specs.Standing.{ranges_of, pools_in, AreInOrder, IsPlace, ArePlaced, IsLength, IsPool, IsTable}
use Rattle.iop_pools.specs.Walks.{first_gap, with_out}
use Rattle.iop_pools.specs.declared.layout.Layout.{Layout}
use Rattle.iop_pools.specs.declared.out.Out.{Out}
use Rattle.iop_pools.specs.declared.range.Range.{Range}
use Rattle.iop_pools.proofs.Capacity.{few_out, length-with_out}
use Rattle.iop_pools.proofs.Gaps.{range_at, gap-none, order-with, placed-gap, placed-with}
use Rattle.iop_pools.proofs.Outs.{ranges_of-with, ranges_of-with_other}
use Rattle.iop_pools.proofs.Places.{first_free-is}
use Rattle.iop_pools.proofs.Sound.{pool, state_is, state_none, pool_sound}
use Rattle.iop_pools.proofs.Tables.{Keeps, pools_in-changed, IsTable-changed, All-with_out, id_below, is_live, one_alone}

-- a size that is not 0 has a unit at least
pub ceil_some : (size unit : ℕ) → 0 < size → 1 ≤ div_ceil size unit
ceil_some size unit some = by (size / unit) (div-add-mod' size unit)
  where
    by : (q : ℕ) → q * unit + size % unit ≡ size → 1 ≤ q + min 1 (size % unit)
    by zero e = omega (arith, e, some)
    by (suc q) e = omega arith

module _ {W : Type 0} (objects : Objects Layout W) (outs : List Out) (most : ℕ)
    (table : IsTable objects outs most) (id size : ℕ) where
  abbrev own : Pools W
  own = pools_in objects outs

  abbrev ranges : List Range
  ranges = ranges_of id outs

  -- no pool of this id is live
  pub takes_unknown : None ≡ state_of objects id → takes_place own id size ≡ (None, own)
  takes_unknown none = ap (takes_of own id size) (state_none objects outs most table id none)

  module _ (x : Layout) (live : Some x ≡ state_of objects id) (some : 0 < size)
      (len : ℕ) (len_is : len ≡ rounded x.unit size) where
    abbrev one : Pool
    one = pool objects outs most table id x live

    sound : IsPool most one
    sound = pool_sound objects outs most table id x live

    abbrev end : ℕ
    end = x.base + x.size

    long : IsLength x.unit len
    long = subst (IsLength x.unit) (sym len_is) (
      mul-pos (ceil_some size x.unit some) sound.unit,
      (div_ceil size x.unit, refl),
    )

    -- so many units are within the pool
    pub within : (n : ℕ) → n ≤ x.size / x.unit → n * x.unit < 2 ^ 32
    within n le =
        let fits = (le-div_iff_mul-le sound.unit).0 le in omega (arith, fits, sound.inside)

    -- the walk finds the least place
    pub place_is : place_for one size ≡ first_gap x.base end len ranges
    place_is =
        let units : x.size / x.unit ≡ sound.units =
        ap (λ n. n / x.unit) sound.size ∙ mul-div_cancel sound.units sound.unit in
        let end_is : end ≡ x.base + sound.units * x.unit = omega (arith, sound.size) in
        ap (λ n. first_free x.base x.unit (x.size / x.unit) n ranges) (sym len_is)
        ∙ ap (λ n. first_free x.base x.unit n len ranges) units
        ∙ first_free-is x.base x.unit sound.units len sound.unit long.0 ranges
        (subst (λ n. AreInOrder x.base n ranges) end_is sound.order) sound.placed
        ∙ ap (λ n. first_gap x.base n len ranges) (sym end_is)

    takes_by : (place : Option ℕ) → place ≡ first_gap x.base end len ranges
        → takes_place own id size ≡ takes_at own id size one place
    takes_by place is =
        ap (takes_of own id size) (state_is objects outs most table id x live)
        ∙ ap (takes_at own id size one) (place_is ∙ sym is)

    -- more than all of it does not fit
    pub takes_too_much : x.size / x.unit < div_ceil size x.unit
        → takes_place own id size ≡ (None, own)
    takes_too_much more =
        let whole : x.size / x.unit * x.unit ≡ x.size =
        ap (λ n. n / x.unit * x.unit) sound.size
        ∙ ap (λ n. n * x.unit) (mul-div_cancel sound.units sound.unit) ∙ sym sound.size in
        let longer : x.size / x.unit * x.unit < rounded x.unit size =
        mul-lt-mul_of_pos_right more sound.unit in
        takes_by None (sym (gap-none x.base end len ranges sound.order
        (omega (arith, whole, longer, len_is))))

    -- it does not fit
    pub takes_none : None ≡ first_gap x.base end len ranges → takes_place own id size ≡ (None, own)
    takes_none is = takes_by None is

    module _ (p : ℕ) (gap : Some p ≡ first_gap x.base end len ranges) where
      abbrev pub taken : Out
      taken = record { pool = id; range = range_at p len }

      abbrev left : List Out
      left = with_out taken outs

      others : (other : ℕ) → other ≢ id → ranges_of other left ≡ ranges_of other outs
      others other apart = ranges_of-with_other taken other (λ e. apart (sym e)) outs

      ranges_left : ranges_of id left ≡ with_range (range_at p len) ranges
      ranges_left = ranges_of-with taken outs

      pub takes_answer : Some p ≡ (takes_place own id size).0
      takes_answer = sym (ap (λ t. t.0) (takes_by (Some p) gap))

      first : IsPlace x.base x.unit p
      first =
          placed-gap x.base x.unit x.base end len p ranges (0, omega arith) sound.placed (sym gap)

      last : IsPlace x.base x.unit (p + len)
      last = (first.0 + long.1.0, omega (arith, first.1, long.1.1))

      keeps : Keeps objects id outs left others most x
      keeps was = record {
        unit = was.unit;
        units = was.units;
        size = was.size;
        few = was.few;
        inside = was.inside;
        order =
            subst (AreInOrder x.base end) (sym ranges_left)
            (order-with x.base end len p long.0 ranges was.order (sym gap));
        placed =
            subst (ArePlaced x.base x.unit) (sym ranges_left)
            (placed-with x.base x.unit (range_at p len) first last ranges was.placed);
      }

      module _ (are : AreObjects objects) where
        pub takes_left : pools_in objects left ≡ (takes_place own id size).1
        takes_left =
            pools_in-changed objects id outs left others x
            (one_alone id objects.live x are.ids (sym live))
            ∙ ap (with_ranges own id one) ranges_left
            ∙ ap (λ n. with_ranges own id one (with_range (range_at p n) ranges)) len_is
            ∙ sym (ap (λ t. t.1) (takes_by (Some p) gap))

        pub IsTable-took : IsTable objects left most
        IsTable-took =
            IsTable-changed objects id outs left others most table
            (All-weaker (λ o. o.id ≡ id → o.state ≡ x)
            (λ o. o.id ≡ id → Keeps objects id outs left others most o.state)
            (λ o same own. subst (Keeps objects id outs left others most) (sym (same own)) keeps)
            objects.live (one_alone id objects.live x are.ids (sym live)))
            (All-with_out (λ o. is_some (object_of objects.live o.pool) ≡ true) taken
            (is_live id objects.live x (sym live)) outs table.owned)
            (All-with_out (λ o. o.pool < objects.next) taken
            (id_below objects.next id objects.live x (sym live) are.given) outs table.given)

        -- there is room for it
        pub has_room : length outs < MOST_OBJECTS * most
        has_room =
            let few = few_out most objects left IsTable-took are.few in
            omega (arith, few, length-with_out taken outs)
