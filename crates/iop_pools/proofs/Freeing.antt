-- A range that is given back.
use Rattle.std.proofs.Common.{◌≡◌, ◌≢◌, ℕ, ◌∙◌, Bool, true, false, Option, Some, None, is_some, List, ap, sym, subst, ◌+◌, ◌<◌, if◌then◌else◌}
use Rattle.iop_objects.specs.Objects.{Objects, AreObjects, object_of, state_of}
use Rattle.iop_pools.specs.Pools.{Pool, Pools, with_ranges, has_out, frees_it, frees}
use Rattle.iop_pools.specs.Ranges.{is_out, without}
use Rattle.iop_pools.specs.Standing.{ranges_of, pools_in, AreInOrder, ArePlaced, IsTable}
use Rattle.iop_pools.specs.Walks.{is_this, without_out}
use Rattle.iop_pools.specs.declared.layout.Layout.{Layout}
use Rattle.iop_pools.specs.declared.out.Out.{Out}
use Rattle.iop_pools.proofs.Gaps.{order-without, placed-without}
use Rattle.iop_pools.proofs.Outs.{found-is, ranges_of-without, ranges_of-without_other}
use Rattle.iop_pools.proofs.Sound.{pool, state_is, state_none, ranges_in-is}
use Rattle.iop_pools.proofs.Tables.{Keeps, pools_in-changed, IsTable-changed, All-without_out, one_alone}
use Rattle.std.specs.List.{position}

module _ {W : Type 0} (objects : Objects Layout W) (outs : List Out) (most : ℕ)
    (table : IsTable objects outs most) (id block : ℕ) where
  abbrev own : Pools W
  own = pools_in objects outs

  abbrev left : List Out
  left = without_out id block outs

  others : (other : ℕ) → other ≢ id → ranges_of other left ≡ ranges_of other outs
  others other apart = ranges_of-without_other id block other (λ e. apart (sym e)) outs

  keeps : (x : Layout) → Keeps objects id outs left others most x
  keeps x sound = record {
    unit = sound.unit;
    units = sound.units;
    size = sound.size;
    few = sound.few;
    inside = sound.inside;
    order =
        subst (AreInOrder x.base (x.base + x.size)) (sym (ranges_of-without id block outs))
        (order-without block x.base (x.base + x.size) (ranges_of id outs) sound.order);
    placed =
        subst (ArePlaced x.base x.unit) (sym (ranges_of-without id block outs))
        (placed-without x.base x.unit block (ranges_of id outs) sound.placed);
  }

  pub IsTable-freed : IsTable objects left most
  IsTable-freed =
      IsTable-changed objects id outs left others most table (λ k d below same. keeps _)
      (All-without_out (λ o. is_some (object_of objects.live o.pool) ≡ true) id block outs
      table.owned)
      (All-without_out (λ o. o.pool < objects.next) id block outs table.given)

  pub has_out-is : is_some (position (is_this id block) outs) ≡ has_out own id block
  has_out-is =
      found-is id block outs
      ∙ ap (is_out block) (sym (ranges_in-is objects outs most table id))

  -- no pool of this id is live
  pub frees_unknown : None ≡ state_of objects id → frees own id block ≡ (None, own)
  frees_unknown none = ap (frees_it own id block) (state_none objects outs most table id none)

  module _ (x : Layout) (live : Some x ≡ state_of objects id) where
    abbrev one : Pool
    one = pool objects outs most table id x live

    abbrev outcome : Bool → Option Bool × Pools W
    outcome b =
        if b then (Some true, with_ranges own id one (without block one.ranges))
        else (Some false, own)

    frees_is : (b : Bool) → b ≡ is_some (position (is_this id block) outs)
        → frees own id block ≡ outcome b
    frees_is b is =
        ap (frees_it own id block) (state_is objects outs most table id x live)
        ∙ ap outcome (sym (is ∙ found-is id block outs))

    module _ (place : ℕ) (at : Some place ≡ position (is_this id block) outs) where
      freed : frees own id block ≡ outcome true
      freed = frees_is true (ap is_some at)

      pub freed_answer : Some true ≡ (frees own id block).0
      freed_answer = sym (ap (λ t. t.0) freed)

      pub freed_left : AreObjects objects → pools_in objects left ≡ (frees own id block).1
      freed_left are =
          pools_in-changed objects id outs left others x
          (one_alone id objects.live x are.ids (sym live))
          ∙ ap (with_ranges own id one) (ranges_of-without id block outs)
          ∙ sym (ap (λ t. t.1) freed)

    pub not_freed : None ≡ position (is_this id block) outs
        → frees own id block ≡ (Some false, own)
    not_freed none = frees_is false (ap is_some none)
