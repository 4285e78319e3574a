-- What a table tells of one pool.
use Rattle.std.proofs.Common.{◌≡◌, ◌≢◌, ℕ, ◌<◌, IfSome, slice_get, subst, true, false, is_some, Option, Some, None, option_map, unwrap_or, List, [], ◌∷◌, refl, ap, sym, ◌∙◌, All}
use Rattle.std.proofs.lemmas.Bool.{ne_eqb}
use Rattle.std.proofs.lemmas.List.Elements.{All-head, All-tail, All-weaker}
use Rattle.std.proofs.lemmas.Option.{slice_get-map, slice_get_within, get_or_from_slice_get}
use Rattle.iop_objects.specs.Objects.{Object, Objects, object_of, state_of}
use Rattle.iop_pools.specs.Pools.{Pool, Pools, ranges_in}
use Rattle.iop_pools.specs.Standing.{ranges_of, pool_with, pool_in, pools_in, IsPool, IsTable}
use Rattle.iop_pools.specs.declared.layout.Layout.{Layout}
use Rattle.iop_pools.specs.declared.out.Out.{Out}
use Rattle.iop_pools.proofs.RangesOf.{ranges_of-other}
use Rattle.iop_pools.proofs.Reading.{state_of-in}
use Rattle.iop_pools.proofs.Tables.{state_holds}

-- none is out of a pool of which no range stands there
pub ranges_of-none : (id : ℕ) (outs : List Out) → All (λ o. o.pool ≢ id) outs
    → ranges_of id outs ≡ []
ranges_of-none id [] none = refl
ranges_of-none id (o ∷ outs) none =
    ranges_of-other id o outs (ne_eqb o.pool id (All-head (λ o. o.pool ≢ id) o outs none))
    ∙ ranges_of-none id outs (All-tail (λ o. o.pool ≢ id) o outs none)

module _ {W : Type 0} (objects : Objects Layout W) (outs : List Out) (most : ℕ)
    (table : IsTable objects outs most) where
  -- the pool at a place has units
  pub nth_unit : (place : ℕ) (found : Option (ℕ × Layout))
      → found ≡ option_map (λ o. (o.id, o.state)) (slice_get objects.live place)
      → IfSome {T = ℕ × Layout} found (λ pool. 0 < pool.1.unit)
  nth_unit place found is =
      subst (λ f. IfSome {T = ℕ × Layout} f (λ pool. 0 < pool.1.unit)) (sym is)
      (by (slice_get objects.live place) refl)
    where
      by : (o : Option (Object Layout W)) → slice_get objects.live place ≡ o
          → IfSome {T = ℕ × Layout} (option_map (λ o. (o.id, o.state)) o) (λ pool. 0 < pool.1.unit)
      by None at = tt
      by (Some o) at =
          let p = pool_in outs o in
          let pools = (pools_in objects outs).live in
          let pool_at : slice_get pools place ≡ Some p =
          slice_get-map (pool_in outs) objects.live place ∙ ap (option_map (pool_in outs)) at in
          let sound = subst (λ (q : Object Pool W). IsPool most q.state)
          (get_or_from_slice_get pools place p p pool_at)
          (table.pools place p (slice_get_within pools place p pool_at)) in
          sound.unit

module _ {W : Type 0} (objects : Objects Layout W) (outs : List Out) (most : ℕ)
    (table : IsTable objects outs most) (id : ℕ) where
  abbrev own : Pools W
  own = pools_in objects outs

  -- nor of one that is not live
  none_out : state_of objects id ≡ None → ranges_of id outs ≡ []
  none_out none =
      ranges_of-none id outs
      (All-weaker (λ o. is_some (object_of objects.live o.pool) ≡ true) (λ o. o.pool ≢ id)
      (λ o owned same.
      let not_live : is_some (object_of objects.live id) ≡ false =
      by (object_of objects.live id) none in
      let live : is_some (object_of objects.live id) ≡ true =
      ap (λ n. is_some (object_of objects.live n)) (sym same) ∙ owned in
      cc) outs table.owned)
    where
      by : (o : Option (Object Layout W)) → option_map (λ p. p.state) o ≡ None
          → is_some o ≡ false
      by None e = refl
      by (Some o) e = cc

  pub ranges_in-is : ranges_in own id ≡ ranges_of id outs
  ranges_in-is = by (state_of objects id) refl
    where
      by : (x : Option Layout) → state_of objects id ≡ x → ranges_in own id ≡ ranges_of id outs
      by None is =
          ap (λ (x : Option Pool). unwrap_or (option_map (λ y. y.ranges) x) [])
          (state_of-in objects outs id
          ∙ ap (option_map (λ x. pool_with x (ranges_of id outs))) is)
          ∙ sym (none_out is)
      by (Some x) is =
          ap (λ (x : Option Pool). unwrap_or (option_map (λ y. y.ranges) x) [])
          (state_of-in objects outs id
          ∙ ap (option_map (λ x. pool_with x (ranges_of id outs))) is)

  pub state_none : None ≡ state_of objects id → state_of own id ≡ None
  state_none is =
      state_of-in objects outs id
      ∙ ap (option_map (λ x. pool_with x (ranges_of id outs))) (sym is)

  module _ (x : Layout) (live : Some x ≡ state_of objects id) where
    abbrev pub pool : Pool
    pool = pool_with x (ranges_of id outs)

    pub state_is : state_of own id ≡ Some pool
    state_is =
        state_of-in objects outs id
        ∙ ap (option_map (λ x. pool_with x (ranges_of id outs))) (sym live)

    -- it is sound
    pub pool_sound : IsPool most pool
    pool_sound = state_holds (IsPool most) id own.live pool state_is table.pools
