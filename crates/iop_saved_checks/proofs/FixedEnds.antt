-- Where the fixed pool at a place stands, of which is told how it is laid out.
use Rattle.std.proofs.Common.{◌≡◌, ℕ, ◌*◌, ◌/◌, ◌^◌, ◌<◌, is_some, Option, Some, None, option_map, ap, refl, sym, ◌∙◌, subst, arith, mul-div_cancel, mul_comm}
use Rattle.std.specs.Prelude.{⊤, slice_get, unwrap_or}
use Rattle.std.proofs.lemmas.Option.{same_Some, slice_get-map, slice_get_within, unwrap_or-slice_get}
use Rattle.iop_base.specs.Places.{range_at}
use Rattle.iop_objects.specs.Objects.{Object}
use Rattle.iop_pools.specs.FixedPools.{FixedPools}
use Rattle.iop_pools.specs.FixedRestoring.{layout_of}
use Rattle.iop_pools.specs.Pools.{Pool}
use Rattle.iop_pools.specs.Standing.{ArePools, IsPool}
use Rattle.iop_pools.specs.declared.fixed_layout.FixedLayout.{FixedLayout}
use Rattle.iop_pools.specs.declared.fixed_pool.TheConstants.{MOST_BLOCKS}
use Rattle.iop_saved_checks.specs.Made.{is_inside, pools_of}

module _ (s : FixedPools) (are : ArePools MOST_BLOCKS s) (place : ℕ) (found : ℕ × FixedLayout)
  where
    abbrev bytes : ℕ
    bytes = found.1.size * found.1.count

    pub record IsAt : Type 0 where
      pub pool : Pool
      pub there : slice_get (pools_of s) place ≡ Some pool
      pub few : bytes < 2 ^ 32
      pub same : (size : ℕ) → is_some (range_at size found.1.base bytes) ≡ is_inside size pool

    -- a pool has whole blocks
    whole : (x : Pool) → IsPool MOST_BLOCKS x → x.unit * (x.size / x.unit) ≡ x.size
    whole x sound =
        let count : x.size / x.unit ≡ sound.units =
        ap (λ n. n / x.unit) sound.size ∙ mul-div_cancel sound.units sound.unit in
        ap (λ n. x.unit * n) count ∙ mul_comm x.unit sound.units ∙ sym sound.size

    pub is_at : Some found ≡ option_map (λ o. (o.id, layout_of o.state)) (slice_get s.live place)
        → IsAt
    is_at is = by (slice_get s.live place) refl is
      where
        by : (o : Option (Object Pool ⊤)) → slice_get s.live place ≡ o
            → Some found ≡ option_map (λ o. (o.id, layout_of o.state)) o → IsAt
        by None at none = absurd (cc none)
        by (Some o) at some =
            let laid : found.1 ≡ layout_of o.state =
            ap (λ (p : ℕ × FixedLayout). p.1) (same_Some found (o.id, layout_of o.state) some) in
            let sound : IsPool MOST_BLOCKS o.state =
            subst (λ (p : Object Pool ⊤). IsPool MOST_BLOCKS p.state)
            (sym (unwrap_or-slice_get s.live place o)
            ∙ ap (λ (p : Option (Object Pool ⊤)). unwrap_or p o) at)
            (are place o (slice_get_within s.live place o at)) in
            let all : bytes ≡ o.state.size =
            ap (λ (l : FixedLayout). l.size * l.count) laid ∙ whole o.state sound in
            record {
              pool = o.state;
              there = slice_get-map (λ (p : Object Pool ⊤). p.state) s.live place
                  ∙ ap (option_map (λ (p : Object Pool ⊤). p.state)) at;
              few = omega (arith, all, sound.inside);
              same = λ size. ap (λ (l : FixedLayout). is_some (range_at size l.base bytes)) laid
                  ∙ ap (λ n. is_some (range_at size o.state.base n)) all;
            }
