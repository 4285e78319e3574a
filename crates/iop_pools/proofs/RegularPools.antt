-- A pool as it can stand is put back as an object is.
use Rattle.std.proofs.Common.{◌≡◌, ℕ, ◌*◌, ◌/◌, ◌<◌, ◌∙◌, Bool, true, false, ◌&&◌, if◌then◌else◌, Option, Some, None, option_map, option_and_then, unwrap_or, List, [], ◌∷◌, refl, ap, sym, All, mul-div_cancel, mul_comm}
use Rattle.std.specs.Prelude.{⊤}
use Rattle.std.proofs.lemmas.List.Elements.{All-head, All-tail}
use Rattle.iop_queues.specs.declared.queued.Queued.{Queued}
use Rattle.iop_objects.specs.Objects.{Object, state_of, waits}
use Rattle.iop_objects.specs.Restoring as objects
use Rattle.iop_objects.specs.Restoring.{may_follow, may_wait, with_last, with_object_back}
use Rattle.iop_objects.specs.declared.waiter.Waiter.{Waiter}
use Rattle.iop_objects.proofs.Changes.{state_of-with_waiters}
use Rattle.iop_pools.specs.FixedPools.{FixedPools}
use Rattle.iop_pools.specs.FixedRestoring as fixed
use Rattle.iop_pools.specs.Pools.{Pool}
use Rattle.iop_pools.specs.Restoring.{may_be_out, with_out_last, with_ranges_back}
use Rattle.iop_pools.specs.RestoringLaws.{PoolsAreRestored}
use Rattle.iop_pools.specs.VariablePools.{VariablePools}
use Rattle.iop_pools.specs.VariableRestoring as variable
use Rattle.iop_pools.specs.declared.fixed_pool.TheConstants.{MOST_BLOCKS}
use Rattle.iop_pools.specs.declared.range.Range.{Range}
use Rattle.iop_pools.specs.declared.variable_pool.TheConstants.{MOST_RANGES}
use Rattle.iop_pools.proofs.PoolsBack.{AreOlder, older_than, all_back}
use Rattle.iop_pools.proofs.RangesBack.{last, last_known, last_changes, all_ranges_back}

-- threads that wait for as many bytes as they may
variable_waiters : (id : ℕ) (x : Pool) (ws : List (Queued (Waiter ℕ))) (s : VariablePools)
    → state_of s id ≡ Some x → All (λ w. variable.may_be_wanted w.item.wants x ≡ true) ws
    → variable.with_waiters_back s id ws ≡ objects.with_waiters_back s id ws
variable_waiters id x [] s known all = refl
variable_waiters id x (w ∷ ws) s known all =
    let fits : unwrap_or (option_map (variable.may_be_wanted w.item.wants) (state_of s id)) false
    ≡ true =
    ap (λ (p : Option Pool).
    unwrap_or (option_map (variable.may_be_wanted w.item.wants) p) false) known
    ∙ All-head (λ w. variable.may_be_wanted w.item.wants x ≡ true) w ws all in
    ap (λ (b : Bool). if b && may_wait s id
    then variable.with_waiters_back (waits s id w) id ws else None) fits
    ∙ ap (λ t. if may_wait s id then t else None)
    (variable_waiters id x ws (waits s id w) (state_of-with_waiters s id x known _)
    (All-tail (λ w. variable.may_be_wanted w.item.wants x ≡ true) w ws all))

variable_same : (s : VariablePools) (o : Object Pool ℕ) → AreOlder s → variable.IsRegular o
    → variable.with_pool_back s o ≡ with_object_back s o
variable_same s o older regular =
    ap (λ (b : Bool). if b && may_follow s o.id
    then option_and_then (λ t. variable.with_waiters_back t o.id o.waiters)
    (with_ranges_back (variable.puts s o.id (variable.layout_of o.state)) o.id o.state.ranges)
    else None) regular.layout
    ∙ by (may_follow s o.id) refl
  where
    by : (b : Bool) → may_follow s o.id ≡ b
        → (if b then option_and_then (λ t. variable.with_waiters_back t o.id o.waiters)
        (with_ranges_back (variable.puts s o.id (variable.layout_of o.state)) o.id o.state.ranges)
        else None)
        ≡ (if b then objects.with_waiters_back (with_last s o.id o.state) o.id o.waiters else None)
    by false may = refl
    by true may =
        let behind = older_than s o.id older may in
        let bare : Pool = record o.state { ranges = [] } in
        ap (λ n. option_and_then (λ t. variable.with_waiters_back t o.id o.waiters)
        (with_ranges_back (with_last s o.id (record bare { unit = n })) o.id o.state.ranges))
        (sym regular.unit)
        ∙ ap (option_and_then (λ t. variable.with_waiters_back t o.id o.waiters))
        (all_ranges_back s o.id behind o.state MOST_RANGES regular.sound)
        ∙ variable_waiters o.id o.state o.waiters (with_last s o.id o.state)
        (last_known s o.id behind o.state) regular.waiters

-- blocks are ranges of one unit
module _ (s : FixedPools) (id : ℕ) (older : All (λ o. o.id < id) s.live) where
  blocks_back : (x : Pool) (rs : List Range) → All (λ r. r.size ≡ x.unit) rs
      → fixed.with_blocks_back (last s id older x) id (fixed.blocks_in rs)
      ≡ with_ranges_back (last s id older x) id rs
  blocks_back x [] all = refl
  blocks_back x (r ∷ rs) all =
      let table = last s id older x in
      let size_is : fixed.block_size table id ≡ r.size =
      ap (λ (p : Option Pool). unwrap_or (option_map (λ y. y.unit) p) 0)
      (last_known s id older x)
      ∙ sym (All-head (λ r. r.size ≡ x.unit) r rs all) in
      ap (λ n. if may_be_out table id r.start n
      then fixed.with_blocks_back (with_out_last table id r.start n) id (fixed.blocks_in rs)
      else None) size_is
      ∙ ap (λ t. if may_be_out table id r.start r.size then t else None)
      (ap (λ t. fixed.with_blocks_back t id (fixed.blocks_in rs))
      (last_changes s id older r.start r.size x)
      ∙ blocks_back _ rs (All-tail (λ r. r.size ≡ x.unit) r rs all)
      ∙ ap (λ t. with_ranges_back t id rs) (sym (last_changes s id older r.start r.size x)))

fixed_same : (s : FixedPools) (o : Object Pool ⊤) → AreOlder s → fixed.IsRegular o
    → fixed.with_pool_back s o ≡ with_object_back s o
fixed_same s o older regular =
    ap (λ (b : Bool). if b && may_follow s o.id
    then option_and_then (λ t. objects.with_waiters_back t o.id o.waiters)
    (fixed.with_blocks_back (fixed.puts s o.id (fixed.layout_of o.state)) o.id
    (fixed.blocks_in o.state.ranges))
    else None) regular.layout
    ∙ by (may_follow s o.id) refl
  where
    by : (b : Bool) → may_follow s o.id ≡ b
        → (if b then option_and_then (λ t. objects.with_waiters_back t o.id o.waiters)
        (fixed.with_blocks_back (fixed.puts s o.id (fixed.layout_of o.state)) o.id
        (fixed.blocks_in o.state.ranges)) else None)
        ≡ (if b then objects.with_waiters_back (with_last s o.id o.state) o.id o.waiters else None)
    by false may = refl
    by true may =
        let behind = older_than s o.id older may in
        let x = o.state in
        let bare : Pool = record x { ranges = [] } in
        let sound = regular.sound in
        let whole : x.unit * (x.size / x.unit) ≡ x.size =
        ap (λ n. x.unit * (n / x.unit)) sound.size
        ∙ ap (λ n. x.unit * n) (mul-div_cancel sound.units sound.unit)
        ∙ mul_comm x.unit sound.units ∙ sym sound.size in
        ap (λ n. option_and_then (λ t. objects.with_waiters_back t o.id o.waiters)
        (fixed.with_blocks_back (with_last s o.id (record bare { size = n })) o.id
        (fixed.blocks_in x.ranges))) whole
        ∙ ap (option_and_then (λ t. objects.with_waiters_back t o.id o.waiters))
        (blocks_back s o.id behind bare x.ranges regular.blocks
        ∙ all_ranges_back s o.id behind x MOST_BLOCKS sound)

pub restored : PoolsAreRestored
restored = record {
  variable = λ s regular.
      all_back variable.with_pool_back variable.IsRegular variable_same s regular.objects
      regular.pools;
  fixed = λ s regular.
      all_back fixed.with_pool_back fixed.IsRegular fixed_same s regular.objects regular.pools;
}
