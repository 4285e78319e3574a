-- What always holds of variable pools is kept.
use Rattle.std.proofs.Common.{◌≡◌, ℕ, ◌+◌, ◌%◌, ◌^◌, ◌<◌, ◌≤◌, ◌==◌, nat_le, nat_lt, if◌then◌else◌, Bool, true, false, is_some, Option, Some, None, option_map, List, ◌++◌, ◌∷◌, [], refl, ap, sym, subst, arith}
use Rattle.std.proofs.lemmas.Bool.{and_parts, leb-true}
use Rattle.iop_queues.specs.declared.queued.Queued.{Queued}
use Rattle.iop_objects.specs.Objects.{Object, object_of, state_of, creates, deletes, waits, takes_next, takes_next_where, drops, requeues, waiters_of}
use Rattle.iop_objects.specs.Restoring.{with_last}
use Rattle.iop_objects.specs.declared.waiter.Waiter.{Waiter}
use Rattle.iop_objects.proofs.EachObject.{each_creates, each_deletes, each_with_last, each_with_waiters}
use Rattle.iop_objects.proofs.EachLeft.{each_takes_next, each_takes_next_where, each_drops, each_requeues}
use Rattle.iop_objects.proofs.OtherWaiters.{AreLeft}
use Rattle.iop_pools.specs.Pools.{Pool, Pools, takes_place, frees}
use Rattle.iop_pools.specs.Restoring.{may_be_out, with_out_last}
use Rattle.iop_pools.specs.Standing.{pool_with, IsVariable, AreVariable}
use Rattle.iop_pools.specs.VariableRestoring.{layout_for, may_stand}
use Rattle.iop_pools.specs.declared.layout.Layout.{Layout}
use Rattle.iop_pools.specs.declared.range.Range.{Range}
use Rattle.iop_pools.specs.declared.variable_pool.TheConstants.{VARIABLE_UNIT, MOST_BYTES}
use Rattle.iop_pools.specs.declared.variable_layout.VariableLayout.{VariableLayout}
use Rattle.iop_pools.proofs.EachPool.{IsKept, each_takes, each_frees, each_puts}

-- whatever is out of it
other_ranges : (x : Pool) (ranges : List Range) → IsVariable x
    → IsVariable (record x { ranges = ranges })
other_ranges x ranges is = record { unit = is.unit; most = is.most }

-- a pool that may stand
pub variable_layout : (x : VariableLayout) (units : Layout)
    → Some units ≡ (if may_stand x then Some (layout_for x) else None)
    → IsVariable (pool_with units [])
variable_layout x units = by (may_stand x) refl
  where
    by : (b : Bool) → may_stand x ≡ b → Some units ≡ (if b then Some (layout_for x) else None)
        → IsVariable (pool_with units [])
    by false may is = cc
    by true may is =
        let same : layout_for x ≡ units = cc in
        let inside = and_parts _ (nat_lt (x.base + x.size) (2 ^ 32)) may in
        let whole = and_parts _ (x.size % VARIABLE_UNIT == 0) inside.0 in
        let most = and_parts _ (nat_le x.size MOST_BYTES) whole.0 in
        subst (λ (l : Layout). IsVariable (pool_with l [])) same
        (record { unit = refl; most = leb-true _ _ most.1 })

module _ {W : Type 0} where
  -- and whatever waits for it
  abbrev With : Pool → List (Queued (Waiter W)) → Type 0
  With x ws = IsVariable x

  fewer : (x : Pool) (old new : List (Queued (Waiter W))) → AreLeft old new → With x old
      → With x new
  fewer x old new left is = is

  kept : IsKept With
  kept = record {
    fewer = fewer;
    taken = λ x ws size place some at is. other_ranges x _ is;
    freed = λ x ws block is. other_ranges x _ is;
    put = λ x ws start size may is. other_ranges x _ is;
  }

  pub same_variable : {s t : Pools W} → t ≡ s → AreVariable s → AreVariable t
  same_variable same h = subst (λ (r : Pools W). AreVariable r) (sym same) h

  module _ (s : Pools W) (h : AreVariable s) where
    pub variable_creates : (x : Pool) → IsVariable x → AreVariable (creates s x).1
    variable_creates x is = each_creates With s h x is

    pub variable_deletes : (id : ℕ) → AreVariable (deletes s id)
    variable_deletes id = each_deletes With s h id

    pub variable_takes : (id size : ℕ) → 0 < size → AreVariable (takes_place s id size).1
    variable_takes id size some = each_takes With kept s h id size some

    pub variable_frees : (id block : ℕ) → AreVariable (frees s id block).1
    variable_frees id block = each_frees With kept s h id block

    pub variable_waits : (id : ℕ) (w : Queued (Waiter W)) → AreVariable (waits s id w)
    variable_waits id w =
        each_with_waiters With s h id (waiters_of s id ++ w ∷ []) (λ x known is. is)

    pub variable_takes_next : (id : ℕ) (b : Bool) → AreVariable (takes_next s id b).1
    variable_takes_next id b = each_takes_next With fewer s h id b

    pub variable_takes_where : (id : ℕ) (b : Bool) (p : Waiter W → Bool)
        → AreVariable (takes_next_where s id b p).1
    variable_takes_where id b p = each_takes_next_where With fewer s h id b p

    pub variable_drops : (id thread : ℕ) → AreVariable (drops s id thread)
    variable_drops id thread = each_drops With fewer s h id thread

    pub variable_requeues : (id : ℕ) (b : Bool) (thread priority : ℕ)
        → AreVariable (requeues s id b thread priority)
    variable_requeues id b thread priority = each_requeues With fewer s h id b thread priority

    pub variable_puts : (id : ℕ) (x : Pool) → IsVariable x → AreVariable (with_last s id x)
    variable_puts id x is = each_with_last With s h id x is

    pub variable_puts_range : (id start size : ℕ) → may_be_out s id start size ≡ true
        → AreVariable (with_out_last s id start size)
    variable_puts_range id start size may = each_puts With kept s h id start size may

    -- a size that a live pool can have
    pub variable_size : (id size : ℕ) → is_some (object_of s.live id) ≡ true
        → ((x : Pool) → state_of s id ≡ Some x → size ≤ x.size) → size ≤ MOST_BYTES
    variable_size id size live within = by (object_of s.live id) refl live
      where
        by : (o : Option (Object Pool W)) → object_of s.live id ≡ o → is_some o ≡ true
            → size ≤ MOST_BYTES
        by None found is = cc
        by (Some o) found is =
            let known : state_of s id ≡ Some o.state =
            ap (option_map (λ (p : Object Pool W). p.state)) found in
            omega (arith, within o.state known, (h id o.state known).most)
