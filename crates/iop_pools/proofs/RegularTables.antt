-- Tables that can be put back, of each pool of which, and of its waiters, something holds, after a
-- call on memory.
use Rattle.std.proofs.Common.{◌≡◌, ℕ, ◌<◌, true, Some, List, refl}
use Rattle.iop_queues.specs.declared.queued.Queued.{Queued}
use Rattle.iop_objects.specs.Objects.{state_of, waiters_of}
use Rattle.iop_objects.specs.declared.waiter.Waiter.{Waiter}
use Rattle.iop_objects.proofs.Holding.{Holds, of_state}
use Rattle.iop_objects.proofs.StayRestorable.{changes_stay}
use Rattle.iop_pools.specs.Pools.{Pool, Pools, takes_place, with_ranges, frees}
use Rattle.iop_pools.specs.Ranges.{without}
use Rattle.iop_pools.specs.Restoring.{with_last_range, may_be_out, with_out_last}
use Rattle.iop_pools.proofs.EachPool.{IsKept, takes_by, frees_by, each_puts}

module _ {W : Type 0} (Q : Pool → List (Queued (Waiter W)) → Type 0) (kept : IsKept Q)
    (s : Pools W) (h : Holds Q s) where
  pub of_takes : (id size : ℕ) → 0 < size → Holds Q (takes_place s id size).1
  of_takes id size some =
      takes_by (Holds Q) s h id size (λ x place known is.
      of_state Q kept.fewer s h id _
      (kept.taken x (waiters_of s id) size place some is (h.each id x known)))

  pub of_freed : (id block : ℕ) (x : Pool) → state_of s id ≡ Some x
      → Holds Q (with_ranges s id x (without block x.ranges))
  of_freed id block x known =
      of_state Q kept.fewer s h id _ (kept.freed x (waiters_of s id) block (h.each id x known))

  pub of_frees : (id block : ℕ) → Holds Q (frees s id block).1
  of_frees id block = frees_by (Holds Q) s h id block (of_freed id block)

  -- what is put back
  pub of_puts_range : (id start size : ℕ) → may_be_out s id start size ≡ true
      → Holds Q (with_out_last s id start size)
  of_puts_range id start size may = record {
    objects = changes_stay s h.objects id
        (λ o. record o { state = with_last_range start size o.state }) (λ o. refl) (λ o. refl);
    each = each_puts Q kept s h.each id start size may;
  }
