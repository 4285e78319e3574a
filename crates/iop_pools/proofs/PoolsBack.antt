-- Pools that are put back one behind the other give what objects give that are put back.
use Rattle.std.proofs.Common.{◌≡◌, ℕ, ◌+◌, ◌<◌, ◌≤◌, ◌∙◌, ◌==◌, Bool, true, false, if◌then◌else◌, Option, Some, None, option_and_then, List, [], ◌∷◌, map, subst, refl, ap, arith, All}
use Rattle.std.proofs.lemmas.Bool.{and_parts, leb-true}
use Rattle.std.proofs.lemmas.List.Elements.{All-nil, All-head, All-tail, All-push, All-weaker, All-map}
use Rattle.iop_base.specs.declared.limits.TheConstants.{LAST_ID}
use Rattle.iop_queues.specs.declared.queued.Queued.{Queued}
use Rattle.iop_objects.specs.Objects.{Object, no_objects, with_waiters, waits}
use Rattle.iop_objects.specs.Restoring.{has_place, is_ahead, may_follow, with_last, may_wait, with_waiters_back, with_object_back, with_objects_back, with_next_back, IsRestorable}
use Rattle.iop_objects.specs.declared.objects.TheConstants.{FIRST_ID}
use Rattle.iop_objects.specs.declared.waiter.Waiter.{Waiter}
use Rattle.iop_objects.proofs.Restored.{are_restored}
use Rattle.iop_pools.specs.Pools.{Pool, Pools}
use Rattle.iop_pools.specs.Restoring.{with_pools_back, restored_by}

module _ {W : Type 0} where
  -- no pool has an id that is still to be given
  abbrev pub AreOlder : Pools W → Type 0
  AreOlder s = All (λ o. o.id < s.next) s.live

  pub next_ahead : (s : Pools W) (id : ℕ) → may_follow s id ≡ true → s.next ≤ id
  next_ahead s id may =
      let ahead = and_parts (is_ahead s id LAST_ID) (has_place s) may in
      leb-true _ _ (and_parts _ _ ahead.0).0

  pub older_than : (s : Pools W) (id : ℕ) → AreOlder s → may_follow s id ≡ true
      → All (λ o. o.id < id) s.live
  older_than s id older may =
      let ahead = next_ahead s id may in
      All-weaker (λ o. o.id < s.next) (λ o. o.id < id) (λ o less. omega (arith, less, ahead))
      s.live older

  waits-older : (s : Pools W) (id : ℕ) (waiters : List (Queued (Waiter W))) → AreOlder s
      → AreOlder (with_waiters s id waiters)
  waits-older s id waiters older = each s.live older
    where
      one : Object Pool W → Object Pool W
      one o = if o.id == id then record o { waiters = waiters } else o

      same : (o : Object Pool W) (b : Bool)
          → (if b then record o { waiters = waiters } else o).id ≡ o.id
      same o true = refl
      same o false = refl

      each : (live : List (Object Pool W)) → All (λ o. o.id < s.next) live
          → All (λ o. o.id < s.next) (map one live)
      each live all =
          All-map (λ o. o.id < s.next) one live
          (All-weaker (λ o. o.id < s.next) (λ o. (one o).id < s.next)
          (λ o less. omega (arith, less, same o (o.id == id))) live all)

  waiters-older : (id : ℕ) (ws : List (Queued (Waiter W))) (s t : Pools W) → AreOlder s
      → with_waiters_back s id ws ≡ Some t → AreOlder t
  waiters-older id [] s t older is = let same : s ≡ t = cc in subst AreOlder same older
  waiters-older id (w ∷ ws) s t older is =
      by (may_wait s id)
      (waiters-older id ws (waits s id w) t (waits-older s id _ older)) is
    where
      by : (b : Bool) → (with_waiters_back (waits s id w) id ws ≡ Some t → AreOlder t)
          → (if b then with_waiters_back (waits s id w) id ws else None) ≡ Some t → AreOlder t
      by true later is = later is
      by false later is = cc

  last-older : (s : Pools W) (id : ℕ) (x : Pool) → AreOlder s → s.next ≤ id
      → AreOlder (with_last s id x)
  last-older s id x older ahead =
      All-push (λ o. o.id < id + 1) s.live (record { id = id; state = x; waiters = [] })
      (All-weaker (λ o. o.id < s.next) (λ o. o.id < id + 1)
      (λ o less. omega (arith, less, ahead)) s.live older)
      (omega arith)

  pool-older : (s t : Pools W) (o : Object Pool W) → AreOlder s
      → with_object_back s o ≡ Some t → AreOlder t
  pool-older s t o older is = by (may_follow s o.id) refl is
    where
      by : (b : Bool) → may_follow s o.id ≡ b
          → (if b then with_waiters_back (with_last s o.id o.state) o.id o.waiters else None)
          ≡ Some t → AreOlder t
      by true may is =
          waiters-older o.id o.waiters (with_last s o.id o.state) t
          (last-older s o.id o.state older (next_ahead s o.id may)) is
      by false may is = cc

  -- a way to put pools back, of which the same is left as of objects
  module _ (back : Pools W → Object Pool W → Option (Pools W)) (P : Object Pool W → Type 0)
      (same : (s : Pools W) (o : Object Pool W) → AreOlder s → P o
      → back s o ≡ with_object_back s o) where
    pools_back : (s : Pools W) (os : List (Object Pool W)) → AreOlder s → All P os
        → with_pools_back back s os ≡ with_objects_back s os
    pools_back s [] older all = refl
    pools_back s (o ∷ os) older all =
        ap (option_and_then (λ t. with_pools_back back t os))
        (same s o older (All-head P o os all))
        ∙ by (with_object_back s o) refl
        (λ t is. pools_back t os (pool-older s t o older is) (All-tail P o os all))
      where
        by : (t : Option (Pools W)) → with_object_back s o ≡ t
            → ((t : Pools W) → with_object_back s o ≡ Some t
            → with_pools_back back t os ≡ with_objects_back t os)
            → option_and_then (λ t. with_pools_back back t os) t
            ≡ option_and_then (λ t. with_objects_back t os) t
        by None is later = refl
        by (Some t) is later = later t is

    -- so all of a table is restored
    pub all_back : (s : Pools W) → IsRestorable s → All P s.live → restored_by back s ≡ Some s
    all_back s order all =
        ap (option_and_then (λ t. with_next_back t s.next))
        (pools_back no_objects s.live (All-nil (λ o. o.id < FIRST_ID)) all)
        ∙ are_restored s order
