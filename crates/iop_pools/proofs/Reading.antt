-- What a table tells of its pools, and what is left of it when its objects change.
use Rattle.std.proofs.Common.{◌≡◌, ℕ, Bool, true, false, cond, is_some, Option, Some, None, option_map, List, [], ◌∷◌, ◌++◌, length, map, sum, if◌then◌else◌, refl, ap, sym, ◌∙◌, subst, All}
use Rattle.std.specs.Prelude.{◌==◌, ◌&&◌, nat_lt}
use Rattle.std.proofs.lemmas.Bool.{eqb-true}
use Rattle.std.proofs.lemmas.List.Elements.{All-nil, All-cons, All-head, All-tail}
use Rattle.std.proofs.lemmas.Simd.{map-map}
use Rattle.iop_base.proofs.Searching.{find-map}
use Rattle.iop_objects.specs.Objects.{Object, Objects, object_of, state_of, waiters_in, waiters_of, waiting, with_waiters, waits, takes}
use Rattle.iop_objects.specs.Restoring.{may_wait}
use Rattle.iop_objects.specs.declared.objects.TheConstants.{MOST_WAITERS}
use Rattle.iop_objects.specs.declared.waiter.Waiter.{Waiter}
use Rattle.iop_objects.proofs.Tables.{table_of}
use Rattle.iop_queues.specs.Queue.{Choice}
use Rattle.iop_queues.specs.declared.queued.Queued.{Queued}
use Rattle.iop_pools.specs.Pools.{Pool, Pools}
use Rattle.iop_pools.specs.Standing.{ranges_of, pool_with, layout_of, pool_in, pools_in, IsPool, ArePools, IsTable}
use Rattle.iop_pools.specs.declared.layout.Layout.{Layout}
use Rattle.iop_pools.specs.declared.out.Out.{Out}

module _ {W : Type 0} (objects : Objects Layout W) (outs : List Out) where
  abbrev own : Pools W
  own = pools_in objects outs

  module _ (id : ℕ) where
    found : object_of own.live id ≡ option_map (pool_in outs) (object_of objects.live id)
    found = find-map (λ (o : Object Pool W). o.id == id) (pool_in outs) objects.live

    -- what is known of a pool is its layout and its ranges
    pub state_of-in : state_of own id
        ≡ option_map (λ x. pool_with x (ranges_of id outs)) (state_of objects id)
    state_of-in = each objects.live
      where
        known : {A : Type 0} → List (Object A W) → Option A
        known live = option_map (λ o. o.state) (object_of live id)

        either : (o : Object Layout W) (live : List (Object Layout W)) (b : Bool)
            → (o.id == id) ≡ b
            → known (map (pool_in outs) live)
            ≡ option_map (λ x. pool_with x (ranges_of id outs)) (known live)
            → option_map (λ p. p.state)
            (cond b (Some (pool_in outs o)) (object_of (map (pool_in outs) live) id))
            ≡ option_map (λ x. pool_with x (ranges_of id outs))
            (option_map (λ p. p.state) (cond b (Some o) (object_of live id)))
        either o live true is later =
            ap (λ n. Some (pool_with o.state (ranges_of n outs))) (eqb-true o.id id is)
        either o live false is later = later

        each : (live : List (Object Layout W)) → known (map (pool_in outs) live)
            ≡ option_map (λ x. pool_with x (ranges_of id outs)) (known live)
        each [] = refl
        each (o ∷ live) = either o live (o.id == id) refl (each live)

    pub layout-in : option_map layout_of (state_of own id) ≡ state_of objects id
    layout-in = ap (option_map layout_of) state_of-in ∙ by (state_of objects id)
      where
        by : (x : Option Layout)
            → option_map layout_of (option_map (λ y. pool_with y (ranges_of id outs)) x) ≡ x
        by None = refl
        by (Some x) = refl

    pub is_live-in : is_some (object_of own.live id) ≡ is_some (object_of objects.live id)
    is_live-in = ap is_some found ∙ by (object_of objects.live id)
      where
        by : (o : Option (Object Layout W)) → is_some (option_map (pool_in outs) o) ≡ is_some o
        by None = refl
        by (Some o) = refl

    -- those that wait for it, if it is live
    pub awaited-in : option_map (λ o. o.waiters) (object_of own.live id)
        ≡ option_map (λ o. o.waiters) (object_of objects.live id)
    awaited-in =
        ap (option_map (λ (o : Object Pool W). o.waiters)) found ∙ by (object_of objects.live id)
      where
        by : (o : Option (Object Layout W))
            → option_map (λ (p : Object Pool W). p.waiters) (option_map (pool_in outs) o)
            ≡ option_map (λ (p : Object Layout W). p.waiters) o
        by None = refl
        by (Some o) = refl

    pub waiters_of-in : waiters_of own id ≡ waiters_of objects id
    waiters_of-in = ap waiters_in found ∙ by (object_of objects.live id)
      where
        by : (o : Option (Object Layout W))
            → waiters_in (option_map (pool_in outs) o) ≡ waiters_in o
        by None = refl
        by (Some o) = refl

    pub with_waiters-in : (waiters : List (Queued (Waiter W)))
        → pools_in (with_waiters objects id waiters) outs ≡ with_waiters own id waiters
    with_waiters-in waiters = ap (λ l. table_of l objects.next) (each objects.live)
      where
        awaited : {A : Type 0} → Object A W → Object A W
        awaited o = if o.id == id then record o { waiters = waiters } else o

        either : (o : Object Layout W) (b : Bool)
            → pool_in outs (if b then record o { waiters = waiters } else o)
            ≡ (if b then record (pool_in outs o) { waiters = waiters } else pool_in outs o)
        either o true = refl
        either o false = refl

        each : (live : List (Object Layout W))
            → map (pool_in outs) (map awaited live) ≡ map awaited (map (pool_in outs) live)
        each [] = refl
        each (o ∷ live) =
            ap (λ p. p ∷ map (pool_in outs) (map awaited live)) (either o (o.id == id))
            ∙ ap (λ l. awaited (pool_in outs o) ∷ l) (each live)

    -- what a change of the waiters leaves, by those that waited
    pub changed_waiters-in : (f : List (Queued (Waiter W)) → List (Queued (Waiter W)))
        → pools_in (with_waiters objects id (f (waiters_of objects id))) outs
        ≡ with_waiters own id (f (waiters_of own id))
    changed_waiters-in f =
        with_waiters-in (f (waiters_of objects id))
        ∙ ap (λ w. with_waiters own id (f w)) (sym waiters_of-in)

    pub waits-in : (one : Queued (Waiter W))
        → pools_in (waits objects id one) outs ≡ waits own id one
    waits-in one = changed_waiters-in (λ w. w ++ one ∷ [])

    taken : (c : Option (Choice (Waiter W)))
        → ((takes objects id c).0 ≡ (takes own id c).0)
        × (pools_in (takes objects id c).1 outs ≡ (takes own id c).1)
    taken None = (refl, refl)
    taken (Some c) = (refl, with_waiters-in c.others)

    -- one that waits is chosen, and taken out
    pub takes-in : (choose : List (Queued (Waiter W)) → Option (Choice (Waiter W)))
        → ((takes objects id (choose (waiters_of objects id))).0
        ≡ (takes own id (choose (waiters_of own id))).0)
        × (pools_in (takes objects id (choose (waiters_of objects id))).1 outs
        ≡ (takes own id (choose (waiters_of own id))).1)
    takes-in choose =
        let same = waiters_of-in in
        let both = taken (choose (waiters_of objects id)) in (
          both.0 ∙ ap (λ w. (takes own id (choose w)).0) (sym same),
          both.1 ∙ ap (λ w. (takes own id (choose w)).1) (sym same),
        )

  pub waiting-in : waiting own ≡ waiting objects
  waiting-in = ap sum (map-map (λ (o : Object Pool W). length o.waiters) (pool_in outs)
      objects.live)

  pub may_wait-in : (id : ℕ) → may_wait own id ≡ may_wait objects id
  may_wait-in id =
      ap (λ b. b && nat_lt (waiting own) MOST_WAITERS) (is_live-in id)
      ∙ ap (λ n. is_some (object_of objects.live id) && nat_lt n MOST_WAITERS) waiting-in

  -- where one more thread may wait
  pub waits_if-in : (id : ℕ) (one : Queued (Waiter W)) (may : Bool)
      → pools_in (if may then waits objects id one else objects) outs
      ≡ (if may then waits own id one else own)
  waits_if-in id one true = waits-in id one
  waits_if-in id one false = refl

  -- the table is sound, whoever waits
  module _ (most : ℕ) (table : IsTable objects outs most) (id : ℕ)
      (waiters : List (Queued (Waiter W))) where
    abbrev one : {A : Type 0} → Object A W → Object A W
    one o = if o.id == id then record o { waiters = waiters } else o

    pools_kept : (live : List (Object Pool W)) → All (λ o. IsPool most o.state) live
        → All (λ o. IsPool most o.state) (map one live)
    pools_kept [] all = All-nil (λ o. IsPool most o.state)
    pools_kept (o ∷ live) all =
        All-cons (λ p. IsPool most p.state) (one o) (map one live)
        (either (o.id == id) (All-head (λ p. IsPool most p.state) o live all))
        (pools_kept live (All-tail (λ p. IsPool most p.state) o live all))
      where
        either : (b : Bool) → IsPool most o.state
            → IsPool most (if b then record o { waiters = waiters } else o).state
        either true is = is
        either false is = is

    live_kept : (n : ℕ) (live : List (Object Layout W))
        → is_some (object_of (map one live) n) ≡ is_some (object_of live n)
    live_kept n [] = refl
    live_kept n (o ∷ live) = either (o.id == id) (live_kept n live)
      where
        here : (b : Bool) (p : Object Layout W)
            → is_some (object_of (map one live) n) ≡ is_some (object_of live n)
            → is_some (cond b (Some p) (object_of (map one live) n))
            ≡ is_some (cond b (Some o) (object_of live n))
        here true p same = refl
        here false p same = same

        either : (b : Bool)
            → is_some (object_of (map one live) n) ≡ is_some (object_of live n)
            → is_some (object_of ((if b then record o { waiters = waiters } else o) ∷ map one
            live) n)
            ≡ is_some (object_of (o ∷ live) n)
        either true = here (o.id == n) (record o { waiters = waiters })
        either false = here (o.id == n) o

    pub IsTable-with_waiters : IsTable (with_waiters objects id waiters) outs most
    IsTable-with_waiters = record {
      pools =
          subst (λ (s : Pools W). ArePools most s) (sym (with_waiters-in id waiters))
          (pools_kept own.live table.pools);
      owned = λ k d below. live_kept _ objects.live ∙ table.owned k d below;
      given = table.given;
    }

  pub IsTable-taken : (most : ℕ) → IsTable objects outs most → (id : ℕ)
      → (c : Option (Choice (Waiter W))) → IsTable (takes objects id c).1 outs most
  IsTable-taken most table id None = table
  IsTable-taken most table id (Some c) = IsTable-with_waiters most table id c.others

  pub IsTable-waits_if : (most : ℕ) → IsTable objects outs most → (id : ℕ)
      (one : Queued (Waiter W)) (may : Bool)
      → IsTable (if may then waits objects id one else objects) outs most
  IsTable-waits_if most table id one true = IsTable-with_waiters most table id _
  IsTable-waits_if most table id one false = table
