-- A pool that is made, or deleted.
use Rattle.std.proofs.Common.{◌≡◌, ◌≢◌, ℕ, ◌+◌, ◌<◌, ◌≤◌, Bool, true, false, cond, not, is_some, Some, Result, Ok, Err, List, [], ◌∷◌, ◌++◌, map, filter, if◌then◌else◌, refl, ap, sym, ◌∙◌, subst, arith, All, nat_lt, nat_le}
use Rattle.std.specs.Prelude.{◌==◌, ◌&&◌}
use Rattle.std.proofs.lemmas.Bool.{and_parts, leb-true, eqb-true, eqb-false, ne_eqb}
use Rattle.std.proofs.lemmas.List.{length-map, map_push}
use Rattle.std.proofs.lemmas.List.Elements.{All-nil, All-cons, All-head, All-tail, All-push, All-weaker, All-filter}
use Rattle.iop_base.specs.declared.code.Code.{Code}
use Rattle.iop_base.specs.declared.code.TheConstants.Code.{NO_MEMORY}
use Rattle.iop_base.specs.declared.limits.TheConstants.{LAST_ID}
use Rattle.iop_objects.specs.Objects.{Object, Objects, object_of, no_objects, has_room, creates, deletes}
use Rattle.iop_objects.specs.Restoring.{has_place, is_ahead, may_follow, with_last}
use Rattle.iop_objects.specs.declared.objects.TheConstants.{FIRST_ID, MOST_OBJECTS}
use Rattle.iop_objects.proofs.Tables.{table_of}
use Rattle.iop_pools.specs.Pools.{Pool, Pools}
use Rattle.iop_pools.specs.Standing.{ranges_of, pool_with, pool_in, pools_in, IsPool, IsTable}
use Rattle.iop_pools.specs.declared.layout.Layout.{Layout}
use Rattle.iop_pools.specs.declared.out.Out.{Out}
use Rattle.iop_pools.specs.declared.range.Range.{Range}
use Rattle.iop_pools.proofs.Capacity.{others_of}
use Rattle.iop_pools.proofs.RangesOf.{ranges_of-own, ranges_of-other}
use Rattle.iop_pools.proofs.Sound.{ranges_of-none}

live_push : {A W : Type 0} (n : ℕ) (live : List (Object A W)) (made : Object A W)
    → is_some (object_of live n) ≡ true → is_some (object_of (live ++ made ∷ []) n) ≡ true
live_push n [] made is = cc
live_push n (o ∷ live) made is = by (o.id == n) (live_push n live made) is
  where
    by : (b : Bool)
        → (is_some (object_of live n) ≡ true
        → is_some (object_of (live ++ made ∷ []) n) ≡ true)
        → is_some (cond b (Some o) (object_of live n)) ≡ true
        → is_some (cond b (Some o) (object_of (live ++ made ∷ []) n)) ≡ true
    by true later is = refl
    by false later is = later is

-- the table of no pool
pub IsTable-first : {W : Type 0} (most : ℕ) → IsTable {W = W} no_objects [] most
IsTable-first {W} most = record {
  pools = All-nil (λ o. IsPool most o.state);
  owned = All-nil (λ o. is_some (object_of (no_objects {A = Layout} {W = W}).live o.pool) ≡ true);
  given = All-nil (λ o. o.pool < FIRST_ID);
}

module _ {W : Type 0} (objects : Objects Layout W) (outs : List Out) (most : ℕ)
    (table : IsTable objects outs most) where
  abbrev own : Pools W
  own = pools_in objects outs

  module _ (x : Layout) (sound : IsPool most (pool_with x [])) where
    -- it stands behind all others, with an id that was not given
    module _ (id : ℕ) (ahead : objects.next ≤ id) where
      -- nothing is out of it
      fresh : ranges_of id outs ≡ []
      fresh =
          ranges_of-none id outs
          (All-weaker (λ o. o.pool < objects.next) (λ o. o.pool ≢ id)
          (λ o less same. omega (arith, less, same, ahead)) outs table.given)

      abbrev made : Object Layout W
      made = record { id = id; state = x; waiters = [] }

      abbrev new : Object Pool W
      new = record { id = id; state = pool_with x []; waiters = [] }

      made_in : pool_in outs made ≡ new
      made_in =
          ap (λ (rs : List Range). record { id = id; state = pool_with x rs; waiters = [] }) fresh

      live_in : map (pool_in outs) (objects.live ++ made ∷ []) ≡ own.live ++ new ∷ []
      live_in =
          map_push (pool_in outs) objects.live made ∙ ap (λ o. own.live ++ o ∷ []) made_in

      pub with_last-in : pools_in (with_last objects id x) outs ≡ with_last own id (pool_with x [])
      with_last-in = ap (λ l. table_of l (id + 1)) live_in

      pub IsTable-last : IsTable (with_last objects id x) outs most
      IsTable-last = record {
        pools =
            subst (λ l. All (λ o. IsPool most o.state) l) (sym live_in)
            (All-push (λ o. IsPool most o.state) own.live new table.pools sound);
        owned =
            All-weaker (λ o. is_some (object_of objects.live o.pool) ≡ true)
            (λ o. is_some (object_of (objects.live ++ made ∷ []) o.pool) ≡ true)
            (λ o is. live_push o.pool objects.live made is) outs table.owned;
        given =
            All-weaker (λ o. o.pool < objects.next) (λ o. o.pool < id + 1)
            (λ o less. omega (arith, less, ahead)) outs table.given;
      }

    first : objects.next ≤ objects.next
    first = omega arith

    room_in : has_room own ≡ has_room objects
    room_in =
        ap (λ n. nat_lt n MOST_OBJECTS && nat_le objects.next LAST_ID)
        (length-map objects.live (pool_in outs))

    abbrev outcome : {A : Type 0} → Bool → Objects A W → A → Result ℕ Code × Objects A W
    outcome b s state = if b then (Ok s.next, with_last s s.next state) else (Err NO_MEMORY, s)

    both : (b : Bool)
        → ((outcome b objects x).0 ≡ (outcome b own (pool_with x [])).0)
        × (pools_in (outcome b objects x).1 outs ≡ (outcome b own (pool_with x [])).1)
    both true = (refl, with_last-in objects.next first)
    both false = (refl, refl)

    pub creates_answer : (creates objects x).0 ≡ (creates own (pool_with x [])).0
    creates_answer =
        (both (has_room objects)).0
        ∙ ap (λ b. (outcome b own (pool_with x [])).0) (sym room_in)

    pub creates_left : pools_in (creates objects x).1 outs ≡ (creates own (pool_with x [])).1
    creates_left =
        (both (has_room objects)).1
        ∙ ap (λ b. (outcome b own (pool_with x [])).1) (sym room_in)

    pub IsTable-created : IsTable (creates objects x).1 outs most
    IsTable-created = by (has_room objects)
      where
        by : (b : Bool) → IsTable (outcome b objects x).1 outs most
        by true = IsTable-last objects.next first
        by false = table

    -- it is put back
    module _ (id : ℕ) where
      abbrev after : {A : Type 0} → Bool → Objects A W → A → Objects A W
      after b s state = if b then with_last s id state else s

      ahead : may_follow objects id ≡ true → objects.next ≤ id
      ahead may =
          let ahead = and_parts (is_ahead objects id LAST_ID) (has_place objects) may in
          leb-true _ _ (and_parts (nat_le objects.next id) (nat_le id LAST_ID) ahead.0).0

      pub put_back-left : (b : Bool) → b ≡ may_follow objects id
          → pools_in (after b objects x) outs ≡ after b own (pool_with x [])
      put_back-left true may = with_last-in id (ahead (sym may))
      put_back-left false may = refl

      pub IsTable-put_back : (b : Bool) → b ≡ may_follow objects id
          → IsTable (after b objects x) outs most
      IsTable-put_back true may = IsTable-last id (ahead (sym may))
      IsTable-put_back false may = table

  -- a pool is deleted, with its ranges
  module _ (id : ℕ) where
    abbrev left : List Out
    left = others_of id outs

    abbrev stays : {A : Type 0} → Object A W → Bool
    stays o = not (o.id == id)

    ranges_left : (other : ℕ) → other ≢ id → (os : List Out)
        → ranges_of other (others_of id os) ≡ ranges_of other os
    ranges_left other apart [] = refl
    ranges_left other apart (o ∷ os) =
        by (o.pool == id) (o.pool == other) refl refl (ranges_left other apart os)
      where
        by : (b c : Bool) → (o.pool == id) ≡ b → (o.pool == other) ≡ c
            → ranges_of other (others_of id os) ≡ ranges_of other os
            → ranges_of other (cond (not b) (o ∷ others_of id os) (others_of id os))
            ≡ ranges_of other (o ∷ os)
        by true c is here later =
            let away = ne_eqb o.pool other
            (λ e. apart (sym e ∙ eqb-true o.pool id is)) in
            later ∙ sym (ranges_of-other other o os away)
        by false true is here later =
            ranges_of-own other o (others_of id os) here ∙ ap (λ l. o.range ∷ l) later
            ∙ sym (ranges_of-own other o os here)
        by false false is here later =
            ranges_of-other other o (others_of id os) here ∙ later
            ∙ sym (ranges_of-other other o os here)

    each : (live : List (Object Layout W))
        → map (pool_in left) (filter stays live) ≡ filter stays (map (pool_in outs) live)
    each [] = refl
    each (o ∷ live) = by (o.id == id) refl (each live)
      where
        by : (b : Bool) → (o.id == id) ≡ b
            → map (pool_in left) (filter stays live) ≡ filter stays (map (pool_in outs) live)
            → map (pool_in left) (cond (not b) (o ∷ filter stays live) (filter stays live))
            ≡ cond (not b) (pool_in outs o ∷ filter stays (map (pool_in outs) live))
            (filter stays (map (pool_in outs) live))
        by true is later = later
        by false is later =
            ap (λ (rs : List Range). record {
              id = o.id;
              state = pool_with o.state rs;
              waiters = o.waiters;
            } ∷ map (pool_in left) (filter stays live))
            (ranges_left o.id (eqb-false o.id id is) outs)
            ∙ ap (λ l. pool_in outs o ∷ l) later

    pub deletes_left : pools_in (deletes objects id) left ≡ deletes own id
    deletes_left = ap (λ l. table_of l objects.next) (each objects.live)

    live_stays : (n : ℕ) → n ≢ id → (live : List (Object Layout W))
        → is_some (object_of (filter stays live) n) ≡ is_some (object_of live n)
    live_stays n apart [] = refl
    live_stays n apart (o ∷ live) = by (o.id == id) refl (live_stays n apart live)
      where
        here : (c : Bool)
            → is_some (object_of (filter stays live) n) ≡ is_some (object_of live n)
            → is_some (cond c (Some o) (object_of (filter stays live) n))
            ≡ is_some (cond c (Some o) (object_of live n))
        here true later = refl
        here false later = later

        by : (b : Bool) → (o.id == id) ≡ b
            → is_some (object_of (filter stays live) n) ≡ is_some (object_of live n)
            → is_some (object_of (cond (not b) (o ∷ filter stays live) (filter stays live)) n)
            ≡ is_some (object_of (o ∷ live) n)
        by true is later =
            let away = ne_eqb o.id n (λ e. apart (sym e ∙ eqb-true o.id id is)) in
            rw away later
        by false is later = here (o.id == n) later

    owned_left : (os : List Out)
        → All (λ o. is_some (object_of objects.live o.pool) ≡ true) os
        → All (λ o. is_some (object_of (filter stays objects.live) o.pool) ≡ true)
        (others_of id os)
    owned_left [] all = All-nil (λ o. is_some (object_of (filter stays objects.live) o.pool) ≡ true)
    owned_left (o ∷ os) all =
        by (o.pool == id) refl
        (All-head (λ o. is_some (object_of objects.live o.pool) ≡ true) o os all)
        (owned_left os
        (All-tail (λ o. is_some (object_of objects.live o.pool) ≡ true) o os all))
      where
        by : (b : Bool) → (o.pool == id) ≡ b
            → is_some (object_of objects.live o.pool) ≡ true
            → All (λ o. is_some (object_of (filter stays objects.live) o.pool) ≡ true)
            (others_of id os)
            → All (λ o. is_some (object_of (filter stays objects.live) o.pool) ≡ true)
            (cond (not b) (o ∷ others_of id os) (others_of id os))
        by true is here later = later
        by false is here later =
            All-cons (λ o. is_some (object_of (filter stays objects.live) o.pool) ≡ true) o
            (others_of id os)
            (live_stays o.pool (eqb-false o.pool id is) objects.live ∙ here) later

    pub IsTable-deleted : IsTable (deletes objects id) left most
    IsTable-deleted = record {
      pools =
          subst (λ l. All (λ o. IsPool most o.state) l) (sym (each objects.live))
          (All-filter stays (λ o. IsPool most o.state) own.live table.pools);
      owned = owned_left outs table.owned;
      given =
          All-filter (λ o. not (o.pool == id)) (λ o. o.pool < objects.next) outs table.given;
    }
