-- What other ranges of one pool leave of a table.
use Rattle.std.proofs.Common.{◌≡◌, ◌≢◌, ℕ, ◌<◌, Bool, true, false, cond, is_some, Option, Some, None, option_map, List, [], ◌∷◌, map, if◌then◌else◌, refl, ap, sym, ◌∙◌, subst, arith, All, AllPairs}
use Rattle.std.specs.Prelude.{◌==◌}
use Rattle.std.proofs.lemmas.Bool.{eqb-true, eqb-false}
use Rattle.std.proofs.lemmas.List.Elements.{All-nil, All-cons, All-head, All-tail, All-weaker}
use Rattle.iop_base.proofs.Searching.{AllPairs-head, AllPairs-tail}
use Rattle.iop_objects.specs.Objects.{Object, Objects, object_of, with_state}
use Rattle.iop_objects.proofs.Tables.{table_of}
use Rattle.iop_pools.specs.Pools.{Pool}
use Rattle.iop_pools.specs.Standing.{ranges_of, pool_with, pool_in, pools_in, IsPool, IsTable}
use Rattle.iop_pools.specs.Walks.{is_this, is_behind, with_out, without_out}
use Rattle.iop_pools.specs.declared.layout.Layout.{Layout}
use Rattle.iop_pools.specs.declared.out.Out.{Out}
use Rattle.iop_pools.specs.declared.range.Range.{Range}

module _ (P : Out → Type 0) where
  pub All-with_out : (o : Out) → P o → (xs : List Out) → All P xs → All P (with_out o xs)
  All-with_out o here [] all = All-cons P o [] here all
  All-with_out o here (x ∷ xs) all =
      by (is_behind o.pool o.range.start x) (All-with_out o here xs (All-tail P x xs all))
    where
      by : (b : Bool) → All P (with_out o xs)
          → All P (if b then o ∷ x ∷ xs else x ∷ with_out o xs)
      by true later = All-cons P o (x ∷ xs) here all
      by false later = All-cons P x (with_out o xs) (All-head P x xs all) later

  pub All-without_out : (id block : ℕ) (xs : List Out) → All P xs
      → All P (without_out id block xs)
  All-without_out id block [] all = all
  All-without_out id block (x ∷ xs) all =
      by (is_this id block x) (All-without_out id block xs (All-tail P x xs all))
    where
      by : (b : Bool) → All P (without_out id block xs)
          → All P (if b then xs else x ∷ without_out id block xs)
      by true later = All-tail P x xs all
      by false later = All-cons P x (without_out id block xs) (All-head P x xs all) later

module _ {A W : Type 0} where
  abbrev known : List (Object A W) → ℕ → Option A
  known live id = option_map (λ o. o.state) (object_of live id)

  -- what holds of all objects holds of the one that is found
  pub state_holds : (P : A → Type 0) (id : ℕ) (live : List (Object A W)) (x : A)
      → known live id ≡ Some x → All (λ o. P o.state) live → P x
  state_holds P id [] x is all = cc
  state_holds P id (o ∷ live) x is all =
      by (o.id == id) (All-head (λ o. P o.state) o live all)
      (λ e. state_holds P id live x e (All-tail (λ o. P o.state) o live all)) is
    where
      by : (b : Bool) → P o.state → (known live id ≡ Some x → P x)
          → option_map (λ p. p.state) (cond b (Some o) (object_of live id)) ≡ Some x → P x
      by true here later e = let same : o.state ≡ x = cc in subst P same here
      by false here later e = later e

  pub id_below : (n id : ℕ) (live : List (Object A W)) (x : A) → known live id ≡ Some x
      → All (λ o. o.id < n) live → id < n
  id_below n id [] x is all = cc
  id_below n id (o ∷ live) x is all =
      by (o.id == id) refl (λ e. id_below n id live x e (All-tail (λ o. o.id < n) o live all)) is
    where
      by : (b : Bool) → (o.id == id) ≡ b → (known live id ≡ Some x → id < n)
          → option_map (λ p. p.state) (cond b (Some o) (object_of live id)) ≡ Some x → id < n
      by true same later e =
          omega (arith, All-head (λ o. o.id < n) o live all, eqb-true o.id id same)
      by false same later e = later e

  pub is_live : (id : ℕ) (live : List (Object A W)) (x : A) → known live id ≡ Some x
      → is_some (object_of live id) ≡ true
  is_live id live x is = by (object_of live id) is
    where
      by : (o : Option (Object A W)) → option_map (λ p. p.state) o ≡ Some x → is_some o ≡ true
      by None e = cc
      by (Some o) e = refl

  abbrev pub IsOwn : ℕ → A → Object A W → Type 0
  IsOwn id x p = p.id ≡ id → p.state ≡ x

  -- no other object has its id
  pub one_alone : (id : ℕ) (live : List (Object A W)) (x : A)
      → AllPairs (λ a b. a.id < b.id) live → known live id ≡ Some x
      → All (λ o. o.id ≡ id → o.state ≡ x) live
  one_alone id [] x ids is = All-nil (λ o. o.id ≡ id → o.state ≡ x)
  one_alone id (o ∷ live) x ids is =
      by (o.id == id) refl
      (λ e. one_alone id live x (AllPairs-tail (λ a b. a.id < b.id) o live ids) e) is
    where
      by : (b : Bool) → (o.id == id) ≡ b → (known live id ≡ Some x → All (IsOwn id x) live)
          → option_map (λ p. p.state) (cond b (Some o) (object_of live id)) ≡ Some x
          → All (IsOwn id x) (o ∷ live)
      by true same later e =
          All-cons (IsOwn id x) o live (λ k. cc)
          (All-weaker (λ p. o.id < p.id) (IsOwn id x)
          (λ p less own. absurd (omega (arith, less, eqb-true o.id id same, own))) live
          (AllPairs-head (λ a b. a.id < b.id) o live ids))
      by false same later e =
          All-cons (IsOwn id x) o live (λ own. absurd (eqb-false o.id id same own)) (later e)

module _ {W : Type 0} (objects : Objects Layout W) (id : ℕ) (outs left : List Out)
    (others : (other : ℕ) → other ≢ id → ranges_of other left ≡ ranges_of other outs) where
  abbrev pool : Object Layout W → List Range → Object Pool W
  pool o rs = record { id = o.id; state = pool_with o.state rs; waiters = o.waiters }

  module _ (x : Layout) where
    abbrev changed : Object Pool W → Object Pool W
    changed o = record o { state = pool_with x (ranges_of id left) }

    each : (live : List (Object Layout W)) → All (IsOwn id x) live
        → map (pool_in left) live
        ≡ map (λ o. if o.id == id then changed o else o) (map (pool_in outs) live)
    each [] own = refl
    each (o ∷ live) own =
        ap (λ p. p ∷ map (pool_in left) live)
        (by (o.id == id) refl (All-head (IsOwn id x) o live own))
        ∙ ap (λ l. (if o.id == id then changed (pool_in outs o) else pool_in outs o) ∷ l)
        (each live (All-tail (IsOwn id x) o live own))
      where
        by : (b : Bool) → (o.id == id) ≡ b → IsOwn id x o
            → pool_in left o ≡ (if b then changed (pool_in outs o) else pool_in outs o)
        by true is own =
            ap (λ n. pool o (ranges_of n left)) (eqb-true o.id id is)
            ∙ ap (λ (y : Layout). pool (record o { state = y }) (ranges_of id left))
            (own (eqb-true o.id id is))
        by false is own = ap (pool o) (others o.id (eqb-false o.id id is))

    -- the ranges of one pool are others
    pub pools_in-changed : All (IsOwn id x) objects.live → pools_in objects left
        ≡ with_state (pools_in objects outs) id (pool_with x (ranges_of id left))
    pools_in-changed own = ap (λ l. table_of l objects.next) (each objects.live own)

  module _ (most : ℕ) where
    -- a pool of this layout stays sound with the ranges that are left
    abbrev pub Keeps : Layout → Type 0
    Keeps x = IsPool most (pool_with x (ranges_of id outs))
        → IsPool most (pool_with x (ranges_of id left))

    abbrev Sound : Layout → List Range → Type 0
    Sound x rs = IsPool most (pool_with x rs)

    kept : (live : List (Object Layout W)) → All (λ o. o.id ≡ id → Keeps o.state) live
        → All (λ o. IsPool most o.state) (map (pool_in outs) live)
        → All (λ o. IsPool most o.state) (map (pool_in left) live)
    kept [] keeps all = All-nil (λ o. IsPool most o.state)
    kept (o ∷ live) keeps all =
        All-cons (λ p. IsPool most p.state) (pool_in left o) (map (pool_in left) live)
        (by (o.id == id) refl
        (All-head (λ p. IsPool most p.state) (pool_in outs o) (map (pool_in outs) live) all)
        (All-head (λ p. p.id ≡ id → Keeps p.state) o live keeps))
        (kept live (All-tail (λ p. p.id ≡ id → Keeps p.state) o live keeps)
        (All-tail (λ p. IsPool most p.state) (pool_in outs o) (map (pool_in outs) live) all))
      where
        by : (b : Bool) → (o.id == id) ≡ b → Sound o.state (ranges_of o.id outs)
            → (o.id ≡ id → Keeps o.state) → Sound o.state (ranges_of o.id left)
        by true is sound keep =
            let same = eqb-true o.id id is in
            subst (λ n. Sound o.state (ranges_of n left)) (sym same)
            (keep same (subst (λ n. Sound o.state (ranges_of n outs)) same sound))
        by false is sound keep =
            subst (Sound o.state) (sym (others o.id (eqb-false o.id id is))) sound

    pub IsTable-changed : IsTable objects outs most
        → All (λ o. o.id ≡ id → Keeps o.state) objects.live
        → All (λ o. is_some (object_of objects.live o.pool) ≡ true) left
        → All (λ o. o.pool < objects.next) left → IsTable objects left most
    IsTable-changed table keeps owned given = record {
      pools = kept objects.live keeps table.pools;
      owned = owned;
      given = given;
    }
