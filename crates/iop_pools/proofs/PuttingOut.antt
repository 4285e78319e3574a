-- A range that is put behind those of one pool.
use Rattle.std.proofs.Common.{◌≡◌, ◌≢◌, ℕ, ◌+◌, ◌*◌, ◌<◌, ◌≤◌, ◌∙◌, ◌==◌, Bool, true, false, cond, if◌then◌else◌, is_some, IfSome, Option, Some, None, option_map, unwrap_or, List, [], ◌∷◌, ◌++◌, length, map, filter, refl, ap, sym, subst, arith}
use Rattle.std.proofs.lemmas.Bool.{eqb-true, eqb-false, eq-eqb, ne_eqb}
use Rattle.std.proofs.lemmas.List.{length_push}
use Rattle.std.proofs.lemmas.List.Elements.{All-push, All-weaker}
use Rattle.std.specs.List.{last_or}
use Rattle.iop_objects.specs.Objects.{Object, Objects, AreObjects, object_of, state_of}
use Rattle.iop_objects.specs.declared.objects.TheConstants.{MOST_OBJECTS}
use Rattle.iop_objects.proofs.Tables.{table_of}
use Rattle.iop_pools.specs.Pools.{Pool, Pools}
use Rattle.iop_pools.specs.Restoring.{last_end, lies_from, may_be_last, may_be_out, with_last_range, with_out_last}
use Rattle.iop_pools.specs.Standing.{ranges_of, pool_with, pool_in, pools_in, AreInOrder, EndsInside, ArePlaced, IsPool, IsTable}
use Rattle.iop_pools.specs.Walks.{end_behind}
use Rattle.iop_pools.specs.declared.layout.Layout.{Layout}
use Rattle.iop_pools.specs.declared.out.Out.{Out}
use Rattle.iop_pools.specs.declared.range.Range.{Range}
use Rattle.iop_pools.proofs.Capacity.{few_out}
use Rattle.iop_pools.proofs.Gaps.{range_at}
use Rattle.iop_pools.proofs.LastRanges.{last_end-is, last_end-le, order-push, placed-push, LiesBehind, facts_of, first_place, last_place}
use Rattle.iop_pools.proofs.RangesOf.{ranges_of-own, ranges_of-other}
use Rattle.iop_pools.proofs.Sound.{pool, state_is, state_none, pool_sound}
use Rattle.iop_pools.proofs.Tables.{Keeps, IsTable-changed, id_below, is_live, one_alone}

-- the last range of a pool, of the ranges that a call has seen
pub last_seen : {outs seen : List Out} {last : Option Range} (id : ℕ) → seen ≡ outs
    → last ≡ last_or None (ranges_of id seen) → last ≡ last_or None (ranges_of id outs)
last_seen id same is = is ∙ ap (λ l. last_or None (ranges_of id l)) same

module _ (o : Out) where
  -- the ranges of its pool have it behind them, and those of all others stay
  pub ranges_of-push : (outs : List Out)
      → ranges_of o.pool (outs ++ o ∷ []) ≡ ranges_of o.pool outs ++ o.range ∷ []
  ranges_of-push [] = ranges_of-own o.pool o [] (eq-eqb o.pool o.pool refl)
  ranges_of-push (x ∷ outs) = by (x.pool == o.pool) (ranges_of-push outs)
    where
      own : List Out → List Out
      own xs = filter (λ y. y.pool == o.pool) xs

      by : (b : Bool)
          → ranges_of o.pool (outs ++ o ∷ []) ≡ ranges_of o.pool outs ++ o.range ∷ []
          → map (λ y. y.range) (cond b (x ∷ own (outs ++ o ∷ [])) (own (outs ++ o ∷ [])))
          ≡ map (λ y. y.range) (cond b (x ∷ own outs) (own outs)) ++ o.range ∷ []
      by true later = ap (λ l. x.range ∷ l) later
      by false later = later

  pub ranges_of-push_other : (id : ℕ) → o.pool ≢ id → (outs : List Out)
      → ranges_of id (outs ++ o ∷ []) ≡ ranges_of id outs
  ranges_of-push_other id apart [] = ranges_of-other id o [] (ne_eqb o.pool id apart)
  ranges_of-push_other id apart (x ∷ outs) =
      by (x.pool == id) (ranges_of-push_other id apart outs)
    where
      own : List Out → List Out
      own xs = filter (λ y. y.pool == id) xs

      by : (b : Bool) → ranges_of id (outs ++ o ∷ []) ≡ ranges_of id outs
          → map (λ y. y.range) (cond b (x ∷ own (outs ++ o ∷ [])) (own (outs ++ o ∷ [])))
          ≡ map (λ y. y.range) (cond b (x ∷ own outs) (own outs))
      by true later = ap (λ l. x.range ∷ l) later
      by false later = later

module _ {W : Type 0} (objects : Objects Layout W) (outs : List Out) (most : ℕ)
    (table : IsTable objects outs most) (id start size : ℕ) where
  abbrev own : Pools W
  own = pools_in objects outs

  abbrev put : Out
  put = record { pool = id; range = range_at start size }

  abbrev pub left : List Out
  left = outs ++ put ∷ []

  abbrev changed : Object Pool W → Object Pool W
  changed o = record o { state = with_last_range start size o.state }

  each : (live : List (Object Layout W)) → map (pool_in left) live
      ≡ map (λ o. if o.id == id then changed o else o) (map (pool_in outs) live)
  each [] = refl
  each (o ∷ live) =
      ap (λ p. p ∷ map (pool_in left) live) (by (o.id == id) refl)
      ∙ ap (λ l. (if o.id == id then changed (pool_in outs o) else pool_in outs o) ∷ l) (each live)
    where
      with_these : List Range → Object Pool W
      with_these rs =
          record { id = o.id; state = pool_with o.state rs; waiters = o.waiters }

      by : (b : Bool) → (o.id == id) ≡ b
          → pool_in left o ≡ (if b then changed (pool_in outs o) else pool_in outs o)
      by true is =
          let same = eqb-true o.id id is in
          ap with_these
          (subst (λ n. ranges_of n left ≡ ranges_of n outs ++ range_at start size ∷ [])
          (sym same) (ranges_of-push put outs))
      by false is =
          ap with_these (ranges_of-push_other put o.id (λ e. eqb-false o.id id is (sym e)) outs)

  pub pools_in-put : pools_in objects left ≡ with_out_last own id start size
  pools_in-put = ap (λ l. table_of l objects.next) (each objects.live)

  -- what may be out is seen by what is known of the pool, and by its last range
  module _ (x : Layout) (live : Some x ≡ state_of objects id) (last : Option Range)
      (last_is : last ≡ last_or None (ranges_of id outs)) where
    sound : IsPool most (pool objects outs most table id x live)
    sound = pool_sound objects outs most table id x live

    abbrev from : ℕ
    from = end_behind x.base last

    from-is : from ≡ last_end x.base (ranges_of id outs)
    from-is = ap (end_behind x.base) last_is ∙ last_end-is x.base (ranges_of id outs)

    from-inside : (x.base ≤ from) × (from ≤ x.base + x.size)
    from-inside =
        subst (λ n. (x.base ≤ n) × (n ≤ x.base + x.size)) (sym from-is)
        (last_end-le x.base (x.base + x.size) (ranges_of id outs) sound.order)

    pub ends_inside : IfSome last (EndsInside x)
    ends_inside = by last from-inside
      where
        by : (r : Option Range)
            → (x.base ≤ end_behind x.base r) × (end_behind x.base r ≤ x.base + x.size)
            → IfSome r (EndsInside x)
        by None inside = tt
        by (Some r) inside = inside

    pub may_be_out-is : lies_from x from start size ≡ may_be_out own id start size
    may_be_out-is =
        ap (λ n. lies_from x n start size) from-is
        ∙ sym (ap (λ (y : Option Pool). unwrap_or (option_map (may_be_last start size) y) false)
        (state_is objects outs most table id x live))

    module _ (may : lies_from x from start size ≡ true) (are : AreObjects objects) where
      facts : LiesBehind x from start size
      facts = facts_of x from start size may

      others : (other : ℕ) → other ≢ id → ranges_of other left ≡ ranges_of other outs
      others other apart = ranges_of-push_other put other (λ e. apart (sym e)) outs

      keeps : Keeps objects id outs left others most x
      keeps was = record {
        unit = was.unit;
        units = was.units;
        size = was.size;
        few = was.few;
        inside = was.inside;
        order =
            subst (AreInOrder x.base (x.base + x.size)) (sym (ranges_of-push put outs))
            (order-push x.base (x.base + x.size) start size (ranges_of id outs) was.order
            (subst (λ n. n ≤ start) from-is facts.behind) facts.some facts.inside);
        placed =
            subst (ArePlaced x.base x.unit) (sym (ranges_of-push put outs))
            (placed-push x.base x.unit (range_at start size)
            (first_place x from start size facts from-inside.0)
            (last_place x from start size facts from-inside.0)
            (ranges_of id outs) was.placed);
      }

      pub IsTable-put : IsTable objects left most
      IsTable-put =
          IsTable-changed objects id outs left others most table
          (All-weaker (λ o. o.id ≡ id → o.state ≡ x)
          (λ o. o.id ≡ id → Keeps objects id outs left others most o.state)
          (λ o same own. subst (Keeps objects id outs left others most) (sym (same own)) keeps)
          objects.live (one_alone id objects.live x are.ids (sym live)))
          (All-push (λ o. is_some (object_of objects.live o.pool) ≡ true) outs put table.owned
          (is_live id objects.live x (sym live)))
          (All-push (λ o. o.pool < objects.next) outs put table.given
          (id_below objects.next id objects.live x (sym live) are.given))

      -- there is room for it
      pub room : length outs < MOST_OBJECTS * most
      room =
          let few = few_out most objects left IsTable-put are.few in
          omega (arith, few, length_push outs put)

  -- no pool of this id is live
  pub none_out : None ≡ state_of objects id → may_be_out own id start size ≡ false
  none_out none =
      ap (λ (y : Option Pool). unwrap_or (option_map (may_be_last start size) y) false)
      (state_none objects outs most table id none)
