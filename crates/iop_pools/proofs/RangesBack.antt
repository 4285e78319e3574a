-- Ranges that are put back one behind the other, of the pool that stands last.
use Rattle.std.proofs.Common.{◌≡◌, ℕ, ◌+◌, ◌<◌, ◌∙◌, ◌==◌, Bool, true, false, if◌then◌else◌, Option, Some, None, option_map, unwrap_or, List, [], ◌∷◌, ◌++◌, append-nil, append_assoc, refl, ap, sym, subst, arith, All}
use Rattle.std.proofs.lemmas.Bool.{eq-eqb, ne_eqb}
use Rattle.std.proofs.lemmas.List.{map_push}
use Rattle.std.proofs.lemmas.List.Elements.{All-weaker}
use Rattle.std.proofs.lemmas.List.Folds.{map_fixed}
use Rattle.iop_objects.specs.Objects.{Object, state_of}
use Rattle.iop_objects.specs.Restoring.{with_last}
use Rattle.iop_objects.proofs.Apart.{made_found}
use Rattle.iop_objects.proofs.Tables.{table_of}
use Rattle.iop_pools.specs.Pools.{Pool, Pools}
use Rattle.iop_pools.specs.Ranges.{end_of}
use Rattle.iop_pools.specs.Restoring.{last_end, may_be_last, may_be_out, with_last_range, with_out_last, with_ranges_back}
use Rattle.iop_pools.specs.Standing.{layout_of, AreInOrder, ArePlaced, IsPool}
use Rattle.iop_pools.specs.declared.range.Range.{Range}
use Rattle.iop_pools.proofs.LastRanges.{last_end-push, from_facts, units_behind}
use Rattle.iop_pools.proofs.RangesOf.{order-le}

module _ {W : Type 0} (s : Pools W) (id : ℕ) (older : All (λ o. o.id < id) s.live) where
  abbrev one : Pool → Object Pool W
  one x = record { id = id; state = x; waiters = [] }

  -- a pool stands last, for which no thread waits
  abbrev pub last : Pool → Pools W
  last x = with_last s id x

  pub last_known : (x : Pool) → state_of (last x) id ≡ Some x
  last_known x =
      ap (option_map (λ (o : Object Pool W). o.state)) (made_found (one x) s.live older)

  module _ (start size : ℕ) where
    abbrev with_more : Object Pool W → Object Pool W
    with_more o = record o { state = with_last_range start size o.state }

    abbrev changed : Object Pool W → Object Pool W
    changed o = if o.id == id then with_more o else o

    others_stay : All (λ o. changed o ≡ o) s.live
    others_stay =
        All-weaker (λ o. o.id < id) (λ o. changed o ≡ o)
        (λ o less. ap (λ b. if b then with_more o else o)
        (ne_eqb o.id id (λ e. omega (arith, less, e))))
        s.live older

    -- it alone changes
    pub last_changes : (x : Pool)
        → with_out_last (last x) id start size ≡ last (with_last_range start size x)
    last_changes x =
        ap (λ l. table_of l (id + 1))
        (map_push changed s.live (one x)
        ∙ ap (λ l. l ++ changed (one x) ∷ []) (map_fixed changed s.live others_stay)
        ∙ ap (λ b. s.live ++ (if b then with_more (one x) else one x) ∷ []) (eq-eqb id id refl))

  module _ (x : Pool) where
    abbrev with_these : List Range → Pool
    with_these ranges = record x { ranges = ranges }

    abbrev end : ℕ
    end = x.base + x.size

    ranges_back : (done rs : List Range) → AreInOrder (last_end x.base done) end rs
        → ArePlaced x.base x.unit rs
        → with_ranges_back (last (with_these done)) id rs ≡ Some (last (with_these (done ++ rs)))
    ranges_back done [] order placed =
        ap (λ l. Some (last (with_these l))) (sym (append-nil done))
    ranges_back done (r ∷ rs) order placed =
        let was = with_these done in
        let from = last_end x.base done in
        let lies = units_behind (layout_of was) from r.start r.size order.0 order.1
        (order-le (end_of r) end rs order.2) placed.0 placed.1 in
        let may : may_be_out (last was) id r.start r.size ≡ true =
        ap (λ (p : Option Pool). unwrap_or (option_map (may_be_last r.start r.size) p) false)
        (last_known was)
        ∙ from_facts (layout_of was) from r.start r.size lies in
        ap (λ (b : Bool). if b
        then with_ranges_back (with_out_last (last was) id r.start r.size) id rs else None) may
        ∙ ap (λ t. with_ranges_back t id rs) (last_changes r.start r.size was)
        ∙ ranges_back (done ++ r ∷ []) rs
        (subst (λ n. AreInOrder n end rs) (sym (last_end-push x.base done r)) order.2) placed.2
        ∙ ap (λ l. Some (last (with_these l))) (append_assoc done (r ∷ []) rs)

    -- all that was out of it
    pub all_ranges_back : (most : ℕ) → IsPool most x
        → with_ranges_back (last (with_these [])) id x.ranges ≡ Some (last x)
    all_ranges_back most sound = ranges_back [] x.ranges sound.order sound.placed
