-- The links of all lists once those of one list changed.
use Rattle.std.proofs.Common.{◌≡◌, ◌≢◌, ◌∙◌, ℕ, ◌+◌, ◌<◌, true, ◌⊎◌, inl, inr, Some, List, [], length, get_or, set, sym, ap, arith}
use Rattle.std.proofs.lemmas.Bool.{cases_eq}
use Rattle.std.proofs.lemmas.List.{length-set, get_or-set_same, get_or-set_other}
use Rattle.iop_cblock.specs.Lists.{holds}
use Rattle.iop_cblock.specs.Links.{Links, next_at, previous_at, owner_at, IsRing, AreLinked}
use Rattle.iop_cblock.proofs.Rings.{Agree, frame}
use Rattle.iop_cblock.proofs.Owners.{misses_other}
use Rattle.iop_cblock.proofs.Ownership.{KeepsOwners, owned-kept}

-- the links once some of one list changed: those of a node, and of a place in front and one behind
pub record ChangesOne (t t' : Links) (list node before behind : ℕ) : Type 0 where
  pub nodes : t'.nodes ≡ t.nodes
  pub next_length : length t'.next ≡ length t.next
  pub previous_length : length t'.previous ≡ length t.previous
  pub owner_length : length t'.owner ≡ length t.owner
  pub agree : Agree (next_at t) (previous_at t) (next_at t') (previous_at t') before behind node
  pub owners : KeepsOwners t t' node
  pub before_owner : owner_at t before ≡ Some list
  pub behind_owner : owner_at t behind ≡ Some list
  pub was_in_no_other : (other : ℕ) → other ≢ list → owner_at t node ≢ Some other
  pub is_in_no_other : (other : ℕ) → other ≢ list → owner_at t' node ≢ Some other

module _ (t t' : Links) (list node before behind : ℕ)
    (change : ChangesOne t t' list node before behind) where
  end-kept : (j : ℕ) (xs : List ℕ) → j ≢ list → IsRing t j xs
      → owner_at t' (t.nodes + j) ≡ Some j
  end-kept j xs ne r =
      change.owners (t.nodes + j)
      (λ e. change.was_in_no_other j ne (ap (owner_at t) (sym e) ∙ r.end)) ∙ r.end

  of_another : (j p : ℕ) → j ≢ list → owner_at t p ≡ Some list → owner_at t p ≢ Some j
  of_another j p ne o e = ne (let same : j ≡ list = cc in same)

  -- another list stays
  pub ring-other : (j : ℕ) (xs : List ℕ) → j ≢ list → IsRing t j xs → IsRing t' j xs
  ring-other j xs ne r =
      let misses_node = misses_other t j node xs r (change.was_in_no_other j ne) in
      let misses_before =
      misses_other t j before xs r (of_another j before ne change.before_owner) in
      let misses_behind =
      misses_other t j behind xs r (of_another j behind ne change.behind_owner) in
      record {
        end = rw change.nodes (end-kept j xs ne r);
        linked =
            rw change.nodes
            (frame (next_at t) (previous_at t) (next_at t') (previous_at t') before behind node
            change.agree (t.nodes + j) xs (t.nodes + j) misses_before misses_node misses_behind
            misses_node.first r.linked);
        owned = owned-kept t t' change.nodes node change.owners j xs misses_node.others r.owned;
        apart = r.apart;
      }

  module _ (lists : List (List ℕ)) (linked : AreLinked t lists) (below : list < length lists)
      (ys : List ℕ) where
    rings-by : (j : ℕ) → j < length lists → IsRing t' list ys → (j ≡ list) ⊎ (j ≢ list)
        → IsRing t' j (get_or (set lists list ys) j [])
    rings-by j h r (inl e) = rw (e, get_or-set_same lists list ys [] below) r
    rings-by j h r (inr ne) =
        rw (get_or-set_other lists list j ys [] ne)
        (ring-other j (get_or lists j []) ne (linked.rings j h))

    held-by : (y j : ℕ) → y < t.nodes → owner_at t' y ≡ Some j
        → (owner_at t' y ≡ Some list → holds y ys ≡ true) → (j ≡ list) ⊎ (j ≢ list)
        → (j < length lists) × (holds y (get_or (set lists list ys) j []) ≡ true)
    held-by y j h o own (inl e) =
        let here : holds y ys ≡ true = own (o ∙ ap (λ k. Some k) e) in
        rw (e, get_or-set_same lists list ys [] below) (below, here)
    held-by y j h o own (inr ne) =
        let apart : y ≢ node =
        λ e. change.is_in_no_other j ne (ap (owner_at t') (sym e) ∙ o) in
        let found = linked.held y j h (sym (change.owners y apart) ∙ o) in
        rw (get_or-set_other lists list j ys [] ne) found

    -- the links are those of the lists with this one changed
    pub linked-changed : IsRing t' list ys
        → ((y : ℕ) → y < t.nodes → owner_at t' y ≡ Some list → holds y ys ≡ true)
        → AreLinked t' (set lists list ys)
    linked-changed r own =
        let count = length-set lists list ys in
        record {
          next_length = omega (arith, count, linked.next_length, change.next_length, change.nodes);
          previous_length =
              omega (arith, count, linked.previous_length, change.previous_length, change.nodes);
          owner_length =
              omega (arith, count, linked.owner_length, change.owner_length, change.nodes);
          rings = λ j h. rings-by j (omega (arith, h, count)) r (cases_eq j list);
          held = λ y j h o.
              let here : y < t.nodes = omega (arith, h, change.nodes) in
              let found = held-by y j here o (own y here) (cases_eq j list) in
              (omega (arith, found.0, count), found.1);
        }
