-- Where the object of an id stands in a list whose ids rise, and that it is found there by halving.
use Rattle.std.proofs.Common.{◌≡◌, ◌≢◌, ℕ, ◌<◌, ◌≤◌, ◌⊎◌, inl, inr, Bool, true, false, cond, Option, Some, None, List, [], ◌∷◌, length, find, get_or, refl, ap, sym, ◌∙◌, arith}
use Rattle.std.specs.Prelude.{◌==◌, nat_lt, position}
use Rattle.std.specs.Bool.{then_some}
use Rattle.std.specs.List.{All, position_or_len, slice_get}
use Rattle.std.specs.List.Sorted.{IsNonDecreasingBy, IsPartitionedBy, IsPartitionPoint}
use Rattle.std.specs.Option.{option_and_then}
use Rattle.std.proofs.lemmas.Bool.{cases_lt, cases_order, ne_eqb, eqb-true, eqb-false, ltb-true, ltb-false}
use Rattle.std.proofs.lemmas.List.Folds.{find_at}
use Rattle.std.proofs.lemmas.List.Quantifiers.{position-Some}
use Rattle.std.proofs.lemmas.List.Sorted.{IsPartitionedBy-ltb}
use Rattle.std.proofs.lemmas.List.Sums.{fails_before_first, passes_at_first}
use Rattle.std.proofs.lemmas.Option.{get_or_from_slice_get, slice_get_within, slice_get_past, slice_get-get_or}
use Rattle.iop_base.proofs.Searching.{position-at, position-none}
use Rattle.iop_objects.specs.Standing.{IsInOrder}
use Rattle.iop_objects.specs.declared.objects.Live.{Live}

module _ {X : Type 0} (p : X → Bool) (xs : List X) where
  abbrev first_place : ℕ
  first_place = position_or_len p xs

  -- what is found stands at the place that is found
  pub find-position : find p xs ≡ option_and_then (slice_get xs) (position p xs)
  find-position = find_at p xs ∙ either (nat_lt first_place (length xs)) refl
    where
      either : (b : Bool) → nat_lt first_place (length xs) ≡ b
          → slice_get xs first_place
          ≡ option_and_then (slice_get xs) (cond b (Some first_place) None)
      either true is = refl
      either false is = slice_get_past xs first_place (ltb-false first_place (length xs) is)

  pub found_place : (x : X) → find p xs ≡ Some x
      → (k : ℕ) × (k < length xs) × (get_or xs k x ≡ x) × (p x ≡ true)
  found_place x found =
      let is : slice_get xs first_place ≡ Some x = sym (find_at p xs) ∙ found in
      let below = slice_get_within xs first_place x is in
      let at = get_or_from_slice_get xs first_place x x is in
      (first_place, below, at, ap p (sym at) ∙ passes_at_first p xs x below)

  -- where none is found, none passes
  pub none_found : find p xs ≡ None → All (λ x. p x ≡ false) xs
  none_found none = λ k d below.
      fails_before_first p xs k d (omega (arith, below, past d (cases_lt first_place (length xs))))
    where
      past : X → (first_place < length xs) ⊎ (length xs ≤ first_place) → length xs ≤ first_place
      past d (inl inside) =
          let some = slice_get-get_or xs first_place d inside in
          let is : slice_get xs first_place ≡ None = sym (find_at p xs) ∙ none in cc
      past d (inr behind) = behind

-- where none passes none has a place
no_place : {X : Type 0} (p : X → Bool) (xs : List X) → All (λ x. p x ≡ false) xs
    → position p xs ≡ None
no_place p [] none = refl
no_place p (x ∷ xs) none = position-none p (x ∷ xs) x (λ k below. none k x below)

module _ {A : Type 0} where
  abbrev pub has_id : ℕ → Live A → Bool
  has_id id o = o.id == id

  abbrev pub is_before : ℕ → Live A → Bool
  is_before id o = nat_lt o.id id

module _ {A : Type 0} (live : List (Live A)) (order : IsInOrder live) where
  -- no two have one id
  pub ids_apart : (i j : ℕ) (d : Live A) → i < length live → j < length live → i ≢ j
      → (get_or live i d).id ≢ (get_or live j d).id
  ids_apart i j d first second apart e = by (cases_order i j)
    where
      by : (i ≡ j) ⊎ ((i < j) ⊎ (j < i)) → ⊥
      by (inl same) = apart same
      by (inr (inl before)) = omega (arith, order i j d before second, e)
      by (inr (inr behind)) = omega (arith, order j i d behind first, e)

  ids_rise : IsNonDecreasingBy (λ (o : Live A). o.id) live
  ids_rise i j d le below = by (cases_order i j)
    where
      by : (i ≡ j) ⊎ ((i < j) ⊎ (j < i)) → (get_or live i d).id ≤ (get_or live j d).id
      by (inl same) = omega (arith, ap (λ k. (get_or live k d).id) same)
      by (inr (inl before)) = omega (arith, order i j d before below)
      by (inr (inr behind)) = absurd (omega (arith, behind, le))

  -- what a search by halving asks for
  pub ids_parted : (id : ℕ) → IsPartitionedBy (is_before id) live
  ids_parted id = IsPartitionedBy-ltb (λ (o : Live A). o.id) live id ids_rise

  -- the ids before a place are smaller than this one, and those from there on are not
  module _ (id place : ℕ) (point : IsPartitionPoint (λ o. is_before id o ≡ true)
      (λ o. is_before id o ≡ false) live place) where
    before : (k : ℕ) (d : Live A) → k < place → (get_or live k d).id < id
    before k d less = ltb-true _ _ (point.0 k d (omega arith) less)

    behind : (k : ℕ) (d : Live A) → place ≤ k → k < length live → id ≤ (get_or live k d).id
    behind k d ge below = ltb-false _ _ (point.1 k d ge below)

    none_before : (k : ℕ) (d : Live A) → k < place → has_id id (get_or live k d) ≡ false
    none_before k d less = ne_eqb _ _ (λ e. omega (arith, before k d less, e))

    -- so none has it, where those from there on have not
    none_has : ((k : ℕ) (d : Live A) → place ≤ k → k < length live
        → has_id id (get_or live k d) ≡ false) → All (λ o. has_id id o ≡ false) live
    none_has others = λ k d below. by k d below (cases_lt k place)
      where
        by : (k : ℕ) (d : Live A) → k < length live → (k < place) ⊎ (place ≤ k)
            → has_id id (get_or live k d) ≡ false
        by k d below (inl less) = none_before k d less
        by k d below (inr ge) = others k d ge below

    found_by : (o : Live A) → slice_get live place ≡ Some o → (b : Bool) → has_id id o ≡ b
        → position (has_id id) live ≡ then_some b place
    found_by o is true has =
        let inside = slice_get_within live place o is in
        position-at (has_id id) live o place inside
        (ap (has_id id) (get_or_from_slice_get live place o o is) ∙ has)
        (λ k less. none_before k o less)
    found_by o is false has =
        no_place (has_id id) live (none_has (λ k d ge below.
        let inside = slice_get_within live place o is in
        let at = ap (λ x. x.id) (get_or_from_slice_get live place o d is) in
        let least = behind place d (omega arith) inside in
        let more = ids_rise place k d ge below in
        ne_eqb _ _ (λ e. eqb-false o.id id has (omega (arith, at, least, more, e)))))

    -- what the object at that place tells
    pub found_by_halving : (o : Option (Live A)) → slice_get live place ≡ o
        → position (has_id id) live ≡ option_and_then (λ x. then_some (has_id id x) place) o
    found_by_halving None is =
        no_place (has_id id) live (none_has (λ k d ge below.
        let inside : place < length live = omega (arith, ge, below) in
        let some = slice_get-get_or live place d inside in cc))
    found_by_halving (Some o) is = found_by o is (has_id id o) refl

-- the object of an id stands at a place
pub record IsObject {A : Type 0} (live : List (Live A)) (id place : ℕ) (o : Live A) : Type 0 where
  pub inside : place < length live
  pub object : get_or live place o ≡ o
  pub same_id : o.id ≡ id

module _ {A : Type 0} (live : List (Live A)) (id : ℕ) where
  -- the place of what is found
  pub found_object : (o : Live A) → find (has_id id) live ≡ Some o
      → (place : ℕ) × IsObject live id place o
  found_object o found =
      let at = found_place (has_id id) live o found in
      (at.0, record { inside = at.1; object = at.2; same_id = eqb-true o.id id at.3 })

  -- what stands at the place that is found
  pub object_at : (place : ℕ) (o : Live A) → Some place ≡ position (has_id id) live
      → o ≡ get_or live place o → IsObject live id place o × (find (has_id id) live ≡ Some o)
  object_at place o is read =
      let at = position-Some (has_id id) live place o (sym is) in
      let found : find (has_id id) live ≡ Some o =
      find-position (has_id id) live ∙ ap (option_and_then (slice_get live)) (sym is)
      ∙ slice_get-get_or live place o at.0 ∙ ap Some (sym read) in
      let same : o.id ≡ id = eqb-true o.id id (ap (has_id id) read ∙ at.1) in
      (record { inside = at.0; object = sym read; same_id = same }, found)

  pub no_object : None ≡ position (has_id id) live → find (has_id id) live ≡ None
  no_object none =
      find-position (has_id id) live ∙ ap (option_and_then (slice_get live)) (sym none)
