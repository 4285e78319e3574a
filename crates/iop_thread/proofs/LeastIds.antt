-- The least of some numbers, which is known by the numbers that are there.
use Rattle.std.proofs.Common.{◌≡◌, ℕ, ◌≤◌, min, nat_lt, ◌&&◌, Bool, true, false, nat_eq, Option, Some, None, is_some, List, [], ◌∷◌, get_or, map, filter, filter_map, ◌⊎◌, inl, inr, refl, ap, sym, ◌∙◌, subst, arith}
use Rattle.std.specs.List.{fold, list_any, position, reduce}
use Rattle.std.proofs.lemmas.Bool.Decides.{nat_tests}
use Rattle.std.proofs.lemmas.List.Folds.{list_any_none, list_any-from_Any}
use Rattle.std.proofs.lemmas.List.{get_or_default}
use Rattle.std.proofs.lemmas.List.Quantifiers.{position-Some}
use Rattle.iop_thread.specs.declared.thread.Thread.{Thread}
use Rattle.iop_thread.specs.ThreadPlaces.{has_id, id_above, place_of}
use Rattle.iop_thread.specs.ThreadTable.{thread_of}
use Rattle.iop_thread.proofs.PlaceLists.{position-None}

-- whether a number is there
abbrev pub has : ℕ → List ℕ → Bool
has n ns = list_any (nat_eq n) ns

-- a number is there, and none that is there is less
pub record IsLeast (ns : List ℕ) (m : ℕ) : Type 0 where
  pub there : has m ns ≡ true
  pub least : (n : ℕ) → has n ns ≡ true → m ≤ n

-- of two numbers in front the less decides
least_more : (x y m r : ℕ) (ns : List ℕ) → (m ≡ x) ⊎ (m ≡ y) → m ≤ x → m ≤ y
    → IsLeast (m ∷ ns) r → IsLeast (x ∷ y ∷ ns) r
least_more x y m r ns one left right h = record {
  there = there one;
  least = λ n is.
      let first : r ≤ m = h.least m (grind (arith, nat_tests)) in
      let rest = h.least n in
      grind (arith, nat_tests, first, rest, left, right, is);
}
  where
    there : (m ≡ x) ⊎ (m ≡ y) → has r (x ∷ y ∷ ns) ≡ true
    there (inl same) = let here = h.there in grind (arith, nat_tests, here, same)
    there (inr same) = let here = h.there in grind (arith, nat_tests, here, same)

less : (x y : ℕ) → (min x y ≡ x) ⊎ (min x y ≡ y)
less x y = either (nat_lt x y) refl
  where
    either : (b : Bool) → nat_lt x y ≡ b → (min x y ≡ x) ⊎ (min x y ≡ y)
    either true is = inl (grind (arith, nat_tests, is))
    either false is = inr (grind (arith, nat_tests, is))

least_fold : (x : ℕ) (xs : List ℕ) → IsLeast (x ∷ xs) (fold min x xs)
least_fold x [] = record {
  there = grind (arith, nat_tests);
  least = λ n is. grind (arith, nat_tests, is);
}
least_fold x (y ∷ ys) =
    least_more x y (min x y) (fold min (min x y) ys) ys (less x y) (omega arith) (omega arith)
    (least_fold (min x y) ys)

-- a number that is least is the least
pub reduce-least : (ns : List ℕ) (m : ℕ) → IsLeast ns m → reduce min ns ≡ Some m
reduce-least [] m h = let there = h.there in cc
reduce-least (n ∷ ns) m h =
    let own = least_fold n ns in
    let one : fold min n ns ≤ m = own.least m h.there in
    let other : m ≤ fold min n ns = h.least (fold min n ns) own.there in
    ap Some (omega (arith, one, other))

-- the least is there
pub reduce-there : (ns : List ℕ) (m : ℕ) → reduce min ns ≡ Some m → has m ns ≡ true
reduce-there [] m is = cc
reduce-there (n ∷ ns) m is =
    let there = (least_fold n ns).there in
    let same : fold min n ns ≡ m = cc in
    subst (λ k. has k (n ∷ ns) ≡ true) same there

-- lists that have the same numbers have the same least
pub same_least : (ms ns : List ℕ) → ((n : ℕ) → has n ms ≡ has n ns)
    → reduce min ms ≡ reduce min ns
same_least [] [] same = refl
same_least [] (n ∷ ns) same = let here = same n in absurd (grind (arith, nat_tests, here))
same_least (m ∷ ms) [] same = let here = same m in absurd (grind (arith, nat_tests, here))
same_least (m ∷ ms) (n ∷ ns) same =
    let own = least_fold n ns in
    sym (reduce-least (n ∷ ns) (fold min m ms)
    (record {
      there = sym (same (fold min m ms)) ∙ (least_fold m ms).there;
      least = λ k is. (least_fold m ms).least k (same k ∙ is);
    }))

-- which ids threads have
pub has-ids : (live : List Thread) (n : ℕ)
    → has n (map (λ t. t.id) live) ≡ is_some (thread_of live n)
has-ids [] n = refl
has-ids (t ∷ live) n = let rest = has-ids live n in grind (arith, nat_tests, rest)

-- which of some numbers are above another
pub has-above : (id n : ℕ) (ns : List ℕ) → has n (filter (nat_lt id) ns) ≡ (nat_lt id n && has n ns)
has-above id n [] = grind (arith, nat_tests)
has-above id n (m ∷ ns) = let rest = has-above id n ns in grind (arith, nat_tests, rest)

-- which ids above another the threads in places have
has-places : (id n : ℕ) (places : List (Option Thread))
    → has n (filter_map (id_above id) places) ≡ (nat_lt id n && list_any (has_id n) places)
has-places id n [] = grind (arith, nat_tests)
has-places id n (None ∷ places) = has-places id n places
has-places id n (Some t ∷ places) =
    let rest = has-places id n places in grind (arith, nat_tests, rest)

-- one that passes is there exactly where a first one is found
any-position : {X : Type 0} (p : X → Bool) (xs : List X) (d : X)
    → list_any p xs ≡ is_some (position p xs)
any-position {X} p xs d = by (position p xs) refl
  where
    by : (o : Option ℕ) → position p xs ≡ o → list_any p xs ≡ is_some o
    by None none = list_any_none p xs (λ k e below. position-None p xs none k e below)
    by (Some i) found =
        let at = position-Some p xs i d found in
        let x = get_or xs i d in
        list_any-from_Any p xs (i, x, at.0, get_or_default xs i x d at.0, at.1)

-- the least of the ids above another, of threads in places and of those that have these ids
pub least_in_places : (live : List Thread) (places : List (Option Thread))
    → ((n : ℕ) → is_some (thread_of live n) ≡ is_some (place_of places n)) → (id : ℕ)
    → reduce min (filter_map (id_above id) places)
    ≡ reduce min (filter (nat_lt id) (map (λ t. t.id) live))
least_in_places live places same id =
    same_least (filter_map (id_above id) places) (filter (nat_lt id) (map (λ t. t.id) live))
    (λ n. has-places id n places
    ∙ ap (λ b. nat_lt id n && b) (any-position (has_id n) places None ∙ sym (same n)
    ∙ sym (has-ids live n))
    ∙ sym (has-above id n (map (λ t. t.id) live)))
