-- The first gap is the least of all places where so many bytes are free.
use Rattle.std.proofs.Common.{◌≡◌, ℕ, zero, suc, ◌+◌, ◌-◌, ◌*◌, ◌<◌, ◌≤◌, Bool, true, false, cond, nat_le, Some, None, option_map, List, [], ◌∷◌, find, refl, sym, ap, ◌∙◌, subst, arith}
use Rattle.std.specs.Prelude.{◌&&◌, ◌||◌, if◌then◌else◌}
use Rattle.std.specs.List.{list_all, range_with_len}
use Rattle.std.proofs.lemmas.Bool.{leb-true, leb-false, le-leb}
use Rattle.std.proofs.lemmas.Bool.Decides.{nat_tests}
use Rattle.iop_base.proofs.Searching.{find-map}
use Rattle.iop_pools.specs.Ranges.{end_of, is_apart, is_free, first_free}
use Rattle.iop_pools.specs.Standing.{AreInOrder, ArePlaced}
use Rattle.iop_pools.specs.Walks.{first_gap}
use Rattle.iop_pools.specs.declared.range.Range.{Range}
use Rattle.iop_pools.proofs.RangesOf.{order-le}

not_le : (a b : ℕ) → b < a → nat_le a b ≡ false
not_le a b less = grind (arith, nat_tests, less)

module _ (p : ℕ → Bool) where
  find-none_from : (a n : ℕ) → ((k : ℕ) → a ≤ k → p k ≡ false)
      → find p (range_with_len a n) ≡ None
  find-none_from a zero none = refl
  find-none_from a (suc n) none =
      rw (none a (omega arith))
      (find-none_from (a + 1) n (λ k le. none k (omega (arith, le))))

  find-first : (a n : ℕ) → 0 < n → p a ≡ true → find p (range_with_len a n) ≡ Some a
  find-first a zero some passes = absurd (omega (arith, some))
  find-first a (suc n) some passes = rw passes refl

  find-skip : (d a n : ℕ) → ((k : ℕ) → a ≤ k → k < a + d → p k ≡ false)
      → find p (range_with_len a (d + n)) ≡ find p (range_with_len (a + d) n)
  find-skip zero a n fails =
      let none : zero + n ≡ n = omega arith in
      let here : a + zero ≡ a = omega arith in
      rw (none, here) refl
  find-skip (suc d) a n fails =
      let more : suc d + n ≡ suc (d + n) = omega arith in
      let there : a + 1 + d ≡ a + suc d = omega arith in
      rw (more, fails a (omega arith) (omega arith))
      (find-skip d (a + 1) n (λ k le less. fails k (omega (arith, le)) (omega (arith, less)))
      ∙ ap (λ b. find p (range_with_len b n)) there)

find-same : (p q : ℕ → Bool) (a n : ℕ) → ((k : ℕ) → a ≤ k → p k ≡ q k)
    → find p (range_with_len a n) ≡ find q (range_with_len a n)
find-same p q a zero same = refl
find-same p q a (suc n) same =
    ap (λ b. cond b (Some a) (find p (range_with_len (a + 1) n))) (same a (omega arith))
    ∙ ap (cond (q a) (Some a)) (find-same p q (a + 1) n (λ k le. same k (omega (arith, le))))

or_true : (b : Bool) → (b || true) ≡ true
or_true true = refl
or_true false = refl

-- what ends in front of all of them meets none
all_apart : (from end place len : ℕ) (rs : List Range) → AreInOrder from end rs
    → place + len ≤ from → list_all (is_apart place len) rs ≡ true
all_apart from end place len [] order before = refl
all_apart from end place len (r ∷ rs) order before =
    let here : nat_le (place + len) r.start ≡ true =
    le-leb (place + len) r.start (omega (arith, before, order.0)) in
    let later = all_apart (end_of r) end place len rs order.2
    (omega (arith, before, order.0, order.1)) in
    rw (here, or_true (nat_le (end_of r) place), later) refl

module _ (base unit units len : ℕ) (some : 0 < unit) (long : 0 < len) where
  abbrev end : ℕ
  end = base + units * unit

  abbrev place : ℕ → ℕ
  place k = base + k * unit

  abbrev passes : List Range → ℕ → Bool
  passes rs k = is_free end len rs (place k)

  place-le : (a k : ℕ) → a ≤ k → place a ≤ place k
  place-le a k le = grind (arith, le)

  place-lt : (a k : ℕ) → a < k → place a < place k
  place-lt a k less = grind (arith, less, some)

  lt_from_place : (a b : ℕ) → place a < place b → a < b
  lt_from_place a b less = grind (arith, less, some)

  le_from_place : (a b : ℕ) → place a ≤ place b → a ≤ b
  le_from_place a b less = grind (arith, less, some)

  abbrev Same : (a n : ℕ) → List Range → Type 0
  Same a n rs =
      option_map place (find (passes rs) (range_with_len a n)) ≡ first_gap (place a) end len rs

  -- it fits here
  here : (a n : ℕ) (rs : List Range) → a + n ≡ units → passes rs a ≡ true → place a + len ≤ end
      → option_map place (find (passes rs) (range_with_len a n)) ≡ Some (place a)
  here a n rs all free fits =
      let before : place a < place units = omega (arith, fits, long) in
      let some_left : 0 < n = omega (arith, lt_from_place a units before, all) in
      ap (option_map place) (find-first (passes rs) a n some_left free)

  last : (a n : ℕ) → a + n ≡ units → (b : Bool) → nat_le len (end - place a) ≡ b
      → option_map place (find (passes []) (range_with_len a n))
      ≡ (if b then Some (place a) else None)
  last a n all true is =
      let le = place-le a units (omega (arith, all)) in
      let fits : place a + len ≤ end = omega (arith, leb-true _ _ is, le) in
      let free : passes [] a ≡ true = rw (le-leb (place a + len) end fits) refl in
      here a n [] all free fits
  last a n all false is =
      let short = leb-false _ _ is in
      ap (option_map place) (find-none_from (passes []) a n (λ k le.
      let further = place-le a k le in
      let no = not_le (place k + len) end (omega (arith, short, further)) in rw no refl))

  -- a range is ahead, and what is behind it is the same search again
  module _ (r : Range) (rs : List Range) (b : ℕ) (last_is : end_of r ≡ place b)
      (sized : 0 < r.size) (later : AreInOrder (end_of r) end rs)
      (again : (n : ℕ) → b + n ≡ units → Same b n rs) where
    ahead : (a n : ℕ) → a + n ≡ units → place a ≤ r.start → (fits : Bool)
        → nat_le len (r.start - place a) ≡ fits
        → option_map place (find (passes (r ∷ rs)) (range_with_len a n))
        ≡ (if fits then Some (place a) else first_gap (end_of r) end len rs)
    ahead a n all from true is =
        let before : place a + len ≤ r.start = omega (arith, leb-true _ _ is, from) in
        let inside = order-le (end_of r) end rs later in
        let fits : place a + len ≤ end = omega (arith, before, inside, sized) in
        let apart = le-leb (place a + len) r.start before in
        let others = all_apart (end_of r) end (place a) len rs later
        (omega (arith, before, sized)) in
        let free : passes (r ∷ rs) a ≡ true =
        rw (le-leb (place a + len) end fits, apart, or_true (nat_le (end_of r) (place a)), others)
        refl in
        here a n (r ∷ rs) all free fits
    ahead a n all from false is =
        let short = leb-false _ _ is in
        let inside = order-le (end_of r) end rs later in
        let after : place a < place b = omega (arith, from, sized, last_is) in
        let further = lt_from_place a b after in
        let within = le_from_place b units (omega (arith, inside, last_is)) in
        let d = b - a in
        let m = units - b in
        let parts : n ≡ d + m = omega (arith, further, within, all) in
        let behind : a + d ≡ b = omega (arith, further) in
        let fails : (k : ℕ) → a ≤ k → k < a + d → passes (r ∷ rs) k ≡ false =
        λ k le less.
        meets k (place-le a k le) (place-lt k b (omega (arith, less, behind))) short in
        let same : (k : ℕ) → b ≤ k → passes (r ∷ rs) k ≡ passes rs k =
        λ k le. past k (place-le b k le) in
        ap (option_map place) (
        ap (λ l. find (passes (r ∷ rs)) (range_with_len a l)) parts
        ∙ find-skip (passes (r ∷ rs)) d a m fails
        ∙ ap (λ l. find (passes (r ∷ rs)) (range_with_len l m)) behind
        ∙ find-same (passes (r ∷ rs)) (passes rs) b m same)
        ∙ again m (omega (arith, within))
        ∙ ap (λ l. first_gap l end len rs) (sym last_is)
      where
        meets : (k : ℕ) → place a ≤ place k → place k < place b
            → r.start - place a < len → passes (r ∷ rs) k ≡ false
        meets k low high short =
            let first = not_le (end_of r) (place k) (omega (arith, high, last_is)) in
            let second = not_le (place k + len) r.start (omega (arith, low, short)) in
            rw (first, second) (and_false (nat_le (place k + len) end))
          where
            and_false : (c : Bool) → (c && false) ≡ false
            and_false true = refl
            and_false false = refl

        past : (k : ℕ) → place b ≤ place k → passes (r ∷ rs) k ≡ passes rs k
        past k low =
            let first = le-leb (end_of r) (place k) (omega (arith, low, last_is)) in
            rw first refl

  search_from : (rs : List Range) (a n : ℕ) → a + n ≡ units → AreInOrder (place a) end rs
      → ArePlaced base unit rs → Same a n rs
  search_from [] a n all order placed = last a n all (nat_le len (end - place a)) refl
  search_from (r ∷ rs) a n all order placed =
      let b = placed.1.0 in
      let at = placed.1.1 in
      ahead r rs b at order.1 order.2
      (λ m rest. search_from rs b m rest
      (subst (λ l. AreInOrder l end rs) at order.2) placed.2)
      a n all order.0 (nat_le len (r.start - place a)) refl

  pub first_free-is : (rs : List Range) → AreInOrder base end rs → ArePlaced base unit rs
      → first_free base unit units len rs ≡ first_gap base end len rs
  first_free-is rs order placed =
      let origin : place 0 ≡ base = omega arith in
      find-map (is_free end len rs) place (range_with_len 0 units)
      ∙ search_from rs 0 units (omega arith)
      (subst (λ l. AreInOrder l end rs) (sym origin) order) placed
      ∙ ap (λ l. first_gap l end len rs) origin
