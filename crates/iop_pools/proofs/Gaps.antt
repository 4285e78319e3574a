-- The first gap that a walk finds is the least place, and a range that is put there keeps the
-- order.
use Rattle.std.proofs.Common.{◌≡◌, ℕ, ◌+◌, ◌-◌, ◌*◌, ◌<◌, ◌≤◌, Bool, true, false, nat_lt, nat_le, nat_eq, Option, Some, None, List, [], ◌∷◌, length, refl, subst, arith}
use Rattle.std.specs.Prelude.{if◌then◌else◌}
use Rattle.std.proofs.lemmas.Bool.{leb-true}
use Rattle.std.proofs.lemmas.Bool.Decides.{nat_tests}
use Rattle.iop_pools.specs.Ranges.{end_of, with_range, without}
use Rattle.iop_pools.specs.Standing.{AreInOrder, IsPlace, ArePlaced}
use Rattle.iop_pools.specs.Walks.{first_gap}
use Rattle.iop_pools.specs.declared.range.Range.{Range}
use Rattle.iop_pools.proofs.RangesOf.{order-le}

abbrev pub range_at : ℕ → ℕ → Range
range_at start size = record { start = start; size = size }

gap_by : (b : Bool) (from p : ℕ) (later : Option ℕ) (P : ℕ → Type 0)
    → (b ≡ true → P from) → (b ≡ false → later ≡ Some p → P p)
    → (if b then Some from else later) ≡ Some p → P p
gap_by true from p later P here there is = let e : from ≡ p = cc in subst P e (here refl)
gap_by false from p later P here there is = there refl is

-- it begins at the place that is asked for, or behind it
pub gap-le : (from end len p : ℕ) (rs : List Range) → AreInOrder from end rs
    → first_gap from end len rs ≡ Some p → from ≤ p
gap-le from end len p [] order is =
    gap_by (nat_le len (end - from)) from p None (λ q. from ≤ q) (λ e. omega arith) (λ e n. cc) is
gap-le from end len p (r ∷ rs) order is =
    gap_by (nat_le len (r.start - from)) from p (first_gap (end_of r) end len rs)
    (λ q. from ≤ q) (λ e. omega arith)
    (λ e later. omega (arith, order.0, order.1, gap-le (end_of r) end len p rs order.2 later)) is

-- nothing is longer than all from a place to the end
pub gap-none : (from end len : ℕ) (rs : List Range) → AreInOrder from end rs → end < from + len
    → first_gap from end len rs ≡ None
gap-none from end len [] order more =
    let no : nat_le len (end - from) ≡ false = grind (arith, nat_tests, order, more) in rw no refl
gap-none from end len (r ∷ rs) order more =
    let behind = order-le (end_of r) end rs order.2 in
    let short : r.start - from < len = omega (arith, behind, more, order.0, order.1) in
    let no : nat_le len (r.start - from) ≡ false = grind (arith, nat_tests, short) in
    rw no (gap-none (end_of r) end len rs order.2
    (omega (arith, more, order.0, order.1)))

-- a range that is put there keeps the order
pub order-with : (from end len p : ℕ) → 0 < len → (rs : List Range) → AreInOrder from end rs
    → first_gap from end len rs ≡ Some p → AreInOrder from end (with_range (range_at p len) rs)
order-with from end len p some [] order is =
    gap_by (nat_le len (end - from)) from p None
    (λ q. AreInOrder from end (with_range (range_at q len) []))
    (λ e. let fits = leb-true len (end - from) e in
    (omega arith, some, omega (arith, fits, order, some))) (λ e n. cc) is
order-with from end len p some (r ∷ rs) order is =
    gap_by (nat_le len (r.start - from)) from p (first_gap (end_of r) end len rs)
    (λ q. AreInOrder from end (with_range (range_at q len) (r ∷ rs)))
    (λ e. let fits = leb-true len (r.start - from) e in
    let no : nat_lt r.start from ≡ false = grind (arith, nat_tests, order.0) in
    rw no (omega arith, some, (omega (arith, fits, order.0, some), order.1, order.2)))
    (λ e later.
    let behind = gap-le (end_of r) end len p rs order.2 later in
    let before : r.start < p = omega (arith, behind, order.1) in
    let yes : nat_lt r.start p ≡ true = grind (arith, nat_tests, before) in
    rw yes (order.0, order.1, order-with (end_of r) end len p some rs order.2 later))
    is

-- it is so many units behind the base
pub placed-gap : (base unit from end len p : ℕ) (rs : List Range) → IsPlace base unit from
    → ArePlaced base unit rs → first_gap from end len rs ≡ Some p → IsPlace base unit p
placed-gap base unit from end len p [] here placed is =
    gap_by (nat_le len (end - from)) from p None (IsPlace base unit) (λ e. here) (λ e n. cc) is
placed-gap base unit from end len p (r ∷ rs) here placed is =
    gap_by (nat_le len (r.start - from)) from p (first_gap (end_of r) end len rs)
    (IsPlace base unit) (λ e. here)
    (λ e later. placed-gap base unit (end_of r) end len p rs placed.1 placed.2 later) is

pub placed-with : (base unit : ℕ) (r : Range) → IsPlace base unit r.start
    → IsPlace base unit (end_of r) → (rs : List Range) → ArePlaced base unit rs
    → ArePlaced base unit (with_range r rs)
placed-with base unit r first last [] placed = (first, last, tt)
placed-with base unit r first last (x ∷ xs) placed =
    by (nat_lt x.start r.start) (placed-with base unit r first last xs placed.2)
  where
    by : (b : Bool) → ArePlaced base unit (with_range r xs)
        → ArePlaced base unit (if b then x ∷ with_range r xs else r ∷ x ∷ xs)
    by true later = (placed.0, placed.1, later)
    by false later = (first, last, placed)

-- a range less keeps it too
pub order-earlier : (from less end : ℕ) → less ≤ from → (rs : List Range) → AreInOrder from end rs
    → AreInOrder less end rs
order-earlier from less end le [] order = omega (arith, le, order)
order-earlier from less end le (r ∷ rs) order =
    (omega (arith, le, order.0), order.1, order.2)

pub order-without : (block from end : ℕ) (rs : List Range) → AreInOrder from end rs
    → AreInOrder from end (without block rs)
order-without block from end [] order = order
order-without block from end (r ∷ rs) order =
    by (nat_eq r.start block) (order-without block (end_of r) end rs order.2)
  where
    by : (b : Bool) → AreInOrder (end_of r) end (without block rs)
        → AreInOrder from end (if b then rs else r ∷ without block rs)
    by true later =
        order-earlier (end_of r) from end (omega (arith, order.0, order.1)) rs order.2
    by false later = (order.0, order.1, later)

pub placed-without : (base unit block : ℕ) (rs : List Range) → ArePlaced base unit rs
    → ArePlaced base unit (without block rs)
placed-without base unit block [] placed = tt
placed-without base unit block (r ∷ rs) placed =
    by (nat_eq r.start block) (placed-without base unit block rs placed.2)
  where
    by : (b : Bool) → ArePlaced base unit (without block rs)
        → ArePlaced base unit (if b then rs else r ∷ without block rs)
    by true later = placed.2
    by false later = (placed.0, placed.1, later)

-- so many ranges need so many units
module _ (base unit units : ℕ) (some : 0 < unit) where
  fewer : (a b : ℕ) → base + a * unit < base + b * unit → a < b
  fewer a b less = grind (arith, less, some)

  not_more : (a b : ℕ) → base + a * unit ≤ base + b * unit → a ≤ b
  not_more a b less = grind (arith, less, some)

  pub count-le : (a : ℕ) (rs : List Range) → ArePlaced base unit rs
      → AreInOrder (base + a * unit) (base + units * unit) rs → a + length rs ≤ units
  count-le a [] placed order = let le = not_more a units order in omega (arith, le)
  count-le a (r ∷ rs) placed order =
      let last = placed.1 in
      let next : AreInOrder (base + last.0 * unit) (base + units * unit) rs =
      subst (λ n. AreInOrder n (base + units * unit) rs) last.1 order.2 in
      let more : base + a * unit < base + last.0 * unit =
      omega (arith, order.0, order.1, last.1) in
      let further = fewer a last.0 more in
      let rest = count-le last.0 rs placed.2 next in
      omega (arith, further, rest)
