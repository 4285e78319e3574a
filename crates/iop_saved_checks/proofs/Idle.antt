-- There is nothing to be had for those that wait for an object, where the test says so.
use Rattle.std.proofs.Common.{◌≡◌, ℕ, ◌+◌, ◌*◌, ◌/◌, ◌<◌, ◌≤◌, Bool, true, false, not, Option, Some, None, is_some, List, [], ◌∷◌, length, map, ◌⊎◌, inl, inr, refl, sym, ◌∙◌, ap, arith, div-mul-le_self, mul-div_cancel, mul-le-mul_right}
use Rattle.std.specs.Prelude.{◌==◌, ◌&&◌, ◌||◌, nat_lt, nat_le}
use Rattle.std.proofs.lemmas.Bool.Decides.{nat_tests}
use Rattle.iop_event.specs.WakeConditions.{is_met}
use Rattle.iop_kernel.specs.Kinds.{State, Wants}
use Rattle.iop_kernel.specs.Overdue.{IsIdle}
use Rattle.iop_kernel.specs.PoolMemory.{IsSound}
use Rattle.iop_objects.specs.declared.waiter.Waiter.{Waiter}
use Rattle.iop_pools.proofs.Meeting.{room_is}
use Rattle.iop_pools.specs.FixedPools.{status_of}
use Rattle.iop_pools.specs.Pools.{Pool, place_for, free_of, gaps_of, greatest_free, room_of, units_of}
use Rattle.iop_pools.specs.Ranges.{end_of, gaps, greatest, total}
use Rattle.iop_pools.specs.Standing.{IsPool, ArePlaced, AreInOrder}
use Rattle.iop_pools.specs.VariablePools.{place_of}
use Rattle.iop_pools.specs.declared.range.Range.{Range}
use Rattle.iop_queues.specs.declared.queued.Queued.{Queued}
use Rattle.iop_thread.specs.declared.kind.Kind.{Kind}
use Rattle.iop_thread.specs.declared.kind.Kind.TheVariants.{Semaphore, EventFlag, Mailbox, VariablePool, FixedPool}
use Rattle.iop_saved_checks.specs.Idle.{is_idle}
use Rattle.iop_saved_checks.proofs.Lists.{each_is}

-- none, or a number of 0
none_or : {X : Type 0} (xs : List X) (n : ℕ) → (length xs == 0 || n == 0) ≡ true
    → (xs ≡ []) ⊎ (n ≡ 0)
none_or [] n h = inl refl
none_or (x ∷ xs) n h = inr (grind (arith, nat_tests, h))

empty_or : {X Y : Type 0} (xs : List X) (ys : List Y)
    → (length xs == 0 || length ys == 0) ≡ true → (xs ≡ []) ⊎ (ys ≡ [])
empty_or [] ys h = inl refl
empty_or (x ∷ xs) [] h = inr refl
empty_or (x ∷ xs) (y ∷ ys) h = absurd (grind (arith, nat_tests, h))

is_false : (b : Bool) → not b ≡ true → b ≡ false
is_false true h = absurd cc
is_false false h = refl

is_none : {X : Type 0} (o : Option X) → is_some o ≡ false → o ≡ None
is_none None h = refl
is_none (Some x) h = absurd cc

module _ (most : ℕ) (x : Pool) (sound : IsPool most x) where
  -- a size fits where there is room for it
  pub fits_at : (size : ℕ)
      → (not (size == 0) && nat_le size (room_of x)) ≡ is_some (place_of x size)
  fits_at size =
      let waiter : Waiter ℕ = record { thread = 0; wants = size } in
      ap (λ (f : Waiter ℕ → Bool). f waiter) (room_is most x sound)

  -- where no free range has as many bytes there is no place
  pub no_place : (size : ℕ) → nat_lt (greatest_free x) size ≡ true → place_of x size ≡ None
  no_place size more =
      let much : greatest_free x < size = grind (arith, nat_tests, more) in
      let less : room_of x < size =
      omega (arith, much, div-mul-le_self (greatest_free x) x.unit) in
      let short : nat_le size (room_of x) ≡ false = grind (arith, nat_tests, less) in
      is_none (place_of x size)
      (sym (fits_at size) ∙ ap (λ b. not (size == 0) && b) short ∙ never (not (size == 0)))
    where
      never : (b : Bool) → (b && false) ≡ false
      never true = refl
      never false = refl

-- the greatest of some numbers is no more than all of them together
greatest_of_all : (ns : List ℕ) → greatest ns ≤ total ns
greatest_of_all [] = omega arith
greatest_of_all (n ∷ ns) =
    let later = greatest_of_all ns in omega (arith, later)

-- each range has a unit at least
module _ (base unit : ℕ) where
  unit_at_least : (start len k j : ℕ) → 0 < len → start ≡ base + k * unit
      → start + len ≡ base + j * unit → unit ≤ len
  unit_at_least start len k j some from to = by (nat_lt k j) refl
    where
      by : (b : Bool) → nat_lt k j ≡ b → unit ≤ len
      by true is =
          let less : k + 1 ≤ j = grind (arith, nat_tests, is) in
          let more : (k + 1) * unit ≤ j * unit = mul-le-mul_right unit less in
          let one : (k + 1) * unit ≡ k * unit + unit = omega arith in
          omega (arith, more, one, from, to)
      by false is =
          let le : j ≤ k = grind (arith, nat_tests, is) in
          let more : j * unit ≤ k * unit = mul-le-mul_right unit le in
          absurd (omega (arith, more, from, to, some))

  units_at_least : (from end : ℕ) (rs : List Range) → AreInOrder from end rs
      → ArePlaced base unit rs → length rs * unit ≤ total (map (λ r. r.size) rs)
  units_at_least from end [] order placed = omega arith
  units_at_least from end (r ∷ rs) order placed =
      let first = placed.0 in
      let last = placed.1 in
      let here = unit_at_least r.start r.size first.0 last.0 order.1 first.1 last.1 in
      let later = units_at_least (end_of r) end rs order.2 placed.2 in
      let one : length (r ∷ rs) * unit ≡ unit + length rs * unit = omega arith in
      omega (arith, here, later, one)

-- what is free and what is out is all
pub all_counted : (from end : ℕ) (rs : List Range) → AreInOrder from end rs
    → from + total (gaps from end rs) + total (map (λ r. r.size) rs) ≡ end
all_counted from end [] order = omega (arith, order)
all_counted from end (r ∷ rs) order =
    omega (arith, order.0, all_counted (end_of r) end rs order.2)

module _ (most : ℕ) (x : Pool) (sound : IsPool most x) where
  -- where as many ranges are out as there are units, nothing is free
  none_free : (status_of x).free ≡ 0 → free_of x ≡ 0
  none_free none =
      let units : units_of x ≡ sound.units =
      ap (λ n. n / x.unit) sound.size ∙ mul-div_cancel sound.units sound.unit in
      let many : sound.units ≤ length x.ranges = omega (arith, units, none) in
      let all : sound.units * x.unit ≤ length x.ranges * x.unit = mul-le-mul_right x.unit many in
      let out = units_at_least x.base x.unit x.base (x.base + x.size) x.ranges sound.order
      sound.placed in
      omega (
        arith,
        all,
        out,
        sound.size,
        all_counted x.base (x.base + x.size) x.ranges sound.order,
      )

  -- and so there is no place for a block
  pub no_block : (status_of x).free ≡ 0 → place_for x x.unit ≡ None
  no_block none =
      let short : greatest_free x ≡ 0 =
      omega (arith, greatest_of_all (gaps_of x), none_free none) in
      let less : nat_lt (greatest_free x) x.unit ≡ true =
      grind (arith, nat_tests, short, sound.unit) in
      let some : (x.unit == 0) ≡ false = grind (arith, nat_tests, sound.unit) in
      sym (rw some refl) ∙ no_place most x sound x.unit less

-- there is nothing to be had, of each kind
pub idle_is : (kind : Kind) (x : State kind) (xs : List (Queued (Waiter (Wants kind))))
    → IsSound kind x → is_idle kind x xs ≡ true → IsIdle kind x xs
idle_is Semaphore x xs sound h = none_or xs x.count h
idle_is EventFlag x xs sound h =
    each_is (λ w. not (is_met x.pattern w.item)) (λ w. is_met x.pattern w.item ≡ false)
    (λ w not_met. is_false (is_met x.pattern w.item) not_met) xs h
idle_is Mailbox x xs sound h = empty_or xs x.messages h
idle_is VariablePool x xs sound h =
    each_is (λ w. nat_lt (greatest_free x) w.item.wants) (λ w. place_of x w.item.wants ≡ None)
    (λ w more. no_place _ x sound w.item.wants more) xs h
idle_is FixedPool x xs sound h = either (none_or xs (status_of x).free h)
  where
    either : (xs ≡ []) ⊎ ((status_of x).free ≡ 0) → (xs ≡ []) ⊎ (place_for x x.unit ≡ None)
    either (inl none) = inl none
    either (inr full) = inr (no_block _ x sound full)
