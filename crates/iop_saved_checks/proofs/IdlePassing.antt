-- The test that there is nothing to be had passes where there is not.
use Rattle.std.proofs.Common.{◌≡◌, ℕ, ◌+◌, ◌*◌, ◌/◌, ◌%◌, ◌-◌, ◌<◌, ◌≤◌, Bool, true, false, not, Option, None, is_some, List, [], ◌∷◌, length, map, All, ◌⊎◌, inl, inr, refl, sym, ◌∙◌, ap, arith, div-add-mod', mul-div_cancel, mul-le-mul_right, le-div_iff_mul-le}
use Rattle.std.specs.Prelude.{⊤, ◌==◌, ◌&&◌, ◌||◌, nat_lt, nat_le}
use Rattle.std.proofs.lemmas.Bool.{and_parts, and_from}
use Rattle.std.proofs.lemmas.Bool.Decides.{nat_tests}
use Rattle.std.proofs.lemmas.List.Elements.{All-head, All-tail}
use Rattle.iop_event.specs.WakeConditions.{is_met}
use Rattle.iop_kernel.specs.Kinds.{Live}
use Rattle.iop_kernel.specs.Overdue.{IsIdle}
use Rattle.iop_objects.specs.declared.waiter.Waiter.{Waiter}
use Rattle.iop_pools.specs.FixedPools.{status_of}
use Rattle.iop_pools.specs.FixedRestoring as fixed
use Rattle.iop_pools.specs.Pools.{Pool, place_for, greatest_free, room_of, units_of}
use Rattle.iop_pools.specs.Ranges.{end_of, gaps, greatest, total}
use Rattle.iop_pools.specs.Standing.{IsPool, ArePlaced}
use Rattle.iop_pools.specs.VariablePools.{place_of}
use Rattle.iop_pools.specs.declared.range.Range.{Range}
use Rattle.iop_pools.specs.VariableRestoring as variable
use Rattle.iop_pools.specs.VariableRestoring.{may_be_wanted}
use Rattle.iop_pools.specs.declared.variable_pool.TheConstants.{VARIABLE_UNIT}
use Rattle.iop_queues.specs.declared.queued.Queued.{Queued}
use Rattle.iop_thread.specs.declared.kind.Kind.{Kind}
use Rattle.iop_thread.specs.declared.kind.Kind.TheVariants.{Semaphore, EventFlag, Mailbox, VariablePool, FixedPool}
use Rattle.iop_saved_checks.specs.Idle.{is_idle}
use Rattle.iop_saved_checks.proofs.Idle.{all_counted, fits_at}
use Rattle.iop_saved_checks.proofs.Lists.{all_pass}

or_number : {X : Type 0} (xs : List X) (n : ℕ) → (xs ≡ []) ⊎ (n ≡ 0)
    → (length xs == 0 || n == 0) ≡ true
or_number xs n (inl none) = rw none refl
or_number xs n (inr zero) = by (length xs == 0)
  where
    by : (b : Bool) → (b || n == 0) ≡ true
    by true = refl
    by false = rw zero refl

or_empty : {X Y : Type 0} (xs : List X) (ys : List Y) → (xs ≡ []) ⊎ (ys ≡ [])
    → (length xs == 0 || length ys == 0) ≡ true
or_empty xs ys (inl none) = rw none refl
or_empty xs ys (inr none) = by (length xs == 0)
  where
    by : (b : Bool) → (b || length ys == 0) ≡ true
    by true = refl
    by false = rw none refl

is_more : (a b : ℕ) → nat_le a b ≡ false → b < a
is_more a b h = grind (arith, nat_tests, h)

none_is : {X : Type 0} (o : Option X) → o ≡ None → is_some o ≡ false
none_is o none = rw none refl

-- where there is no place for whole units, no free range has as many bytes
module _ (most : ℕ) (x : Pool) (sound : IsPool most x) (size k : ℕ) (some : 0 < size)
    (units : size ≡ k * x.unit) (none : place_for x size ≡ None) where
  room_short : room_of x < size
  room_short =
      let is : (size == 0) ≡ false = grind (arith, nat_tests, some) in
      let no_place : place_of x size ≡ None = rw is none in
      is_more size (room_of x)
      (sym (rw is refl) ∙ fits_at most x sound size ∙ none_is (place_of x size) no_place)

  pub free_short : greatest_free x < size
  free_short = by (nat_lt (greatest_free x) size) refl
    where
      by : (b : Bool) → nat_lt (greatest_free x) size ≡ b → greatest_free x < size
      by true is = grind (arith, nat_tests, is)
      by false is =
          let long : size ≤ greatest_free x = grind (arith, nat_tests, is) in
          let many : k * x.unit ≤ greatest_free x = omega (arith, long, units) in
          let fit : k ≤ greatest_free x / x.unit =
          (le-div_iff_mul-le sound.unit).1 many in
          let back : k * x.unit ≤ room_of x = mul-le-mul_right x.unit fit in
          absurd (omega (arith, back, units, room_short))

-- a size that is so many units
whole_units : (size unit : ℕ) → size % unit ≡ 0 → size ≡ size / unit * unit
whole_units size unit none = omega (arith, div-add-mod' size unit, none)

-- of two places, each so many units behind a base, the second is not behind the first where it is
-- less than a unit behind
module _ (base unit : ℕ) where
  small_gap : (p q a u : ℕ) → p ≡ base + a * unit → q ≡ base + u * unit → q - p < unit
      → q - p ≡ 0
  small_gap p q a u from to small = by (nat_lt a u) refl
    where
      by : (b : Bool) → nat_lt a u ≡ b → q - p ≡ 0
      by true is =
          let less : a + 1 ≤ u = grind (arith, nat_tests, is) in
          let more : (a + 1) * unit ≤ u * unit = mul-le-mul_right unit less in
          let one : (a + 1) * unit ≡ a * unit + unit = omega arith in
          absurd (omega (arith, more, one, from, to, small))
      by false is =
          let le : u ≤ a = grind (arith, nat_tests, is) in
          let more : u * unit ≤ a * unit = mul-le-mul_right unit le in
          omega (arith, more, from, to)

  -- so nothing is free where no gap has a unit
  no_gaps : (from end a u : ℕ) → from ≡ base + a * unit → end ≡ base + u * unit
      → (rs : List Range) → ArePlaced base unit rs → greatest (gaps from end rs) < unit
      → total (gaps from end rs) ≡ 0
  no_gaps from end a u here there [] placed small =
      let gap = small_gap from end a u here there (omega (arith, small)) in
      omega (arith, gap)
  no_gaps from end a u here there (r ∷ rs) placed small =
      let first = placed.0 in
      let last = placed.1 in
      let gap = small_gap from r.start a first.0 here first.1 (omega (arith, small)) in
      let later = no_gaps (end_of r) end last.0 u last.1 there rs placed.2
      (omega (arith, small)) in
      omega (arith, gap, later)

-- blocks take a unit each
blocks_take : (unit : ℕ) (rs : List Range) → All (λ r. r.size ≡ unit) rs
    → total (map (λ r. r.size) rs) ≡ length rs * unit
blocks_take unit [] all = omega arith
blocks_take unit (r ∷ rs) all =
    let here = All-head (λ (r : Range). r.size ≡ unit) r rs all in
    let later = blocks_take unit rs (All-tail (λ (r : Range). r.size ≡ unit) r rs all) in
    let one : length (r ∷ rs) * unit ≡ unit + length rs * unit = omega arith in
    omega (arith, here, later, one)

-- a fixed pool in which there is no place has no block free
module _ (most : ℕ) (x : Pool) (sound : IsPool most x)
    (blocks : All (λ r. r.size ≡ x.unit) x.ranges) (none : place_for x x.unit ≡ None) where
  pub none_left : (status_of x).free ≡ 0
  none_left =
      let one : x.unit ≡ 1 * x.unit = omega arith in
      let short = free_short most x sound x.unit 1 sound.unit one none in
      let from : x.base ≡ x.base + 0 * x.unit = omega arith in
      let end : x.base + x.size ≡ x.base + sound.units * x.unit = omega (arith, sound.size) in
      let free = no_gaps x.base x.unit x.base (x.base + x.size) 0 sound.units from end x.ranges
      sound.placed short in
      let all = all_counted x.base (x.base + x.size) x.ranges sound.order in
      let out = blocks_take x.unit x.ranges blocks in
      let same : sound.units * x.unit ≡ length x.ranges * x.unit =
      omega (arith, free, all, out, sound.size) in
      let units : units_of x ≡ sound.units =
      ap (λ n. n / x.unit) sound.size ∙ mul-div_cancel sound.units sound.unit in
      let counted : sound.units ≡ length x.ranges =
      sym (mul-div_cancel sound.units sound.unit) ∙ ap (λ n. n / x.unit) same
      ∙ mul-div_cancel (length x.ranges) sound.unit in
      omega (arith, units, counted)

-- what is regular of an object
abbrev pub IsRegular : (kind : Kind) → Live kind → Type 0
IsRegular Semaphore o = ⊤
IsRegular EventFlag o = ⊤
IsRegular Mailbox o = ⊤
IsRegular VariablePool o = variable.IsRegular o
IsRegular FixedPool o = fixed.IsRegular o

-- the test passes, of each kind
pub idle_passes : (kind : Kind) (o : Live kind) → IsRegular kind o
    → IsIdle kind o.state o.waiters → is_idle kind o.state o.waiters ≡ true
idle_passes Semaphore o regular idle = or_number o.waiters o.state.count idle
idle_passes EventFlag o regular idle =
    all_pass (λ w. not (is_met o.state.pattern w.item))
    (λ w. is_met o.state.pattern w.item ≡ false) (λ w not_met. rw not_met refl) o.waiters idle
idle_passes Mailbox o regular idle = or_empty o.waiters o.state.messages idle
idle_passes VariablePool o regular idle = each o.waiters regular.waiters idle
  where
    one : (size : ℕ) → may_be_wanted size o.state ≡ true → place_of o.state size ≡ None
        → nat_lt (greatest_free o.state) size ≡ true
    one size may none =
        let parts = and_parts (nat_le VARIABLE_UNIT size && size % VARIABLE_UNIT == 0)
        (nat_le size o.state.size) may in
        let units_of_it = and_parts (nat_le VARIABLE_UNIT size) (size % VARIABLE_UNIT == 0)
        parts.0 in
        let least : VARIABLE_UNIT ≤ size = grind (arith, nat_tests, units_of_it.0) in
        let some : 0 < size = omega (arith, least) in
        let whole : size % VARIABLE_UNIT ≡ 0 = grind (arith, nat_tests, units_of_it.1) in
        let units : size ≡ size / VARIABLE_UNIT * o.state.unit =
        whole_units size VARIABLE_UNIT whole
        ∙ ap (λ n. size / VARIABLE_UNIT * n) (sym regular.unit) in
        let is : (size == 0) ≡ false = grind (arith, nat_tests, some) in
        let none_for : place_for o.state size ≡ None = sym (rw is refl) ∙ none in
        let short = free_short _ o.state regular.sound size (size / VARIABLE_UNIT) some units
        none_for in
        grind (arith, nat_tests, short)

    each : (xs : List (Queued (Waiter ℕ))) → All (λ w. may_be_wanted w.item.wants o.state ≡ true) xs
        → All (λ w. place_of o.state w.item.wants ≡ None) xs
        → is_idle VariablePool o.state xs ≡ true
    each [] may none = refl
    each (w ∷ ws) may none =
        and_from _ _
        (one w.item.wants
        (All-head (λ (w : Queued (Waiter ℕ)). may_be_wanted w.item.wants o.state ≡ true) w ws may)
        (All-head (λ (w : Queued (Waiter ℕ)). place_of o.state w.item.wants ≡ None) w ws none))
        (each ws
        (All-tail (λ (w : Queued (Waiter ℕ)). may_be_wanted w.item.wants o.state ≡ true) w ws may)
        (All-tail (λ (w : Queued (Waiter ℕ)). place_of o.state w.item.wants ≡ None) w ws none))
idle_passes FixedPool o regular idle = or_number o.waiters (status_of o.state).free (full idle)
  where
    full : (o.waiters ≡ []) ⊎ (place_for o.state o.state.unit ≡ None)
        → (o.waiters ≡ []) ⊎ ((status_of o.state).free ≡ 0)
    full (inl none) = inl none
    full (inr none) = inr (none_left _ o.state regular.sound regular.blocks none)
