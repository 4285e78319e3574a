-- The next thread whose size fits: there is room for it exactly where there is a place.
use Rattle.std.proofs.Common.{◌≡◌, ℕ, zero, suc, ◌+◌, ◌-◌, ◌*◌, ◌/◌, ◌%◌, ◌<◌, ◌≤◌, ◌∙◌, Bool, true, false, not, nat_le, nat_lt, min, max, Option, Some, None, is_some, option_map, unwrap_or, List, [], ◌∷◌, refl, ap, sym, subst, arith, mul-pos, mul-div_cancel, le-div_iff_mul-le, div-add-mod', mod-lt}
use Rattle.std.specs.Prelude.{◌==◌, ◌&&◌, if◌then◌else◌}
use Rattle.std.specs.Int.{div_ceil}
use Rattle.std.proofs.lemmas.Bool.{leb-true, leb-false, le-leb}
use Rattle.std.proofs.lemmas.Bool.Decides.{nat_tests}
use mathlib.Core.Path.{fun_ext}
use Rattle.iop_objects.specs.Objects.{Objects, state_of, waiters_of, takes, takes_next_where}
use Rattle.iop_objects.specs.declared.waiter.Waiter.{Waiter}
use Rattle.iop_queues.specs.Queue.{Choice, chooses_best_where, chooses_between, chooses_behind, chooses_next_where}
use Rattle.iop_queues.specs.declared.queued.Queued.{Queued}
use Rattle.iop_queues.proofs.Choosing.{first_where}
use Rattle.iop_pools.specs.Pools.{Pool, place_for, length_for, by_priority, is_by_priority, greatest_free, room_of, takes_place}
use Rattle.iop_pools.specs.Ranges.{end_of, gaps, greatest, first_free}
use Rattle.iop_pools.specs.Standing.{AreInOrder, IsPool}
use Rattle.iop_pools.specs.VariablePools.{VariablePools, fits, answered, meets_by, meets_it, meets_next}
use Rattle.iop_pools.specs.Walks.{first_gap}
use Rattle.iop_pools.specs.declared.met.Met.{Met}
use Rattle.iop_pools.specs.declared.range.Range.{Range}
use Rattle.iop_pools.proofs.Places.{first_free-is}
use Rattle.iop_pools.proofs.Taking.{ceil_some}

not_le : (a b : ℕ) → b < a → nat_le a b ≡ false
not_le a b less = grind (arith, nat_tests, less)

-- two bounds that hold at once
le_same : (n a m b : ℕ) → (n ≤ a → m ≤ b) → (m ≤ b → n ≤ a) → nat_le n a ≡ nat_le m b
le_same n a m b to from = by (nat_le n a) (nat_le m b) refl refl
  where
    by : (c d : Bool) → nat_le n a ≡ c → nat_le m b ≡ d → nat_le n a ≡ nat_le m b
    by true d is other = is ∙ sym (le-leb m b (to (leb-true n a is)))
    by false true is other =
        let less = leb-false n a is in
        let le = from (leb-true m b other) in absurd (omega (arith, less, le))
    by false false is other = is ∙ sym other

-- there is a gap exactly where the greatest has so many bytes
gap_is : (from end len : ℕ) (rs : List Range)
    → is_some (first_gap from end len rs) ≡ nat_le len (greatest (gaps from end rs))
gap_is from end len [] = by (nat_le len (end - from)) refl
  where
    by : (b : Bool) → nat_le len (end - from) ≡ b
        → is_some (if b then Some from else None) ≡ nat_le len (max (end - from) 0)
    by true is = sym (le-leb len (max (end - from) 0) (omega (arith, leb-true _ _ is)))
    by false is =
        let less = leb-false len (end - from) is in
        sym (not_le len (max (end - from) 0) (omega (arith, less)))
gap_is from end len (r ∷ rs) = by (nat_le len (r.start - from)) refl (gap_is (end_of r) end len rs)
  where
    by : (b : Bool) → nat_le len (r.start - from) ≡ b
        → is_some (first_gap (end_of r) end len rs)
        ≡ nat_le len (greatest (gaps (end_of r) end rs))
        → is_some (if b then Some from else first_gap (end_of r) end len rs)
        ≡ nat_le len (max (r.start - from) (greatest (gaps (end_of r) end rs)))
    by true is later =
        sym (le-leb len (max (r.start - from) (greatest (gaps (end_of r) end rs)))
        (omega (arith, leb-true _ _ is)))
    by false is later =
        let less = leb-false len (r.start - from) is in
        later
        ∙ le_same len (greatest (gaps (end_of r) end rs)) len
        (max (r.start - from) (greatest (gaps (end_of r) end rs)))
        (λ le. omega (arith, le)) (λ le. omega (arith, le, less))

-- a size is within so many whole units exactly where it is so rounded up
module _ (size unit most : ℕ) (some : 0 < unit) where
  whole : size / unit * unit + size % unit ≡ size
  whole = div-add-mod' size unit

  below : most / unit * unit + most % unit ≡ most
  below = div-add-mod' most unit

  by_products : (a b : ℕ) → a * unit < b * unit → a < b
  by_products a b less = grind (arith, less, some)

  longer : (a b : ℕ) → a ≤ b → a * unit ≤ b * unit
  longer a b le = grind (arith, le)

  up : (r : ℕ) → size % unit ≡ r → size ≤ most / unit * unit
      → (size / unit + min 1 r) * unit ≤ most
  up zero is le =
      let same : (size / unit + min 1 zero) * unit ≡ size / unit * unit = omega arith in
      omega (arith, same, whole, below, is, le)
  up (suc r) is le =
      let less : size / unit * unit < most / unit * unit = omega (arith, whole, is, le) in
      let fewer : size / unit < most / unit = by_products (size / unit) (most / unit) less in
      let more : size / unit + min 1 (suc r) ≤ most / unit = omega (arith, fewer) in
      let long = longer (size / unit + min 1 (suc r)) (most / unit) more in
      omega (arith, long, below)

  plus_one : (q : ℕ) → (q + 1) * unit ≡ q * unit + unit
  plus_one q = omega arith

  down : (r : ℕ) → size % unit ≡ r → (size / unit + min 1 r) * unit ≤ most
      → size ≤ most / unit * unit
  down r is le =
      let units : size / unit + min 1 r ≤ most / unit = (le-div_iff_mul-le some).1 le in
      let long = longer (size / unit + min 1 r) (most / unit) units in
      let less : size % unit < unit = mod-lt size some in
      reach r is long less whole
    where
      reach : (r : ℕ) → size % unit ≡ r
          → (size / unit + min 1 r) * unit ≤ most / unit * unit → size % unit < unit
          → size / unit * unit + size % unit ≡ size → size ≤ most / unit * unit
      reach zero is long less all =
          let same : (size / unit + min 1 zero) * unit ≡ size / unit * unit = omega arith in
          omega (arith, is, long, all, same)
      reach (suc r) is long less all =
          let one : min 1 (suc r) ≡ 1 = omega arith in
          let one_more : (size / unit + min 1 (suc r)) * unit ≡ size / unit * unit + unit =
          ap (λ n. (size / unit + n) * unit) one ∙ plus_one (size / unit) in
          omega (arith, one_more, long, all, less)

  rounded_le : nat_le size (most / unit * unit) ≡ nat_le (div_ceil size unit * unit) most
  rounded_le =
      le_same size (most / unit * unit) (div_ceil size unit * unit) most
      (up (size % unit) refl) (down (size % unit) refl)

module _ (most : ℕ) (x : Pool) (sound : IsPool most x) where
  -- the least place is the first gap
  pub place_gap : (size : ℕ) → 0 < size → place_for x size
      ≡ first_gap x.base (x.base + x.size) (length_for x size) x.ranges
  place_gap size some =
      let len = length_for x size in
      let units : x.size / x.unit ≡ sound.units =
      ap (λ n. n / x.unit) sound.size ∙ mul-div_cancel sound.units sound.unit in
      let end_is : x.base + x.size ≡ x.base + sound.units * x.unit = omega (arith, sound.size) in
      let long : 0 < len = mul-pos (ceil_some size x.unit some) sound.unit in
      ap (λ n. first_free x.base x.unit n len x.ranges) units
      ∙ first_free-is x.base x.unit sound.units len sound.unit long x.ranges
      (subst (λ n. AreInOrder x.base n x.ranges) end_is sound.order) sound.placed
      ∙ ap (λ n. first_gap x.base n len x.ranges) (sym end_is)

  fits_by : (size : ℕ) (none : Bool) → (size == 0) ≡ none
      → (not none && nat_le size (room_of x))
      ≡ is_some (if none then None else place_for x size)
  fits_by size true is = refl
  fits_by size false is =
      let some : 0 < size = grind (arith, nat_tests, is) in
      rounded_le size x.unit (greatest_free x) sound.unit
      ∙ sym (gap_is x.base (x.base + x.size) (length_for x size) x.ranges)
      ∙ ap is_some (sym (place_gap size some))

  -- there is room exactly where it fits
  pub room_is : (λ (w : Waiter ℕ). not (w.wants == 0) && nat_le w.wants (room_of x)) ≡ fits x
  room_is = fun_ext (λ w. fits_by w.wants (w.wants == 0) refl)

-- of what is chosen the condition holds
module _ {T : Type 0} (p : T → Bool) where
  best_holds : (queue : List (Queued T)) (c : Choice T) → chooses_best_where p queue ≡ Some c
      → p c.one.item ≡ true
  best_holds [] c e = cc
  best_holds (x ∷ xs) c e =
      by (p x.item) refl (chooses_best_where p xs) (best_holds xs) e
    where
      first : {a b : Choice T} → Some a ≡ Some b → p a.one.item ≡ true → p b.one.item ≡ true
      first {a} {b} e h = let same : a ≡ b = cc in subst (λ (c : Choice T). p c.one.item ≡ true)
          same h

      choice : Bool → Choice T → Choice T
      choice true d = record { one = d.one; others = x ∷ d.others }
      choice false d = record { one = x; others = xs }

      same_choice : (b : Bool) (d : Choice T)
          → (if b then record { one = d.one; others = x ∷ d.others }
          else record { one = x; others = xs }) ≡ choice b d
      same_choice true d = refl
      same_choice false d = refl

      between : (b : Bool) (d : Choice T) → p x.item ≡ true → p d.one.item ≡ true
          → p (choice b d).one.item ≡ true
      between true d here there = there
      between false d here there = here

      by : (b : Bool) → p x.item ≡ b → (later : Option (Choice T))
          → ((d : Choice T) → later ≡ Some d → p d.one.item ≡ true)
          → (if b then Some (chooses_between x xs later) else chooses_behind x later) ≡ Some c
          → p c.one.item ≡ true
      by true here None rest e = first e here
      by true here (Some d) rest e =
          first (sym (ap Some (same_choice (nat_lt d.one.priority x.priority) d)) ∙ e)
          (between (nat_lt d.one.priority x.priority) d here (rest d refl))
      by false here None rest e = cc
      by false here (Some d) rest e = first e (rest d refl)

  pub next_holds : (b : Bool) (queue : List (Queued T)) (c : Choice T)
      → chooses_next_where b p queue ≡ Some c → p c.one.item ≡ true
  next_holds true queue c e = best_holds queue c e
  next_holds false queue c e = (first_where p queue c e).holds

module _ {A W : Type 0} (s : Objects A W) (id : ℕ) where
  taken_holds : (p : Waiter W → Bool) (c : Option (Choice (Waiter W)))
      → ((d : Choice (Waiter W)) → c ≡ Some d → p d.one.item ≡ true)
      → (w : Waiter W) → Some w ≡ (takes s id c).0 → p w ≡ true
  taken_holds p None holds w e = cc
  taken_holds p (Some d) holds w e =
      let same : d.one.item ≡ w = cc in subst (λ v. p v ≡ true) same (holds d refl)

  taken_none : (c : Option (Choice (Waiter W))) → None ≡ (takes s id c).0 → (takes s id c).1 ≡ s
  taken_none None e = refl
  taken_none (Some d) e = cc

-- a pool of which the room is known is live
pub is_found : (o : Option Pool) (room : ℕ) → Some room ≡ option_map room_of o
    → (x : Pool) × (o ≡ Some x)
is_found None room is = cc
is_found (Some x) room is = (x, refl)

none_found : (o : Option Pool) → None ≡ option_map room_of o → o ≡ None
none_found None is = refl
none_found (Some x) is = cc

module _ (s : VariablePools) (id : ℕ) where
  pub meets_unknown : None ≡ option_map room_of (state_of s id) → meets_next s id ≡ (None, s)
  meets_unknown none = ap (meets_it s id) (none_found (state_of s id) none)

  module _ (most room : ℕ) (known : Some room ≡ option_map room_of (state_of s id))
      (sound : (x : Pool) → state_of s id ≡ Some x → IsPool most x) where
    abbrev test : Waiter ℕ → Bool
    test w = not (w.wants == 0) && nat_le w.wants room

    abbrev taken : Option (Waiter ℕ) × VariablePools
    taken = takes_next_where s id (is_by_priority s id) test

    some_is : (a b : ℕ) → Some a ≡ Some b → a ≡ b
    some_is a b e = cc

    meets_is : meets_next s id ≡ meets_by s id taken
    meets_is =
        let x = (is_found (state_of s id) room known).0 in
        let live = (is_found (state_of s id) room known).1 in
        let room_same : room ≡ room_of x =
        some_is room (room_of x) (known ∙ ap (option_map room_of) live) in
        let test_same : test ≡ fits x =
        ap (λ n. λ (w : Waiter ℕ). not (w.wants == 0) && nat_le w.wants n) room_same
        ∙ room_is most x (sound x live) in
        let order_same : is_by_priority s id ≡ by_priority x =
        ap (λ o. unwrap_or (option_map by_priority o) false) live in
        ap (meets_it s id) live
        ∙ ap (λ b. meets_by s id (takes_next_where s id b (fits x))) (sym order_same)
        ∙ ap (λ p. meets_by s id (takes_next_where s id (is_by_priority s id) p))
        (sym test_same)

    pub meets_none : None ≡ taken.0 → meets_next s id ≡ (None, s)
    meets_none none = meets_is ∙ ap (λ o. meets_by s id (o, taken.1)) (sym none)

    pub left_none : None ≡ taken.0 → taken.1 ≡ s
    left_none none =
        taken_none s id (chooses_next_where (is_by_priority s id) test (waiters_of s id)) none

    module _ (w : Waiter ℕ) (one : Some w ≡ taken.0) where
      pub wants_some : 0 < w.wants
      wants_some = by (w.wants == 0) refl
          (taken_holds s id test
          (chooses_next_where (is_by_priority s id) test (waiters_of s id))
          (next_holds test (is_by_priority s id) (waiters_of s id)) w one)
        where
          by : (b : Bool) → (w.wants == 0) ≡ b → (not b && nat_le w.wants room) ≡ true
              → 0 < w.wants
          by true is e = cc
          by false is e = grind (arith, nat_tests, is)

      module _ (left : VariablePools) (left_is : left ≡ taken.1) where
        meets_one : meets_next s id ≡ answered w (takes_place left id w.wants)
        meets_one =
            meets_is ∙ ap (λ o. meets_by s id (o, taken.1)) (sym one)
            ∙ ap (λ (l : VariablePools). answered w (takes_place l id w.wants)) (sym left_is)

        abbrev outcome : Option ℕ → Option Met × VariablePools
        outcome o = answered w (o, (takes_place left id w.wants).1)

        meets_with : (o : Option ℕ) → o ≡ (takes_place left id w.wants).0
            → meets_next s id ≡ outcome o
        meets_with o is = meets_one ∙ ap outcome (sym is)

        pub met_answer : (block : ℕ) → Some block ≡ (takes_place left id w.wants).0
            → Some (record { thread = w.thread; block = block }) ≡ (meets_next s id).0
        met_answer block is = sym (ap (λ t. t.0) (meets_with (Some block) is))

        pub met_left : (block : ℕ) → Some block ≡ (takes_place left id w.wants).0
            → (takes_place left id w.wants).1 ≡ (meets_next s id).1
        met_left block is = sym (ap (λ t. t.1) (meets_with (Some block) is))

        pub unmet_answer : None ≡ (takes_place left id w.wants).0 → None ≡ (meets_next s id).0
        unmet_answer is = sym (ap (λ t. t.0) (meets_with None is))

        pub unmet_left : None ≡ (takes_place left id w.wants).0
            → (takes_place left id w.wants).1 ≡ (meets_next s id).1
        unmet_left is = sym (ap (λ t. t.1) (meets_with None is))
