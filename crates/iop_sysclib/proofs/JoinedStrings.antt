-- A string that was written behind another.
use Rattle.std.proofs.Common.{◌≡◌, ℕ, ◌+◌, ◌≤◌, not, true, false, Option, Some, None, List, [], ◌∷◌, ◌++◌, length, take, drop, append_assoc, length-append, refl, ap, sym, ◌∙◌, arith, ne_eqb, ⊎_elim}
use Rattle.std.specs.Prelude.{◌==◌, ◌&&◌}
use Rattle.std.specs.List.{position_or_len}
use Rattle.std.proofs.lemmas.List.{length-take, length-drop, take-append-drop, drop-drop}
use Rattle.std.proofs.lemmas.List.Folds.{list_all-append}
use Rattle.iop_base.specs.Numbers.{with_bytes}
use Rattle.iop_base.specs.Places.{phys, range_at, IsRamSize}
use Rattle.iop_base.specs.Strings.{before_zero}
use Rattle.iop_base.proofs.Lists.{bytes_inside, bytes_before}
use Rattle.iop_base.proofs.Memory.{length-with_bytes}
use Rattle.iop_printf.specs.Texts.{string_at}
use Rattle.iop_stubs.specs.Stubs.{Memory, after_store, range_place}
use Rattle.iop_sysclib.specs.Outcomes.{Outcome, Write, is_open, after_write}
use Rattle.iop_sysclib.specs.StringCalls.{ended, strcat}
use Rattle.iop_sysclib.specs.WritingLaws.{ram_after, StringsAreJoined}
use Rattle.iop_sysclib.proofs.RangePlaces.{HasPlace, has_place, stands}
use Rattle.iop_sysclib.proofs.ReadStrings.{before_zero-text}
use Rattle.iop_sysclib.proofs.StringOrder.{has_no_zero, before_zero_is, string_has_no_zero}
use Rattle.iop_sysclib.proofs.StringRanges.{front_is}
use Rattle.iop_sysclib.proofs.Writings.{Writes, writes_is}

both_none : (first second : List ℕ) → has_no_zero first ≡ true → has_no_zero second ≡ true
    → has_no_zero (first ++ second) ≡ true
both_none first second first_none second_none =
    list_all-append (λ b. not (b == 0)) first second
    ∙ ap (λ b. b && has_no_zero second) first_none ∙ second_none

-- what is read from a place on, where a text stands, and other bytes are written behind it
module _ (ram : List ℕ) (p : ℕ) (first second : List ℕ)
    (inside : p + length first + length (ended second) ≤ length ram)
    (stands_there : take (length first) (drop p ram) ≡ first) where
  abbrev stored : List ℕ
  stored = with_bytes ram (p + length first) (ended second)

  pub joined : has_no_zero first ≡ true → has_no_zero second ≡ true
      → before_zero (drop p stored) ≡ first ++ second
  joined first_none second_none =
      let k = length first in
      let len = length (ended second) in
      let front = bytes_before ram (p + k) (ended second) inside p k (omega arith) ∙ stands_there in
      let written = bytes_inside ram (p + k) (ended second) inside in
      let rest = drop len (drop (p + k) stored) in
      let split : drop p stored ≡ first ++ (ended second ++ rest) =
      sym (take-append-drop k (drop p stored))
      ∙ ap (λ (t : List ℕ). t ++ drop k (drop p stored)) front
      ∙ ap (λ (t : List ℕ). first ++ t)
      (drop-drop k p stored ∙ sym (take-append-drop len (drop (p + k) stored))
      ∙ ap (λ (t : List ℕ). t ++ rest) written) in
      ap before_zero
      (split ∙ ap (λ (t : List ℕ). first ++ t) (append_assoc second (0 ∷ []) rest)
      ∙ sym (append_assoc first second (0 ∷ rest)))
      ∙ before_zero-text (first ++ second) rest (both_none first second first_none second_none)

-- the place of a range that begins at the end of a string
module _ (ram : List ℕ) (sized : IsRamSize (length ram)) (to len q : ℕ)
    (is : range_at (length ram) (to + length (string_at ram to)) len ≡ Some q) where
  behind : HasPlace (length ram) (to + length (string_at ram to)) len q
  behind = has_place (length ram) (to + length (string_at ram to)) len q is

  -- outside RAM there is no string, and so no such range
  no_string : phys (length ram) to ≡ None → length (string_at ram to) ≡ 0
  unfolding string_at
  no_string none = rw none refl

  some_string : phys (length ram) to ≡ None → phys (length ram) to ≡ Some q
  some_string none =
      let same : to + length (string_at ram to) ≡ to = omega (arith, no_string none) in
      sym (ap (phys (length ram)) same) ∙ behind.place

  module _ (p : ℕ) (place : phys (length ram) to ≡ Some p) where
    string_is : string_at ram to ≡ before_zero (drop p ram)
    unfolding string_at
    string_is = rw place refl

    front_stands : take (length (string_at ram to)) (drop p ram) ≡ string_at ram to
    front_stands =
        let xs = drop p ram in
        let cut = string_is ∙ before_zero_is xs in
        ap (λ (t : List ℕ). take (length t) xs) cut
        ∙ front_is (position_or_len (λ b. b == 0) xs) xs ∙ sym cut

    place_is : q ≡ p + length (string_at ram to)
    place_is =
        let xs = drop p ram in
        let first = stands (length ram) to p place in
        let second = stands (length ram) (to + length (string_at ram to)) q behind.place in
        let below = first.below in
        let first_is = first.place in
        let second_is = second.place in
        let short = ap (λ (t : List ℕ). length t) (string_is ∙ before_zero_is xs) in
        let cut = length-take (position_or_len (λ b. b == 0) xs) xs in
        let long = length-drop p ram in
        ⊎_elim
        (λ two. omega (arith, two, below, first_is, second_is, short, cut, long))
        (λ eight. omega (arith, eight, below, first_is, second_is, short, cut, long))
        sized

module _ (memory : Memory) (to from : ℕ) (sized : IsRamSize (length memory.ram)) where
  abbrev first : List ℕ
  first = string_at memory.ram to

  abbrev second : List ℕ
  second = string_at memory.ram from

  abbrev at : ℕ
  at = to + length first

  module _ (q : ℕ) (is : range_place memory at (length (ended second)) ≡ Some q) where
    join_at : (p : ℕ) → phys (length memory.ram) to ≡ Some p
        → string_at (with_bytes memory.ram q (ended second)) to ≡ first ++ second
    unfolding string_at
    join_at p place =
        let ram = memory.ram in
        let len = length (ended second) in
        let q_is = place_is ram sized to len q is p place in
        let most = (behind ram sized to len q is).inside in
        let inside : p + length first + len ≤ length ram = omega (arith, most, q_is) in
        let size = length-with_bytes ram (p + length first) (ended second) inside in
        let there : phys (length (with_bytes ram (p + length first) (ended second))) to ≡ Some p =
        ap (λ n. phys n to) size ∙ place in
        rw (q_is, there)
        (joined ram p first second inside (front_stands ram sized to len q is p place)
        (string_has_no_zero ram to) (string_has_no_zero ram from))

    join_by : (place : Option ℕ) → phys (length memory.ram) to ≡ place
        → string_at (with_bytes memory.ram q (ended second)) to ≡ first ++ second
    join_by None none =
        let some = some_string memory.ram sized to (length (ended second)) q is none in
        absurd (cc (some, none))
    join_by (Some p) place = join_at p place

  stored_by : (place : Option ℕ) → range_place memory at (length (ended second)) ≡ place
      → is_open memory.ram at (length (ended second)) ≡ true
      → string_at (after_store memory place (ended second)).ram to ≡ first ++ second
  stored_by None is open_is =
      let some = ne_eqb (length (ended second)) 0 (omega (arith, length-append second (0 ∷ []))) in
      let shut : is_open memory.ram at (length (ended second)) ≡ false = rw (some, is) refl in
      absurd (cc (open_is, shut))
  stored_by (Some q) is open_is = join_by q is (phys (length memory.ram) to) refl

  pub joined_string : (outcome : Outcome) → Writes memory.ram at (ended second) outcome
      → string_at (ram_after memory outcome) to ≡ first ++ second
  joined_string outcome is =
      ap (λ (w : Option Write). string_at (after_write memory w).ram to) is.write_is
      ∙ stored_by (range_place memory at (length (ended second))) refl is.open_is

pub strings_are_joined : StringsAreJoined
unfolding strcat
strings_are_joined memory to from outcome sized is =
    joined_string memory to from sized outcome
    (writes_is memory.ram (to + length (string_at memory.ram to))
    (ended (string_at memory.ram from)) to outcome is)
