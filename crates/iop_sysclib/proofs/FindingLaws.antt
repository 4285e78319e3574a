-- The laws of the calls that find bytes and ends of strings.
use Rattle.std.proofs.Common.{◌≡◌, ℕ, ◌-◌, ◌%◌, cond, nat_lt, ne_eqb, Some, None, List, length, reverse, take, drop, get_or, refl, ap, sym, ◌∙◌, arith}
use Rattle.std.specs.Prelude.{option_map, ◌==◌}
use Rattle.std.specs.List.{position, position_or_len}
use Rattle.std.proofs.lemmas.Bool.{le-ltb}
use Rattle.std.proofs.lemmas.List.{get_or-reverse, length-reverse, length-take-le, length-drop}
use Rattle.std.proofs.lemmas.List.Sums.{position_or_len_is}
use Rattle.iop_printf.specs.Texts.{string_at}
use Rattle.iop_sysclib.specs.Laws.{IsFirst, IsLast, IsNowhere, FirstsOfStringsAreFound, LastsOfStringsAreFound, NoneInRangesIsZero, NoneInStringsIsZero, StringsEndWithRam, StringsOutsideAreEmpty}
use Rattle.iop_sysclib.specs.MemoryCalls.{is_byte, memchr}
use Rattle.iop_sysclib.specs.Outcomes.{address_or_zero}
use Rattle.iop_sysclib.specs.StringCalls.{ended, last_position, strchr, strrchr, strlen}
use Rattle.iop_sysclib.proofs.CallLaws.{position_first}
use Rattle.iop_sysclib.proofs.StringOrder.{before_zero_is}

-- the end is the place of a byte that stands nowhere
nowhere_is : (byte : ℕ) (bytes : List ℕ) → IsNowhere byte bytes
    → position_or_len (λ b. b == byte) bytes ≡ length bytes
nowhere_is byte bytes is =
    position_or_len_is (λ b. b == byte) bytes (length bytes) 0 (omega arith)
    (λ k below. ne_eqb (get_or bytes k 0) byte (is.nowhere k below))
    (λ below. absurd (omega (arith, below)))

position_none : (byte : ℕ) (bytes : List ℕ) → IsNowhere byte bytes
    → position (λ b. b == byte) bytes ≡ None
position_none byte bytes is =
    let past = le-ltb (length bytes) (length bytes) (omega arith) in
    ap (λ k. cond (nat_lt k (length bytes)) (Some k) None) (nowhere_is byte bytes is) ∙ rw past refl

-- the last is the first from the end on
first_from_end : (byte : ℕ) (bytes : List ℕ) (index : ℕ) → IsLast byte bytes index
    → IsFirst byte (reverse bytes) (length bytes - 1 - index)
first_from_end byte bytes index is =
    let inside = is.inside in
    let long = length-reverse bytes in
    let from_end = λ (k : ℕ). length bytes - 1 - k in
    let back : from_end (from_end index) ≡ index = omega arith in
    record {
      inside = omega arith;
      stands = get_or-reverse bytes (from_end index) 0 (omega arith)
          ∙ ap (λ k. get_or bytes k 0) back ∙ is.stands;
      before = λ k below same.
          is.behind (from_end k) (omega (arith, below)) (omega (arith, below))
          (sym (get_or-reverse bytes k 0 (omega (arith, below))) ∙ same);
    }

nowhere_from_end : (byte : ℕ) (bytes : List ℕ) → IsNowhere byte bytes
    → IsNowhere byte (reverse bytes)
nowhere_from_end byte bytes is =
    let long = length-reverse bytes in
    record {
      nowhere = λ k below same.
          is.nowhere (length bytes - 1 - k) (omega (arith, below))
          (sym (get_or-reverse bytes k 0 (omega (arith, below))) ∙ same);
    }

last_is : (byte : ℕ) (bytes : List ℕ) (index : ℕ) → IsLast byte bytes index
    → last_position (λ b. b == byte) bytes ≡ Some index
last_is byte bytes index is =
    let inside = is.inside in
    let back : length bytes - 1 - (length bytes - 1 - index) ≡ index = omega arith in
    ap (option_map (λ i. length bytes - 1 - i))
    (position_first byte (reverse bytes) (length bytes - 1 - index)
    (first_from_end byte bytes index is))
    ∙ ap Some back

last_none : (byte : ℕ) (bytes : List ℕ) → IsNowhere byte bytes
    → last_position (λ b. b == byte) bytes ≡ None
last_none byte bytes is =
    ap (option_map (λ i. length bytes - 1 - i))
    (position_none byte (reverse bytes) (nowhere_from_end byte bytes is))

pub firsts_of_strings_are_found : FirstsOfStringsAreFound
unfolding strchr
firsts_of_strings_are_found ram at wanted index is =
    ap (address_or_zero at) (position_first (wanted % 256) (ended (string_at ram at)) index is)

pub lasts_of_strings_are_found : LastsOfStringsAreFound
unfolding strrchr
lasts_of_strings_are_found ram at wanted index is =
    ap (address_or_zero at) (last_is (wanted % 256) (ended (string_at ram at)) index is)

pub none_in_ranges_is_zero : NoneInRangesIsZero
unfolding memchr
none_in_ranges_is_zero ram at wanted len bytes held is =
    ap (option_map (λ (b : List ℕ). address_or_zero at (position (is_byte wanted) b))) held
    ∙ ap (λ i. Some (address_or_zero at i)) (position_none (wanted % 256) bytes is)

pub none_in_strings_is_zero : NoneInStringsIsZero
unfolding strchr strrchr
none_in_strings_is_zero ram at wanted is =
    let bytes = ended (string_at ram at) in
    record {
      first = ap (address_or_zero at) (position_none (wanted % 256) bytes is);
      last = ap (address_or_zero at) (last_none (wanted % 256) bytes is);
    }

pub strings_end_with_ram : StringsEndWithRam
unfolding strlen string_at
strings_end_with_ram ram at place is nowhere =
    let xs = drop place ram in
    let cut = before_zero_is xs ∙ ap (λ k. take k xs) (nowhere_is 0 xs nowhere) in
    let whole = length-take-le (length xs) xs (omega arith) in
    rw is (ap (λ (t : List ℕ). length t) cut ∙ whole ∙ length-drop place ram)

pub strings_outside_are_empty : StringsOutsideAreEmpty
unfolding strlen string_at
strings_outside_are_empty ram at is = rw is refl
