-- The laws of sysclib's calls.
use Rattle.std.proofs.Common.{◌≡◌, ℕ, ◌%◌, ◌<◌, true, false, cond, nat_lt, ne_eqb, eq-eqb, Some, None, List, [], ◌∷◌, ◌++◌, length, take, drop, get_or, refl, ap, sym, ◌∙◌, arith}
use Rattle.std.specs.Prelude.{option_map, ◌==◌}
use Rattle.std.specs.declared.cmp.Ordering.{Ordering}
use Rattle.std.specs.Cmp.Lexicographic.{slice_cmp}
use Rattle.std.specs.List.{position, position_or_len}
use Rattle.std.specs.Ordering.{nat_cmp, ordering_then}
use Rattle.std.specs.declared.cmp.Ordering.TheVariants.{Less, Equal, Greater}
use Rattle.std.proofs.lemmas.Bool.{lt-ltb, le-ltb}
use Rattle.std.proofs.lemmas.List.{length-take-le}
use Rattle.std.proofs.lemmas.List.Sums.{position_or_len_is}
use Rattle.std.proofs.lemmas.Map.Lookups.{exact_bytes}
use Rattle.iop_printf.specs.Texts.{string_at}
use Rattle.iop_sysclib.specs.Laws.{IsFirst, FirstsAreFound, LengthsAreOfZeros, FirstsDecide, EqualStringsAreZero}
use Rattle.iop_sysclib.specs.MemoryCalls.{is_byte, order_word, compared, memchr}
use Rattle.iop_sysclib.specs.Outcomes.{address_or_zero}
use Rattle.iop_sysclib.specs.StringCalls.{strlen}
use Rattle.iop_sysclib.proofs.StringOrder.{before_zero_is, strcmp_is}

-- the first place, as it is computed
pub first_is : (byte : ℕ) (bytes : List ℕ) (index : ℕ) → IsFirst byte bytes index
    → position_or_len (λ b. b == byte) bytes ≡ index
first_is byte bytes index is =
    let inside = is.inside in
    position_or_len_is (λ b. b == byte) bytes index 0 (omega arith)
    (λ k below. ne_eqb (get_or bytes k 0) byte (is.before k below))
    (λ below. eq-eqb (get_or bytes index 0) byte is.stands)

pub position_first : (byte : ℕ) (bytes : List ℕ) (index : ℕ) → IsFirst byte bytes index
    → position (λ b. b == byte) bytes ≡ Some index
position_first byte bytes index is =
    let place = first_is byte bytes index is in
    let inside = lt-ltb index (length bytes) is.inside in
    ap (λ k. cond (nat_lt k (length bytes)) (Some k) None) place ∙ rw inside refl

pub firsts_are_found : FirstsAreFound
unfolding memchr
firsts_are_found ram at wanted len bytes index held is =
    ap (option_map (λ (b : List ℕ). address_or_zero at (position (is_byte wanted) b))) held
    ∙ ap (λ i. Some (address_or_zero at i)) (position_first (wanted % 256) bytes index is)

pub lengths_are_of_zeros : LengthsAreOfZeros
unfolding strlen string_at
lengths_are_of_zeros ram at place index is first =
    let xs = drop place ram in
    let inside = first.inside in
    let cut = before_zero_is xs ∙ ap (λ k. take k xs) (first_is 0 xs index first) in
    rw is (ap (λ (t : List ℕ). length t) cut ∙ length-take-le index xs (omega arith))

module _ (a b : ℕ) (less : a < b) where
  less_cmp : nat_cmp a b ≡ Less
  less_cmp = let test = lt-ltb a b less in rw test refl

  more_cmp : nat_cmp b a ≡ Greater
  more_cmp =
      let past = le-ltb b a (omega arith) in
      let apart : (b == a) ≡ false = ne_eqb b a (omega arith) in rw (past, apart) refl

same_cmp : (a : ℕ) → nat_cmp a a ≡ Equal
same_cmp a =
    let past = le-ltb a a (omega arith) in
    let same : (a == a) ≡ true = eq-eqb a a refl in rw (past, same) refl

-- a front that both have decides nothing
front_cmp : (front xs ys : List ℕ)
    → slice_cmp nat_cmp (front ++ xs) (front ++ ys) ≡ slice_cmp nat_cmp xs ys
front_cmp [] xs ys = refl
front_cmp (x ∷ front) xs ys =
    ap (λ o. ordering_then o (slice_cmp nat_cmp (front ++ xs) (front ++ ys))) (same_cmp x)
    ∙ front_cmp front xs ys

pub firsts_decide : FirstsDecide
firsts_decide front a b rest others less = record {
  less_is = ap order_word (front_cmp front (a ∷ rest) (b ∷ others)
      ∙ ap (λ o. ordering_then o (slice_cmp nat_cmp rest others)) (less_cmp a b less));
  more_is = ap order_word (front_cmp front (b ∷ others) (a ∷ rest)
      ∙ ap (λ o. ordering_then o (slice_cmp nat_cmp others rest)) (more_cmp a b less));
}

pub equal_cmp : (xs : List ℕ) → slice_cmp nat_cmp xs xs ≡ Equal
equal_cmp [] = refl
equal_cmp (x ∷ xs) =
    ap (λ o. ordering_then o (slice_cmp nat_cmp xs xs)) (same_cmp x) ∙ equal_cmp xs

zero_order : (o : Ordering) → order_word o ≡ 0 → o ≡ Equal
zero_order Less is = absurd (omega (arith, is))
zero_order Equal is = refl
zero_order Greater is = absurd (omega (arith, is))

pub compared_zero : (xs ys : List ℕ) → compared xs ys ≡ 0 → xs ≡ ys
compared_zero xs ys is = exact_bytes xs ys (zero_order (slice_cmp nat_cmp xs ys) is)

pub equal_strings_are_zero : EqualStringsAreZero
equal_strings_are_zero ram a b = (
  (λ is. compared_zero (string_at ram a) (string_at ram b) (strcmp_is ram a b ∙ is)),
  (λ same. sym (strcmp_is ram a b)
      ∙ ap (λ (t : List ℕ). compared t (string_at ram b)) same
      ∙ ap order_word (equal_cmp (string_at ram b))),
)
