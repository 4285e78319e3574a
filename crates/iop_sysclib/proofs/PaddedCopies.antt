-- Copies with zeros behind them: one store.
use Rattle.std.proofs.Common.{◌≡◌, ◌≢◌, ℕ, ◌+◌, Bool, true, false, Option, Some, None, Ok, Err, List, ◌++◌, length, replicate, refl, ap, sym, ◌∙◌, subst, eqb-true, ne_eqb}
use Rattle.std.specs.Prelude.{is_some, ◌==◌}
use Rattle.std.proofs.lemmas.List.{length-append, length-replicate, nil_from_length}
use Rattle.iop_base.specs.Numbers.{wrapped}
use Rattle.iop_base.specs.Output.{Output, Gives}
use Rattle.iop_base.specs.Piece.{Piece}
use Rattle.iop_base.specs.declared.guest_fault.GuestFault.TheVariants.{Address}
use Rattle.iop_base.proofs.Giving.{gives_none}
use Rattle.iop_stubs.specs.Binding.{IsSound}
use Rattle.iop_stubs.specs.Copying.{copy_place, copied_bytes}
use Rattle.iop_stubs.specs.Stubs.{Memory, after_store, store_lines, range_place}
use Rattle.iop_sysclib.specs.Outcomes.{writes, is_open, IsServed}
use Rattle.iop_sysclib.proofs.Copies.{bytes_length, place_is, bytes_are, no_place}
use Rattle.iop_sysclib.proofs.PaddedStores.{front_place, served_padded}
use Rattle.iop_sysclib.proofs.ServedCalls.{after_store-none, store_lines-none, served_nothing, served_fault, served_as, writes_shut}

module _ (old : Memory) (to from len zeros : ℕ) (source : is_open old.ram from len ≡ true) where
  abbrev text : List ℕ
  text = copied_bytes old from len

  length_by : (empty : Bool) (found : Option ℕ) → (len == 0) ≡ empty
      → range_place old from len ≡ found → length text ≡ len
  length_by true None none is = let none_is = eqb-true len 0 none in rw is (sym none_is)
  length_by true (Some q) none is = let none_is = eqb-true len 0 none in rw (is, none_is) refl
  length_by false None some is =
      let shut : is_open old.ram from len ≡ false = rw (some, is) refl in absurd (cc (source, shut))
  length_by false (Some q) some is =
      ap length (bytes_are old to from len q some is) ∙ bytes_length old to from len q some is

  pub text_length : length text ≡ len
  text_length = length_by (len == 0) (range_place old from len) refl refl

  -- what is stored, with the zeros
  abbrev whole : List ℕ
  whole = text ++ replicate zeros 0

  whole_length : length whole ≡ len + zeros
  whole_length =
      length-append text (replicate zeros 0)
      ∙ ap (λ n. length text + n) (length-replicate zeros 0)
      ∙ ap (λ n. n + zeros) text_length

  pub served_none : (word t : ℕ) (seen : Output) → len + zeros ≡ 0
      → IsServed (writes old.ram to whole word) t (Ok word) old old seen seen
  served_none word t seen none =
      served_nothing old old to whole word t seen seen (whole_length ∙ none) refl (gives_none seen)

  pub served_outside : (word t : ℕ) (seen : Output) → len + zeros ≢ 0
      → is_some (range_place old to (len + zeros)) ≡ false
      → IsServed (writes old.ram to whole word) t (Err Address) old old seen seen
  served_outside word t seen some outside =
      let test = ne_eqb (len + zeros) 0 some in
      let shut : is_open old.ram to (len + zeros) ≡ false = rw (test, outside) refl in
      served_as (writes_shut old to (len + zeros) whole word t whole_length shut)
      (served_fault t old old seen seen refl (gives_none seen))

  -- the place where the copy is stored
  module _ (p : ℕ) (is : range_place old to len ≡ Some p) where
    stored_by : (empty : Bool) (found : Option ℕ) → (len == 0) ≡ empty
        → range_place old from len ≡ found
        → after_store old (copy_place old to from len) text ≡ after_store old (Some p) text
    stored_by true found none found_is =
        let nil = nil_from_length text (text_length ∙ eqb-true len 0 none) in
        ap (λ q. after_store old q text) (no_place old to from len none)
        ∙ sym (ap (after_store old (Some p)) nil ∙ after_store-none old (Some p))
    stored_by false None some found_is =
        let shut : is_open old.ram from len ≡ false = rw (some, found_is) refl in
        absurd (cc (source, shut))
    stored_by false (Some q) some found_is =
        ap (λ q. after_store old q text) (place_is old to from len q some found_is ∙ is)

    told_by : (t : ℕ) (empty : Bool) (found : Option ℕ) → (len == 0) ≡ empty
        → range_place old from len ≡ found
        → store_lines t old (copy_place old to from len) len ≡ store_lines t old (Some p) len
    told_by t true found none found_is =
        let none_is = eqb-true len 0 none in
        ap (λ q. store_lines t old q len) (no_place old to from len none)
        ∙ sym (ap (store_lines t old (Some p)) none_is ∙ store_lines-none t old (Some p))
    told_by t false None some found_is =
        let shut : is_open old.ram from len ≡ false = rw (some, found_is) refl in
        absurd (cc (source, shut))
    told_by t false (Some q) some found_is =
        ap (λ q. store_lines t old q len) (place_is old to from len q some found_is ∙ is)

  module _ (sound : IsSound old) (t word : ℕ) (before middle after : Output) (first last : Memory)
      (first_is : first ≡ after_store old (copy_place old to from len) text)
      (first_lines : Gives before middle (store_lines t old (copy_place old to from len) len))
      (last_is : last
      ≡ after_store first (range_place first (wrapped (to + len)) zeros) (replicate zeros 0))
      (last_lines : Gives middle after
      (store_lines t first (range_place first (wrapped (to + len)) zeros) zeros)) where
    served_at : (p : ℕ) → range_place old to (len + zeros) ≡ Some p
        → IsServed (writes old.ram to whole word) t (Ok word) old last before after
    served_at p is =
        let whole_is : range_place old to (length text + zeros) ≡ Some p =
        ap (λ n. range_place old to (n + zeros)) text_length ∙ is in
        let front : range_place old to len ≡ Some p =
        ap (range_place old to) (sym text_length)
        ∙ front_place old sound to zeros p text whole_is in
        let begun : first ≡ after_store old (Some p) text =
        first_is ∙ stored_by p front (len == 0) (range_place old from len) refl refl in
        let told : Gives before middle (store_lines t old (Some p) (length text)) =
        subst (λ (pieces : List Piece). Gives before middle pieces)
        (told_by p front t (len == 0) (range_place old from len) refl refl
        ∙ ap (store_lines t old (Some p)) (sym text_length)) first_lines in
        let behind = λ (m : Memory) (n : ℕ). range_place m (wrapped (to + n)) zeros in
        let stored = subst (λ (m : Memory). last ≡ after_store m (behind m len) (replicate zeros 0))
        begun last_is in
        let lines = subst (λ (m : Memory). Gives middle after (store_lines t m (behind m len) zeros))
        begun last_lines in
        let m = after_store old (Some p) text in
        served_padded old sound to zeros p text whole_is t before middle after last
        (subst (λ n. last ≡ after_store m (behind m n) (replicate zeros 0)) (sym text_length) stored)
        told
        (subst (λ n. Gives middle after (store_lines t m (behind m n) zeros)) (sym text_length) lines)
        word

    inside_by : (place : Option ℕ) → range_place old to (len + zeros) ≡ place
        → is_some place ≡ true
        → IsServed (writes old.ram to whole word) t (Ok word) old last before after
    inside_by None is some = absurd (cc some)
    inside_by (Some p) is some = served_at p is

    pub served_inside : is_some (range_place old to (len + zeros)) ≡ true
        → IsServed (writes old.ram to whole word) t (Ok word) old last before after
    served_inside some = inside_by (range_place old to (len + zeros)) refl some
