-- Items are read as they were spelled.
use Rattle.std.proofs.Common.{◌≡◌, ℕ, ◌+◌, ◌^◌, ◌≤◌, true, false, cond, ltb, Bool, List, [], ◌∷◌, ◌++◌, length, take, drop, Some, None, refl, sym, ap, subst, ◌∙◌, append_assoc, arith}
use Rattle.std.specs.List.{All}
use Rattle.std.proofs.lemmas.Bool.{ltb-true, ltb-false, lt-ltb, le-ltb, and_parts, and_from}
use Rattle.std.proofs.lemmas.Option.{same_Some}
use Rattle.std.proofs.lemmas.List.{drop_at, take-append-drop, length-append, length-drop, drop-drop}
use Rattle.std.proofs.lemmas.List.Elements.{All-drop}
use Rattle.iop_base.specs.Numbers.{IsByte, number_at, bytes_of}
use Rattle.iop_base.proofs.Lists.{bytes_of-number_at, length-bytes_of}
use Rattle.iop_snapshot.specs.Items.{item_size, fits_item, spell_item, numbers_in, read_item}
use Rattle.iop_snapshot.proofs.Bytes.{number_at-bytes_of, number_at-below}

pub length-spell_item : (widths numbers : List ℕ) → fits_item widths numbers ≡ true
    → length (spell_item widths numbers) ≡ item_size widths
unfolding spell_item
length-spell_item [] [] fits = refl
length-spell_item [] (n ∷ ns) fits = absurd cc
length-spell_item (w ∷ ws) [] fits = absurd cc
length-spell_item (w ∷ ws) (n ∷ ns) fits =
    let parts = and_parts (ltb n (256 ^ w)) (fits_item ws ns) fits in
    let rest = length-spell_item ws ns parts.1 in
    omega (arith, length-append (bytes_of w n) (spell_item ws ns), length-bytes_of w n, rest)

numbers_in-spell_item : (widths numbers rest : List ℕ) → fits_item widths numbers ≡ true
    → numbers_in widths (spell_item widths numbers ++ rest) ≡ numbers
unfolding spell_item numbers_in
numbers_in-spell_item [] [] rest fits = refl
numbers_in-spell_item [] (n ∷ ns) rest fits = absurd cc
numbers_in-spell_item (w ∷ ws) [] rest fits = absurd cc
numbers_in-spell_item (w ∷ ws) (n ∷ ns) rest fits =
    let parts = and_parts (ltb n (256 ^ w)) (fits_item ws ns) fits in
    let more = spell_item ws ns ++ rest in
    let first = number_at-bytes_of w n more (ltb-true n (256 ^ w) parts.0) in
    let behind = drop_at (bytes_of w n) more w (length-bytes_of w n) in
    ap (numbers_in (w ∷ ws)) (append_assoc (bytes_of w n) (spell_item ws ns) rest)
    ∙ rw (first, behind, numbers_in-spell_item ws ns rest parts.1) refl

-- what is read has room in its widths
pub fits_item-numbers_in : (widths bytes : List ℕ) → All IsByte bytes
    → fits_item widths (numbers_in widths bytes) ≡ true
unfolding numbers_in
fits_item-numbers_in [] bytes all = refl
fits_item-numbers_in (w ∷ ws) bytes all =
    let rest = drop w bytes in
    and_from (ltb (number_at bytes 0 w) (256 ^ w)) (fits_item ws (numbers_in ws rest))
    (lt-ltb (number_at bytes 0 w) (256 ^ w) (number_at-below bytes 0 w all))
    (fits_item-numbers_in ws rest (All-drop IsByte w bytes all))

spell_item-numbers_in : (widths bytes : List ℕ) → All IsByte bytes
    → item_size widths ≤ length bytes
    → bytes ≡ spell_item widths (numbers_in widths bytes) ++ drop (item_size widths) bytes
unfolding numbers_in spell_item
spell_item-numbers_in [] bytes all room = refl
spell_item-numbers_in (w ∷ ws) bytes all room =
    let rest = drop w bytes in
    let last = drop (w + item_size ws) bytes in
    let spelled = spell_item ws (numbers_in ws rest) in
    let first : bytes_of w (number_at bytes 0 w) ≡ take w bytes =
    bytes_of-number_at bytes w 0 all (omega arith) in
    let more : rest ≡ spelled ++ drop (item_size ws) rest =
    spell_item-numbers_in ws rest (All-drop IsByte w bytes all)
    (omega (arith, length-drop w bytes)) in
    sym (take-append-drop w bytes)
    ∙ ap (λ (l : List ℕ). take w bytes ++ l)
    (more ∙ ap (λ (l : List ℕ). spelled ++ l) (drop-drop (item_size ws) w bytes))
    ∙ sym (append_assoc (take w bytes) spelled last)
    ∙ ap (λ (l : List ℕ). (l ++ spelled) ++ last) (sym first)

-- a test that did not fail
pub past_test : {A : Type 0} (b : Bool) (x y : A) → cond b None (Some x) ≡ Some y
    → (b ≡ false) × (x ≡ y)
past_test true x y e = absurd cc
past_test false x y e = (refl, same_Some x y e)

pub read_item-spell_item : (widths numbers rest : List ℕ) → fits_item widths numbers ≡ true
    → read_item widths (spell_item widths numbers ++ rest) ≡ Some (numbers, rest)
unfolding read_item
read_item-spell_item widths numbers rest fits =
    let spelled = spell_item widths numbers in
    let size = length-spell_item widths numbers fits in
    let room : item_size widths ≤ length (spelled ++ rest) =
    omega (arith, length-append spelled rest) in
    let behind = drop_at spelled rest (item_size widths) size in
    rw (
      le-ltb (length (spelled ++ rest)) (item_size widths) room,
      numbers_in-spell_item widths numbers rest fits,
      behind,
    ) refl

-- what is read of an item
pub record ReadsItem (widths bytes numbers rest : List ℕ) : Type 0 where
  pub parts : bytes ≡ spell_item widths numbers ++ rest
  pub fits : fits_item widths numbers ≡ true

pub reads_item : (widths bytes numbers rest : List ℕ) → All IsByte bytes
    → read_item widths bytes ≡ Some (numbers, rest) → ReadsItem widths bytes numbers rest
unfolding read_item
reads_item widths bytes numbers rest all e =
    let size = item_size widths in
    let is = past_test (ltb (length bytes) size) (numbers_in widths bytes, drop size bytes)
    (numbers, rest) e in
    subst (λ (x : List ℕ × List ℕ). ReadsItem widths bytes x.0 x.1) is.1
    (record {
      parts = spell_item-numbers_in widths bytes all (ltb-false (length bytes) size is.0);
      fits = fits_item-numbers_in widths bytes all;
    })
