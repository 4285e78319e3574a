-- Which bytes stand where in what is spelled, and lists without a count.
use Rattle.std.proofs.Common.{◌≡◌, ℕ, zero, suc, ◌+◌, ◌/◌, ◌%◌, ◌^◌, ◌<◌, true, ltb, eqb, List, [], ◌∷◌, ◌++◌, length, get_or, refl, sym, ap, ◌∙◌, append_assoc, append-nil, arith}
use Rattle.std.proofs.Math.Nat.{pow-suc, div-div-eq-div-mul}
use Rattle.std.specs.List.{list_all, flat_map}
use Rattle.std.proofs.lemmas.Bool.{and_parts, and_from, eqb-true, eq-eqb}
use Rattle.std.proofs.lemmas.List.{get_or-append-add, get_or_append_left}
use Rattle.iop_base.specs.Numbers.{bytes_of}
use Rattle.iop_base.proofs.Lists.{length-bytes_of}
use Rattle.iop_snapshot.specs.Items.{item_size, fits_item, spell_item}
use Rattle.iop_snapshot.specs.Forms.{Form, IsLawful, IsSeries, read_items, spell_list, repeated}
use Rattle.iop_snapshot.specs.Layout.{ItemsAreLaid}
use Rattle.iop_snapshot.proofs.Spelling.{length-spell_item}
use Rattle.iop_snapshot.proofs.Saving.{plain_fits}
use Rattle.iop_snapshot.proofs.Listing.{items_read, items_spelled}

digit_of : (width number k : ℕ) → k < width
    → get_or (bytes_of width number) k 0 ≡ number / 256 ^ k % 256
digit_of zero number k inside = absurd (omega arith)
digit_of (suc w) number zero inside = omega arith
digit_of (suc w) number (suc k) inside =
    let next : number / 256 ^ suc k ≡ number / 256 / 256 ^ k =
    ap (λ d. number / d) (pow-suc 256 k ∙ omega arith)
    ∙ sym (div-div-eq-div-mul number 256 (256 ^ k)) in
    digit_of w (number / 256) k (omega arith) ∙ ap (λ q. q % 256) (sym next)

spell_behind : (vs ms : List ℕ) (w n : ℕ) (ws ns : List ℕ) → fits_item vs ms ≡ true
    → spell_item (vs ++ w ∷ ws) (ms ++ n ∷ ns)
    ≡ spell_item vs ms ++ (bytes_of w n ++ spell_item ws ns)
unfolding spell_item
spell_behind [] [] w n ws ns fits = refl
spell_behind [] (m ∷ ms) w n ws ns fits = absurd cc
spell_behind (v ∷ vs) [] w n ws ns fits = absurd cc
spell_behind (v ∷ vs) (m ∷ ms) w n ws ns fits =
    let more = bytes_of w n ++ spell_item ws ns in
    let rest = spell_behind vs ms w n ws ns (and_parts (ltb m (256 ^ v)) (fits_item vs ms) fits).1
    in
    ap (λ (l : List ℕ). bytes_of v m ++ l) rest
    ∙ sym (append_assoc (bytes_of v m) (spell_item vs ms) more)

spell_digit : (vs ms : List ℕ) (w n : ℕ) (ws ns : List ℕ) → fits_item vs ms ≡ true → (k : ℕ)
    → k < w → get_or (spell_item (vs ++ w ∷ ws) (ms ++ n ∷ ns)) (item_size vs + k) 0
    ≡ n / 256 ^ k % 256
spell_digit vs ms w n ws ns fits k inside =
    let front = spell_item vs ms in
    let number = bytes_of w n in
    let more = number ++ spell_item ws ns in
    let long = length-bytes_of w n in
    let size = length-spell_item vs ms fits in
    let there : k < length number = omega (arith, long) in
    ap (λ (l : List ℕ). get_or l (item_size vs + k) 0) (spell_behind vs ms w n ws ns fits)
    ∙ ap (λ s. get_or (front ++ more) (s + k) 0) (sym size)
    ∙ get_or-append-add front more k 0
    ∙ get_or_append_left number (spell_item ws ns) 0 k there
    ∙ digit_of w n k inside

pub items_laid : ItemsAreLaid
items_laid = record {
  size = length-spell_item;
  numbers = λ vs ms w n ws ns fits. record {
    behind = spell_behind vs ms w n ws ns fits;
    digit = spell_digit vs ms w n ws ns fits;
  };
}

module _ {X : Type 0} where
  pub begins_with_count : (form : Form X) (xs : List X)
      → spell_list form xs ≡ bytes_of 4 (length xs) ++ flat_map form.spell xs
  unfolding spell_list spell_item
  begins_with_count form xs =
      ap (λ (l : List ℕ). l ++ flat_map form.spell xs) (append-nil (bytes_of 4 (length xs)))

  plain : (form : Form X) → IsLawful form → IsSeries form (λ _. form)
  plain form law = record { lawful = λ before. law; same = λ before x. refl }

  pub repeated_lawful : (count : ℕ) (form : Form X) → IsLawful form
      → IsLawful (repeated count form)
  repeated_lawful count form law = record {
    reads_spelled = λ xs rest fits.
        let parts = and_parts (eqb (length xs) count) (list_all form.fits xs) fits in
        let bytes = flat_map form.spell xs ++ rest in
        ap (λ n. read_items (λ _. form) [] n bytes) (sym (eqb-true (length xs) count parts.0))
        ∙ items_read form (λ _. form) (plain form law) [] xs rest
        (plain_fits form [] xs ∙ parts.1);
    spells_read = λ bytes xs rest h e.
        let are = items_spelled form (λ _. form) (plain form law) [] count bytes xs rest h e in
        record {
          parts = are.parts;
          fits = and_from (eqb (length xs) count) (list_all form.fits xs)
              (eq-eqb (length xs) count are.count) (sym (plain_fits form [] xs) ∙ are.fits);
        };
  }
