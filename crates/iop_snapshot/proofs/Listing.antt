-- Lists of lawful forms are lawful.
use Rattle.std.proofs.Common.{◌≡◌, ℕ, zero, suc, ◌^◌, Bool, true, false, ◌&&◌, ltb, List, [], ◌∷◌, ◌++◌, length, get_or, Some, refl, sym, ap, subst, ◌∙◌, append_assoc}
use Rattle.std.specs.Prelude.{option_map}
use Rattle.std.specs.List.{All, list_all, flat_map}
use Rattle.std.proofs.lemmas.Bool.{and_parts, and_from}
use Rattle.std.proofs.lemmas.Option.{same_Some}
use Rattle.iop_base.specs.Numbers.{IsByte}
use Rattle.iop_snapshot.specs.Items.{spell_item, fits_item, read_item}
use Rattle.iop_snapshot.specs.Forms.{Form, IsSpelled, IsLawful, item, fits_items, in_front, read_items, spell_count, spell_list, read_list, fits_list, series, IsSeries, all_follow, following}
use Rattle.iop_snapshot.specs.Laws.{FollowsOn}
use Rattle.iop_snapshot.specs.declared.widths.TheConstants.{COUNT}
use Rattle.iop_snapshot.proofs.Spelling.{read_item-spell_item}
use Rattle.iop_snapshot.proofs.Combining.{then_some, map_some, item_lawful, bytes_behind, tested_lawful}

-- a count is one number
one_number : (numbers : List ℕ) → fits_item COUNT numbers ≡ true
    → numbers ≡ get_or numbers 0 0 ∷ []
one_number [] fits = absurd cc
one_number (n ∷ []) fits = refl
one_number (n ∷ m ∷ numbers) fits = absurd (never (and_parts (ltb n (2 ^ 32)) false fits).1)
  where
    never : ◌≡◌ {A = Bool} false true → ⊥
    never e = cc

and_swap : (a b c d : Bool) → ((a && b) && (c && d)) ≡ ((a && c) && (b && d))
and_swap true true c d = refl
and_swap true false true d = refl
and_swap true false false d = refl
and_swap false b c d = refl

module _ {X : Type 0} (form : Form X) (next : List X → Form X) (s : IsSeries form next) where
  pub items_read : (before xs : List X) (rest : List ℕ) → fits_items next before xs ≡ true
      → read_items next before (length xs) (flat_map form.spell xs ++ rest) ≡ Some (xs, rest)
  unfolding read_items fits_items
  items_read before [] rest fits = refl
  items_read before (x ∷ xs) rest fits =
      let parts = and_parts ((next before).fits x) (fits_items next (before ++ x ∷ []) xs) fits in
      let more = flat_map form.spell xs ++ rest in
      let regrouped : (form.spell x ++ flat_map form.spell xs) ++ rest
      ≡ (next before).spell x ++ more =
      append_assoc (form.spell x) (flat_map form.spell xs) rest
      ∙ ap (λ (l : List ℕ). l ++ more) (sym (s.same before x)) in
      ap (read_items next before (suc (length xs))) regrouped
      ∙ rw (
        (s.lawful before).reads_spelled x more parts.0,
        items_read (before ++ x ∷ []) xs rest parts.1,
      ) refl

  -- what is read of so many items
  pub record AreSpelled (before : List X) (n : ℕ) (bytes : List ℕ) (xs : List X) (rest : List ℕ)
      : Type 0 where
    pub parts : bytes ≡ flat_map form.spell xs ++ rest
    pub fits : fits_items next before xs ≡ true
    pub count : length xs ≡ n

  spelled_more : (before : List X) (n : ℕ) (bytes : List ℕ) (x : X) (middle : List ℕ)
      (xs : List X) (rest : List ℕ) → IsSpelled (next before) bytes x middle
      → AreSpelled (before ++ x ∷ []) n middle xs rest
      → AreSpelled before (suc n) bytes (x ∷ xs) rest
  unfolding fits_items
  spelled_more before n bytes x middle xs rest one more =
      let items = flat_map form.spell xs in record {
        parts = one.parts ∙ ap (λ (l : List ℕ). (next before).spell x ++ l) more.parts
            ∙ ap (λ (l : List ℕ). l ++ (items ++ rest)) (s.same before x)
            ∙ sym (append_assoc (form.spell x) items rest);
        fits = and_from ((next before).fits x) (fits_items next (before ++ x ∷ []) xs) one.fits
            more.fits;
        count = ap suc more.count;
      }

  pub items_spelled : (before : List X) (n : ℕ) (bytes : List ℕ) (xs : List X) (rest : List ℕ)
      → All IsByte bytes → read_items next before n bytes ≡ Some (xs, rest)
      → AreSpelled before n bytes xs rest
  unfolding read_items fits_items
  items_spelled before zero bytes xs rest h e =
      let made : AreSpelled before 0 bytes [] bytes =
      record { parts = refl; fits = refl; count = refl } in
      subst (λ (r : List X × List ℕ). AreSpelled before 0 bytes r.0 r.1)
      (same_Some ([], bytes) (xs, rest) e) made
  items_spelled before (suc n) bytes xs rest h e =
      let one = then_some ((next before).read bytes)
      (λ x. option_map (in_front x.0) (read_items next (before ++ x.0 ∷ []) n x.1))
      (xs, rest) e in
      let x = one.0.0 in
      let middle = one.0.1 in
      let two = map_some (read_items next (before ++ x ∷ []) n middle) (in_front x) (xs, rest)
      one.2 in
      let first = (s.lawful before).spells_read bytes x middle h one.1 in
      let more = items_spelled (before ++ x ∷ []) n middle two.0.0 two.0.1
      (bytes_behind h first) two.1 in
      subst (λ (r : List X × List ℕ). AreSpelled before (suc n) bytes r.0 r.1) two.2
      (spelled_more before n bytes x middle two.0.0 two.0.1 first more)

  list_read : (xs : List X) (rest : List ℕ) → fits_list next xs ≡ true
      → read_list next (spell_list form xs ++ rest) ≡ Some (xs, rest)
  unfolding read_list spell_list fits_list
  list_read xs rest fits =
      let counted = length xs ∷ [] in
      let parts = and_parts (fits_item COUNT counted) (fits_items next [] xs) fits in
      let items = flat_map form.spell xs in
      let count = read_item-spell_item COUNT counted (items ++ rest) parts.0 in
      ap (read_list next) (append_assoc (spell_count (length xs)) items rest)
      ∙ rw count (items_read [] xs rest parts.1)

  list_spelled : (bytes : List ℕ) (xs : List X) (rest : List ℕ) → All IsByte bytes
      → read_list next bytes ≡ Some (xs, rest) → IsSpelled (series form next) bytes xs rest
  unfolding read_list spell_list fits_list item
  list_spelled bytes xs rest h e =
      let one = then_some (read_item COUNT bytes)
      (λ counted. read_items next [] (get_or counted.0 0 0) counted.1) (xs, rest) e in
      let numbers = one.0.0 in
      let middle = one.0.1 in
      let count = (item_lawful COUNT).spells_read bytes numbers middle h one.1 in
      let alone = one_number numbers count.fits in
      let more = items_spelled [] (get_or numbers 0 0) middle xs rest (bytes_behind h count)
      one.2 in
      let counted : numbers ≡ length xs ∷ [] =
      alone ∙ ap (λ (n : ℕ). n ∷ []) (sym more.count) in
      let fits = subst (λ (l : List ℕ). fits_item COUNT l ≡ true) counted count.fits in
      record {
        parts = count.parts ∙ ap (λ (l : List ℕ). spell_item COUNT l ++ middle) counted
            ∙ ap (λ (l : List ℕ). spell_count (length xs) ++ l) more.parts
            ∙ sym (append_assoc (spell_count (length xs)) (flat_map form.spell xs) rest);
        fits = and_from (fits_item COUNT (length xs ∷ [])) (fits_items next [] xs) fits more.fits;
      }

  pub series_lawful : IsLawful (series form next)
  series_lawful = record { reads_spelled = list_read; spells_read = list_spelled }

module _ {X : Type 0} (form : Form X) (may : List X → X → Bool) where
  following_fits : (before xs : List X) → fits_items (following form may) before xs
      ≡ (list_all form.fits xs && all_follow may before xs)
  unfolding fits_items
  following_fits before [] = refl
  following_fits before (x ∷ xs) =
      ap (λ b. (form.fits x && may before x) && b) (following_fits (before ++ x ∷ []) xs)
      ∙ and_swap (form.fits x) (may before x) (list_all form.fits xs)
      (all_follow may (before ++ x ∷ []) xs)

  pub follows_on : IsLawful form → FollowsOn form may
  follows_on law = record {
    series = record {
      lawful = λ before. tested_lawful form (may before) law;
      same = λ before x. refl;
    };
    fits = following_fits;
  }
