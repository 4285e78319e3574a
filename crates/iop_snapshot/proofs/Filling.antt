-- One number more of an item.
use Rattle.std.proofs.Common.{◌≡◌, ℕ, ◌+◌, ◌^◌, ◌<◌, ◌≤◌, suc, true, ltb, List, [], ◌∷◌, ◌++◌, length, get_or, take, drop, set, Some, None, refl, sym, ap, subst, ◌∙◌, append_assoc, append-nil, arith}
use Rattle.std.specs.List.{list_all}
use Rattle.std.proofs.lemmas.Bool.{ltb-true, lt-ltb, le-ltb, and_parts}
use Rattle.std.proofs.lemmas.Bool.Decides.{nat_tests}
use Rattle.std.proofs.lemmas.List.{drop_more, take_all, drop-drop, take_more_set, at_drop_all}
use Rattle.iop_base.specs.Numbers.{number_at, bytes_of}
use Rattle.iop_snapshot.specs.Items.{is_width, item_size, fits_item, spell_item, numbers_in, read_item}

pub width_bounds : (width : ℕ) → is_width width ≡ true → (1 ≤ width) × (width ≤ 8)
width_bounds width h = grind (arith, nat_tests)

pub as_many : (widths numbers : List ℕ) → fits_item widths numbers ≡ true
    → length numbers ≡ length widths
as_many [] [] fits = refl
as_many [] (n ∷ ns) fits = absurd cc
as_many (w ∷ ws) [] fits = absurd cc
as_many (w ∷ ws) (n ∷ ns) fits =
    ap suc (as_many ws ns (and_parts (ltb n (256 ^ w)) (fits_item ws ns) fits).1)

module _ (ws : List ℕ) (k : ℕ) (inside : k < length ws) where
  abbrev width : ℕ
  width = get_or ws k 0

  abbrev behind : List ℕ
  behind = drop (k + 1) ws

  pub widths_more : list_all is_width (drop k ws) ≡ true
      → (is_width width ≡ true) × (list_all is_width behind ≡ true)
  widths_more all =
      and_parts (is_width width) (list_all is_width behind)
      (subst (λ (xs : List ℕ). list_all is_width xs ≡ true) (drop_more ws k 0 inside) all)

  pub size_more : item_size (drop k ws) ≡ width + item_size behind
  size_more = ap item_size (drop_more ws k 0 inside)

  pub fits_more : (ns : List ℕ) → k < length ns → fits_item (drop k ws) (drop k ns) ≡ true
      → (get_or ns k 0 < 256 ^ width) × (fits_item behind (drop (k + 1) ns) ≡ true)
  fits_more ns there fits =
      let n = get_or ns k 0 in
      let one = subst (λ (xs : List ℕ). fits_item xs (drop k ns) ≡ true) (drop_more ws k 0 inside)
      fits in
      let both = subst (λ (xs : List ℕ). fits_item (width ∷ behind) xs ≡ true)
      (drop_more ns k 0 there) one in
      let parts = and_parts (ltb n (256 ^ width)) (fits_item behind (drop (k + 1) ns)) both in
      (ltb-true n (256 ^ width) parts.0, parts.1)

  pub spell_more : (ns : List ℕ) → k < length ns → spell_item (drop k ws) (drop k ns)
      ≡ bytes_of width (get_or ns k 0) ++ spell_item behind (drop (k + 1) ns)
  unfolding spell_item
  spell_more ns there = rw (drop_more ws k 0 inside, drop_more ns k 0 there) refl

  numbers_more : (bytes : List ℕ) → numbers_in (drop k ws) bytes
      ≡ number_at bytes 0 width ∷ numbers_in behind (drop width bytes)
  unfolding numbers_in
  numbers_more bytes = rw (drop_more ws k 0 inside) refl

  -- one number more is filled in
  pub filled_more : (bytes values rest : List ℕ) (n : ℕ) → k < length values
      → n ≡ number_at rest 0 width
      → numbers_in ws bytes ≡ take k values ++ numbers_in (drop k ws) rest
      → numbers_in ws bytes
      ≡ take (k + 1) (set values k n) ++ numbers_in behind (drop width rest)
  filled_more bytes values rest n there is filled =
      let more = numbers_in behind (drop width rest) in
      filled
      ∙ ap (λ (l : List ℕ). take k values ++ l)
      (numbers_more rest ∙ ap (λ m. m ∷ more) (sym is))
      ∙ sym (append_assoc (take k values) (n ∷ []) more)
      ∙ ap (λ (l : List ℕ). l ++ more) (sym (take_more_set values k n there))

  pub drop_more_size : (rest : List ℕ)
      → drop (item_size (drop k ws)) rest ≡ drop (item_size behind) (drop width rest)
  drop_more_size rest =
      ap (λ n. drop n rest) size_more ∙ sym (drop-drop (item_size behind) width rest)

-- behind the last number
pub spell_last : (ws ns : List ℕ) (k : ℕ) → length ws ≤ k
    → spell_item (drop k ws) (drop k ns) ≡ []
unfolding spell_item
spell_last ws ns k past = at_drop_all (λ (l : List ℕ). spell_item l (drop k ns)) ws k past

pub filled_last : (ws bytes values rest : List ℕ) (k : ℕ) → length ws ≤ k → length values ≤ k
    → numbers_in ws bytes ≡ take k values ++ numbers_in (drop k ws) rest
    → values ≡ numbers_in ws bytes
unfolding numbers_in
filled_last ws bytes values rest k past all filled =
    let none = at_drop_all (λ (l : List ℕ). numbers_in l rest) ws k past in
    sym (filled ∙ ap (λ (l : List ℕ). take k values ++ l) none ∙ append-nil (take k values)
    ∙ take_all k values all)

-- what is read, by whether there are enough bytes
pub read_short : (ws bytes : List ℕ) → length bytes < item_size ws → read_item ws bytes ≡ None
unfolding read_item
read_short ws bytes short = rw (lt-ltb (length bytes) (item_size ws) short) refl

pub read_whole : (ws bytes ns rest : List ℕ) → item_size ws ≤ length bytes
    → ns ≡ numbers_in ws bytes → rest ≡ drop (item_size ws) bytes
    → read_item ws bytes ≡ Some (ns, rest)
unfolding read_item
read_whole ws bytes ns rest room e f =
    rw (le-ltb (length bytes) (item_size ws) room, e, f) refl
