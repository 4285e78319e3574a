-- The LO16 that comes next.
use Rattle.std.proofs.Common.{◌≡◌, ℕ, zero, suc, ◌+◌, ◌-◌, ◌<◌, ◌≤◌, List, length, drop, nat_lt, is_some, ◌⊎◌, inl, inr, refl, ap, ◌∙◌, arith}
use Rattle.std.specs.List.{find, slice_get}
use Rattle.std.proofs.lemmas.List.{drop_more, drop_all}
use Rattle.std.proofs.lemmas.Option.{slice_get-get_or, slice_get_past}
use Rattle.std.proofs.lemmas.Bool.{cases_lt, lt-ltb, le-ltb}
use Rattle.irx_reloc.specs.Entries.{is_low}
use Rattle.irx_reloc.specs.Walking.{IsNextLow}

-- whether an index has an element
pub is_some-slice_get : (xs : List (ℕ × ℕ)) (k : ℕ)
    → is_some (slice_get xs k) ≡ nat_lt k (length xs)
is_some-slice_get xs k = at_index (cases_lt k (length xs))
  where
    at_index : (k < length xs) ⊎ (length xs ≤ k) → is_some (slice_get xs k) ≡ nat_lt k (length xs)
    at_index (inl lt) = rw (slice_get-get_or xs k (0, 0) lt, lt-ltb k (length xs) lt) refl
    at_index (inr le) = rw (slice_get_past xs k le, le-ltb k (length xs) le) refl

module _ (entries : List (ℕ × ℕ)) where
  -- seen from a later entry
  pub later : (from to low : ℕ) → from ≤ to → to ≤ low → IsNextLow entries from low
      → IsNextLow entries to low
  later from to low le below h =
      record {
        after = below;
        within = h.within;
        none_before =
            λ k after before. h.none_before k (omega arith) before;
        is_one = h.is_one;
      }

  find_here : (low : ℕ) → (low < length entries) ⊎ (length entries ≤ low)
      → IsNextLow entries low low → find is_low (drop low entries) ≡ slice_get entries low
  find_here low (inl lt) h =
      let one = h.is_one lt in
      rw (drop_more entries low (0, 0) lt, one, slice_get-get_or entries low (0, 0) lt) refl
  find_here low (inr le) h = rw (drop_all low entries le, slice_get_past entries low le) refl

  find_on : (n from low : ℕ) → from + n ≡ low → IsNextLow entries from low
      → find is_low (drop from entries) ≡ slice_get entries low
  find_on zero from low e h =
      let same : from ≡ low = omega arith in
      rw same (find_here low (cases_lt low (length entries))
      (later from low low (omega arith) (omega arith) h))
  find_on (suc n) from low e h =
      let inside : from < length entries = omega (arith, h.within) in
      let none = h.none_before from (omega arith) (omega arith) in
      rw (drop_more entries from (0, 0) inside, none)
      (find_on n (from + 1) low (omega arith)
      (later from (from + 1) low (omega arith) (omega arith) h))

  module _ (from low : ℕ) (h : IsNextLow entries from low) where
    pub find_next : find is_low (drop from entries) ≡ slice_get entries low
    find_next = find_on (low - from) from low (omega (arith, h.after)) h

    pub has_next : is_some (find is_low (drop from entries)) ≡ nat_lt low (length entries)
    has_next = ap is_some find_next ∙ is_some-slice_get entries low
