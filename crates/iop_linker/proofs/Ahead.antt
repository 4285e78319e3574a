-- Two memories that are the same from a place on have the same import tables from there on.
use Rattle.std.proofs.Common.{◌≡◌, ℕ, zero, suc, ◌+◌, ◌-◌, ◌*◌, ◌/◌, ◌≤◌, cond, Option, Some, None, option_map, List, ◌∷◌, length, take, drop, map, get_or, refl, ap, sym, ◌∙◌, arith}
use Rattle.std.specs.List.{find, prefix_len}
use Rattle.std.proofs.lemmas.List.{get_or-drop, drop-drop}
use Rattle.iop_base.specs.declared.words.TheConstants.{STUB_INDEX}
use Rattle.iop_base.specs.Numbers.{number_at, word_at, half_at}
use Rattle.irx_tables.specs.Places.{name_at, places}
use Rattle.irx_tables.specs.declared.words.TheConstants.{HEADER_BYTES}
use Rattle.irx_tables.specs.Imports.{is_start, first_start, is_stub, stub_at, stubs_from, ended_stubs, table_with, table_at, found_at, found_by, next_table}
use Rattle.irx_tables.proofs.Rows.{found_place}

module _ (s : ℕ) (old new : List ℕ) (same : drop s new ≡ drop s old) where
  byte_ahead : (p : ℕ) → s ≤ p → get_or new p 0 ≡ get_or old p 0
  byte_ahead p le =
      let e : s + (p - s) ≡ p = omega arith in
      ap (λ n. get_or new n 0) (sym e) ∙ sym (get_or-drop s new (p - s) 0)
      ∙ ap (λ m. get_or m (p - s) 0) same ∙ get_or-drop s old (p - s) 0
      ∙ ap (λ n. get_or old n 0) e

  number_ahead : (p n : ℕ) → s ≤ p → number_at new p n ≡ number_at old p n
  number_ahead p zero le = refl
  number_ahead p (suc n) le =
      ap (λ b. b + 256 * number_at new (p + 1) n) (byte_ahead p le)
      ∙ ap (λ h. get_or old p 0 + 256 * h) (number_ahead (p + 1) n (omega arith))

  pub word_ahead : (p : ℕ) → s ≤ p → word_at new p ≡ word_at old p
  unfolding word_at
  word_ahead p le = number_ahead p 4 le

  half_ahead : (p : ℕ) → s ≤ p → half_at new p ≡ half_at old p
  unfolding half_at
  half_ahead p le = number_ahead p 2 le

  pub drop_ahead : (p : ℕ) → s ≤ p → drop p new ≡ drop p old
  drop_ahead p le =
      let e : s + (p - s) ≡ p = omega arith in
      ap (λ n. drop n new) (sym e) ∙ sym (drop-drop (p - s) s new) ∙ ap (drop (p - s)) same
      ∙ drop-drop (p - s) s old ∙ ap (λ n. drop n old) e

  name_ahead : (p : ℕ) → s ≤ p → name_at new p ≡ name_at old p
  unfolding name_at
  name_ahead p le = ap (take 8) (drop_ahead p le)

  start_ahead : (p : ℕ) → s ≤ p → is_start new p ≡ is_start old p
  start_ahead p le =
      let first = word_ahead p le in
      let second = word_ahead (p + 4) (omega arith) in
      rw (first, second) refl

  pub stub_ahead : (p : ℕ) → s ≤ p → is_stub new p ≡ is_stub old p
  stub_ahead p le =
      let first = word_ahead p le in
      let second = word_ahead (p + 4) (omega arith) in
      rw (first, second) refl

  pub stub_at_ahead : (p : ℕ) → s ≤ p → stub_at new p ≡ stub_at old p
  stub_at_ahead p le = ap (λ (w : ℕ). (p, w - STUB_INDEX)) (word_ahead (p + 4) (omega arith))

  find_ahead : (p n : ℕ) → s ≤ p
      → find (is_start new) (places 4 p n) ≡ find (is_start old) (places 4 p n)
  find_ahead p zero le = refl
  find_ahead p (suc n) le =
      ap (λ b. cond b (Some p) (find (is_start new) (places 4 (p + 4) n))) (start_ahead p le)
      ∙ ap (cond (is_start old p) (Some p)) (find_ahead (p + 4) n (omega arith))

  first_ahead : (stop scan : ℕ) → s ≤ scan → first_start new stop scan ≡ first_start old stop scan
  unfolding first_start
  first_ahead stop scan le = find_ahead scan ((stop - scan) / 4 - 1) le

  count_ahead : (p n : ℕ) → s ≤ p
      → prefix_len (is_stub new) (places 8 p n) ≡ prefix_len (is_stub old) (places 8 p n)
  count_ahead p zero le = refl
  count_ahead p (suc n) le =
      ap (λ b. cond b (1 + prefix_len (is_stub new) (places 8 (p + 8) n)) 0) (stub_ahead p le)
      ∙ ap (λ k. cond (is_stub old p) (1 + k) 0) (count_ahead (p + 8) n (omega arith))

  row_ahead : (p n k : ℕ) → s ≤ p
      → map (stub_at new) (take k (places 8 p n)) ≡ map (stub_at old) (take k (places 8 p n))
  row_ahead p n zero le = refl
  row_ahead p zero (suc k) le = refl
  row_ahead p (suc n) (suc k) le =
      ap (λ x. x ∷ map (stub_at new) (take k (places 8 (p + 8) n))) (stub_at_ahead p le)
      ∙ ap (λ rest. stub_at old p ∷ rest) (row_ahead (p + 8) n k (omega arith))

  stubs_ahead : (stop p : ℕ) → s ≤ p → stubs_from new stop p ≡ stubs_from old stop p
  unfolding stubs_from
  stubs_ahead stop p le =
      let row : List ℕ = places 8 p ((stop - p) / 8) in
      ap (λ k. map (stub_at new) (take k row)) (count_ahead p ((stop - p) / 8) le)
      ∙ row_ahead p ((stop - p) / 8) (prefix_len (is_stub old) row) le

  ended_ahead : (stop p : ℕ) → s ≤ p → ended_stubs new stop p ≡ ended_stubs old stop p
  unfolding ended_stubs
  ended_ahead stop p le =
      let stubs = stubs_ahead stop p le in
      let behind : ℕ = p + 8 * length (stubs_from old stop p) in
      let first = word_ahead behind (omega arith) in
      let second = word_ahead (behind + 4) (omega arith) in
      rw (stubs, first, second) refl

  with_ahead : (p : ℕ) → s ≤ p → (stubs : List (ℕ × ℕ))
      → table_with new p stubs ≡ table_with old p stubs
  with_ahead p le stubs =
      let name = name_ahead (p + 12) (omega arith) in
      let version = half_ahead (p + 8) (omega arith) in
      rw (name, version) refl

  made_ahead : (p : ℕ) → s ≤ p → (o : Option (List (ℕ × ℕ)))
      → option_map (table_with new p) o ≡ option_map (table_with old p) o
  made_ahead p le None = refl
  made_ahead p le (Some stubs) = ap Some (with_ahead p le stubs)

  table_ahead : (stop p : ℕ) → s ≤ p → table_at new stop p ≡ table_at old stop p
  table_ahead stop p le =
      ap (option_map (table_with new p)) (ended_ahead stop (p + HEADER_BYTES) (omega arith))
      ∙ made_ahead p le (ended_stubs old stop (p + HEADER_BYTES))

  start_behind : (stop scan p : ℕ) → first_start old stop scan ≡ Some p → scan ≤ p
  unfolding first_start
  start_behind stop scan p e =
      let h = found_place (is_start old) 4 scan ((stop - scan) / 4 - 1) p e in
      omega (arith, h.place)

  found_ahead : (stop scan : ℕ) → s ≤ scan → (o : Option ℕ) → first_start old stop scan ≡ o
      → found_by new stop o ≡ found_by old stop o
  found_ahead stop scan le None e = refl
  found_ahead stop scan le (Some p) e =
      ap (found_at p) (table_ahead stop p (omega (arith, start_behind stop scan p e)))

  pub next_ahead : (stop scan : ℕ) → s ≤ scan → next_table new stop scan ≡ next_table old stop scan
  next_ahead stop scan le =
      ap (found_by new stop) (first_ahead stop scan le)
      ∙ found_ahead stop scan le (first_start old stop scan) refl
