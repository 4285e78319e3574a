-- What the rules say of a file that meets them.
use Rattle.std.proofs.Common.{◌≡◌, ℕ, zero, suc, ◌+◌, ◌%◌, ◌^◌, ◌<◌, ◌≤◌, Bool, true, false, cond, nat_le, is_some, unwrap_or, option_map, Option, Some, None, List, [], ◌∷◌, length, map, take, drop, find, filter, All, get_or, Bor, option_copied, ap, sym, ◌∙◌, refl, subst, arith}
use Rattle.std.specs.List.{slice_get}
use Rattle.std.proofs.lemmas.Bool.{and_parts, leb-true, ltb-true, eqb-true}
use Rattle.std.proofs.lemmas.Option.{slice_get-get_or, slice_get-map, unwrap_or-slice_get}
use Rattle.std.proofs.lemmas.List.{length-take, length-drop, length-map}
use Rattle.std.proofs.lemmas.List.Elements.{All-map}
use Rattle.iop_base.specs.declared.illegal.Illegal.{Illegal}
use Rattle.irx_elf.specs.Headers.{file_header, segments, is_of_kind, section_number, sections, is_relocations, relocation_sections}
use Rattle.irx_elf.specs.Rules.{first_unmet, segment_rules, section_rules, has_sizes, has_entries, entries_rule, bytes_at, part_at, information_at, image_length, info_segment, image_segment, module_information}
use Rattle.irx_elf.specs.Parts.{Parts, parts_of, is_applied, list_of, lists_of, lists_from, IsSound}
use Rattle.irx_elf.specs.declared.section.Section.{Section}
use Rattle.irx_elf.proofs.Rows.{row, filter-here, filter-later, filter-end}
use Rattle.irx_elf.proofs.Headers.{relocation_sections-left}

none-parts : (met : Bool) (o : Option Illegal) (e : Illegal) → cond met o (Some e) ≡ None
    → (met ≡ true) × (o ≡ None)
none-parts true o e h = (refl, h)
none-parts false o e h = absurd (cc)

some-cond : {X : Type 0} (b : Bool) (x : X) → is_some (cond b (Some x) None) ≡ true → b ≡ true
some-cond true x h = refl
some-cond false x h = absurd (cc)

-- what is lent is there where its bytes are
pub some-copied : (lent : Option (Bor (List ℕ))) (bytes : Option (List ℕ))
    → option_copied lent ≡ bytes → is_some bytes ≡ true → is_some lent ≡ true
some-copied None bytes same some = absurd (cc)
some-copied (Some x) bytes same some = refl

-- the range lies in the file
pub part-inside : (file : List ℕ) (offset size : ℕ) → is_some (part_at file offset size) ≡ true
    → offset + size ≤ length file
part-inside file offset size h =
    leb-true (offset + size) (length file)
    (some-cond (nat_le (offset + size) (length file)) (take size (drop offset file)) h)

pub length-bytes : (file : List ℕ) (offset size : ℕ) → is_some (part_at file offset size) ≡ true
    → length (bytes_at file offset size) ≡ size
length-bytes file offset size h =
    omega (
      arith,
      length-take size (drop offset file),
      length-drop offset file,
      part-inside file
          offset size h,
    )

module _ (file : List ℕ) where
  entries-at : (xs : List Section) (k : ℕ) (s : Section)
      → first_unmet (map (entries_rule file) xs) ≡ None → slice_get xs k ≡ Some s
      → has_entries file s ≡ true
  entries-at [] k s met at = absurd (cc)
  entries-at (x ∷ xs) zero s met at =
      let e : x ≡ s = cc in
      ap (has_entries file) (sym e)
      ∙ (none-parts (has_entries file x) (first_unmet (map (entries_rule file) xs))
      (record { rule = 12; at = x.at }) met).0
  entries-at (x ∷ xs) (suc k) s met at =
      entries-at xs k s (none-parts (has_entries file x)
      (first_unmet (map (entries_rule file) xs)) (record { rule = 12; at = x.at }) met).1 at

  behind-met : (x : Section) (xs : List Section) (b : Bool)
      → first_unmet (map (entries_rule file) (cond b (x ∷ xs) xs)) ≡ None
      → first_unmet (map (entries_rule file) xs) ≡ None
  behind-met x xs true met =
      (none-parts (has_entries file x) (first_unmet (map (entries_rule file) xs))
      (record { rule = 12; at = x.at }) met).1
  behind-met x xs false met = met

  left-met : (i : ℕ) (xs : List Section)
      → first_unmet (map (entries_rule file) (filter is_relocations xs)) ≡ None
      → first_unmet (map (entries_rule file) (filter is_relocations (drop i xs))) ≡ None
  left-met zero xs met = met
  left-met (suc i) [] met = refl
  left-met (suc i) (x ∷ xs) met =
      left-met i xs (behind-met x (filter is_relocations xs) (is_relocations x) met)

  module _ (met : first_unmet (section_rules file) ≡ None) where
    each-met : first_unmet (map (entries_rule file) (relocation_sections file)) ≡ None
    unfolding section_rules
    each-met = (none-parts _ _ (record { rule = 11; at = 46 }) met).1

    pub entries-met : (k : ℕ) (s : Section) → slice_get (relocation_sections file) k ≡ Some s
        → has_entries file s ≡ true
    entries-met k s at = entries-at (relocation_sections file) k s each-met at

    -- rule 12 of a section of relocation entries
    pub entry-met : (i n : ℕ) → n ≡ (file_header file).section_count → i < n
        → is_relocations (section_number file i) ≡ true
        → has_entries file (section_number file i) ≡ true
    unfolding relocation_sections
    entry-met i n count below same =
        let f = section_number file in
        let left = sym (relocation_sections-left file i n count)
        ∙ filter-here is_relocations f i n below same in
        let unmet = ap (λ (xs : List Section). first_unmet (map (entries_rule file) xs)) left in
        (none-parts (has_entries file (f i))
        (first_unmet (map (entries_rule file) (filter is_relocations (row f (i + 1) n))))
        (record { rule = 12; at = (f i).at })
        (sym unmet ∙ left-met i (sections file) each-met)).0

    whole-bytes : (s : Section) → has_entries file s ≡ true
        → length (bytes_at file s.offset s.size) % 8 ≡ 0
    whole-bytes s h =
        let inside = (and_parts _ _ (and_parts _ _ h).0).0 in
        let whole = eqb-true _ _ (and_parts _ _ (and_parts _ _ h).0).1 in
        ap (λ n. n % 8) (length-bytes file s.offset s.size inside) ∙ whole

    whole-list : (s : Section) (b : Bool) → has_entries file s ≡ true
        → length (cond b (bytes_at file s.offset s.size) []) % 8 ≡ 0
    whole-list s true h = whole-bytes s h
    whole-list s false h = refl

    pub lists-whole : All (λ list. length list % 8 ≡ 0) (lists_of file)
    unfolding lists_of
    lists-whole =
        All-map (λ (list : List ℕ). length list % 8 ≡ 0) (list_of file) (relocation_sections file)
        (λ k d below. let s =
        get_or (relocation_sections file) k d in whole-list s (is_applied file s)
        (entries-met k s (slice_get-get_or (relocation_sections file) k d below)))

  -- a list, and what stands past the lists
  pub list-at : (k : ℕ) (s : Section) → slice_get (relocation_sections file) k ≡ Some s
      → get_or (lists_of file) k [] ≡ list_of file s
  unfolding lists_of
  list-at k s at =
      sym (unwrap_or-slice_get (map (list_of file) (relocation_sections file)) k [])
      ∙ ap (λ (o : Option (List ℕ)). unwrap_or o [])
      (slice_get-map (list_of file) (relocation_sections file) k
      ∙ ap (option_map (list_of file)) at)

  pub list-past : (k : ℕ) → slice_get (relocation_sections file) k ≡ None
      → get_or (lists_of file) k [] ≡ []
  unfolding lists_of
  list-past k at =
      sym (unwrap_or-slice_get (map (list_of file) (relocation_sections file)) k [])
      ∙ ap (λ (o : Option (List ℕ)). unwrap_or o [])
      (slice_get-map (list_of file) (relocation_sections file) k
      ∙ ap (option_map (list_of file)) at)

  pub length-lists : length (lists_of file) ≡ length (relocation_sections file)
  unfolding lists_of
  length-lists = length-map (relocation_sections file) (list_of file)

  -- all lists, and those that are left from a section header on
  pub lists-all : lists_from file 0 ≡ lists_of file
  unfolding lists_of lists_from relocation_sections
  lists-all = refl

  pub lists-here : (i n : ℕ) → n ≡ (file_header file).section_count → i < n
      → is_relocations (section_number file i) ≡ true
      → lists_from file i ≡ list_of file (section_number file i) ∷ lists_from file (i + 1)
  unfolding lists_from
  lists-here i n count below same =
      ap (map (list_of file))
      (sym (relocation_sections-left file i n count)
      ∙ filter-here is_relocations (section_number file) i n below same)
      ∙ ap (λ (xs : List Section). list_of file (section_number file i) ∷ map (list_of file) xs)
      (relocation_sections-left file (i + 1) n count)

  pub lists-later : (i n : ℕ) → n ≡ (file_header file).section_count → i < n
      → is_relocations (section_number file i) ≡ false → lists_from file i ≡ lists_from file (i + 1)
  unfolding lists_from
  lists-later i n count below other =
      ap (map (list_of file))
      (sym (relocation_sections-left file i n count)
      ∙ filter-later is_relocations (section_number file) i n below other
      ∙ relocation_sections-left file (i + 1) n count)

  pub lists-end : (i n : ℕ) → n ≡ (file_header file).section_count → n ≤ i → lists_from file i ≡ []
  unfolding lists_from
  lists-end i n count over =
      ap (map (list_of file))
      (sym (relocation_sections-left file i n count)
      ∙ filter-end is_relocations (section_number file) i n over)

  module _ (met : first_unmet (segment_rules file) ≡ None) where
    -- the image lies in the file, and its sizes fit
    pub segments-met : (is_some
        (part_at file (image_segment file).offset (image_segment file).file_size) ≡ true)
        × (has_sizes (module_information file) (image_segment file) ≡ true)
    unfolding segment_rules
    segments-met =
        let named = none-parts (is_some (find (is_of_kind 0x70000080) (segments file))) _
        (record { rule = 6; at = 44 }) met in
        let loaded = none-parts (is_some (find (is_of_kind 1) (segments file))) _
        (record { rule = 7; at = 44 }) named.1 in
        let told = none-parts (is_some (information_at file (info_segment file))) _
        (record { rule = 8; at = (info_segment file).at }) loaded.1 in
        let inside = none-parts _ _ (record { rule = 9; at = (image_segment file).at }) told.1 in
        let sized = none-parts _ None (record { rule = 10; at = (image_segment file).at })
        inside.1 in
        (inside.0, sized.0)

    sizes : (4 ≤ (module_information file).text_size)
        × ((module_information file).text_size ≤ (image_segment file).file_size)
        × ((image_segment file).file_size ≤ image_length (module_information file)
        (image_segment file))
        × (image_length (module_information file) (image_segment file) < 2 ^ 31)
    sizes =
        let all = and_parts _ _ segments-met.1 in
        let three = and_parts _ _ all.0 in
        let two = and_parts _ _ three.0 in
        (leb-true _ _ two.0, leb-true _ _ two.1, leb-true _ _ three.1, ltb-true _ _ all.1)

    pub length-short : image_length (module_information file) (image_segment file) < 2 ^ 31
    length-short = sizes.3

    pub parts-sound : first_unmet (section_rules file) ≡ None → (parts : Parts)
        → parts ≡ parts_of file → IsSound parts
    parts-sound sections parts same =
        let all = length-bytes file (image_segment file).offset (image_segment file).file_size
        segments-met.0 in
        subst IsSound (sym same)
        (record {
          text = sizes.0;
          text_within = omega (arith, all, sizes.1);
          image_within = omega (arith, all, sizes.2);
          short = sizes.3;
          entries = lists-whole sections;
        })
