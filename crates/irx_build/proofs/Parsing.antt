-- A file that holds the parts of a unit meets every rule, and its parts are the unit's.
use Rattle.std.proofs.Common.{◌≡◌, ℕ, ◌+◌, ◌*◌, ◌%◌, ◌^◌, ◌≤◌, ◌==◌, ◌&&◌, ◌||◌, Bool, true, false, cond, Some, None, Ok, List, [], ◌∷◌, length, map, filter, find, refl, ap, ◌∙◌, eq-eqb, arith}
use Rattle.std.specs.Prelude.{nat_lt, nat_le, max, is_some, unwrap_or, option_and_then}
use Rattle.std.specs.List.{range_with_len}
use Rattle.std.proofs.lemmas.Bool.{le-leb, lt-ltb}
use Rattle.std.proofs.lemmas.Option.{cond_some}
use Rattle.iop_base.specs.Numbers.{half_at, word_at}
use Rattle.irx_info.specs.Information.{Information, information_in, information_with}
use Rattle.irx_elf.specs.Headers.{file_header, segment_at, segments, is_of_kind, section_at, section_number, sections, is_relocations, relocation_sections}
use Rattle.irx_elf.specs.Rules.{is_elf, bytes_at, part_at, information_at, info_segment, image_segment, module_information, header_rules, segment_rules, section_rules, has_information, has_sizes, has_sections, has_entries, entries_rule, first_unmet, ok_unless, image_length as length_of}
use Rattle.irx_elf.specs.Parts.{Parts, takes_memory, parts_of, parts_or_rule, lists_of, list_of}
use Rattle.irx_elf.proofs.Meeting.{unmet-section, sections-in}
use Rattle.iop_asm.specs.Units.{ModuleUnit}
use Rattle.irx_build.specs.Files.{info_bytes, info_of, info_size, image_of, image_size, image_length, image_place, has_relocations, entry_list, entries_size, entries_place, sections_place, section_count}
use Rattle.irx_build.specs.Building.{IsAccepted}
use Rattle.irx_build.specs.UnitParts.{unit_parts}
use Rattle.irx_build.proofs.MeetRules.{first_unmet-met}
use Rattle.irx_build.proofs.ReadHeaders.{HoldsHeaders, segments-two}
use Rattle.irx_build.proofs.ReadInfo.{FitWords, information_in-bytes}
use Rattle.irx_build.proofs.ReadSections.{HoldsSections}

-- the relocation entries and their section headers stand in a file
pub record HoldsEntries (file : List ℕ) (unit : ModuleUnit) : Type 0 where
  pub sections : HoldsSections file (sections_place unit) (entries_place unit) (entries_size unit)
  pub sections_inside : sections_place unit + 80 ≤ length file
  pub entries : part_at file (entries_place unit) (entries_size unit) ≡ Some (entry_list unit)

-- the parts of a unit stand in a file
pub record HoldsParts (file : List ℕ) (unit : ModuleUnit) : Type 0 where
  pub headers :
      HoldsHeaders file (sections_place unit) (section_count unit) (info_size unit)
      (image_place unit) (image_size unit) (image_length unit)
  pub magic : is_elf file ≡ true
  pub headers_inside : 116 ≤ length file
  pub info : part_at file 116 (info_size unit) ≡ Some (info_bytes (info_of unit))
  pub image : part_at file (image_place unit) (image_size unit) ≡ Some (image_of unit)
  pub entries : has_relocations unit ≡ true → HoldsEntries file unit

-- a part that is in the file is its bytes there
bytes_at-part : (file : List ℕ) (p n : ℕ) (part : List ℕ) → part_at file p n ≡ Some part
    → bytes_at file p n ≡ part
bytes_at-part file p n part there = (cond_some _ _ _ there).1

four_true : (a b c d : Bool) → a ≡ true → b ≡ true → c ≡ true → d ≡ true
    → (a && b && c && d) ≡ true
four_true a b c d p q r s = rw (p, q, r, s) refl

module _ (file : List ℕ) (unit : ModuleUnit) (fit : FitWords (info_of unit))
    (accepted : IsAccepted unit) (holds : HoldsParts file unit) where
  header_met : first_unmet (header_rules file) ≡ None
  unfolding header_rules
  header_met =
      let headers = holds.headers in
      let long = le-leb 52 (length file) (omega (arith, holds.headers_inside)) in
      let kind = ap (λ k. k == 0xFF80) headers.kind in
      let machine = ap (λ k. k == 8) headers.machine in
      let inside = le-leb 116 (length file) holds.headers_inside in
      let program =
      ap (λ n. (n == 32)
      && nat_le (word_at file 28 + 32 * half_at file 44) (length file)) headers.segment_size
      ∙ ap (λ p. nat_le (p + 32 * half_at file 44) (length file)) headers.segments_from
      ∙ ap (λ n. nat_le (52 + 32 * n) (length file)) headers.segment_count
      ∙ inside in
      first_unmet-met (header_rules file) (long, (holds.magic, (kind, (machine, (program, tt)))))

  two : segments file ≡ segment_at file 52 ∷ segment_at file 84 ∷ []
  two = segments-two file holds.headers.segments_from holds.headers.segment_count

  info_found : find (is_of_kind 0x70000080) (segments file) ≡ Some (segment_at file 52)
  info_found =
      ap (find (is_of_kind 0x70000080)) two
      ∙ ap (λ k. cond (k == 0x70000080) (Some (segment_at file 52))
      (find (is_of_kind 0x70000080) (segment_at file 84 ∷ []))) holds.headers.info_kind

  image_found : find (is_of_kind 1) (segments file) ≡ Some (segment_at file 84)
  image_found =
      ap (find (is_of_kind 1)) two
      ∙ ap (λ k. cond (k == 1) (Some (segment_at file 52))
      (find (is_of_kind 1) (segment_at file 84 ∷ []))) holds.headers.info_kind
      ∙ ap (λ k. cond (k == 1) (Some (segment_at file 84)) None) holds.headers.image_kind

  info_first : info_segment file ≡ segment_at file 52
  info_first = ap (λ o. unwrap_or o (segment_at [] 0)) info_found

  image_first : image_segment file ≡ segment_at file 84
  image_first = ap (λ o. unwrap_or o (segment_at [] 0)) image_found

  info_read : information_at file (info_segment file) ≡ Some (info_of unit)
  info_read =
      ap (information_at file) info_first
      ∙ ap (λ p. option_and_then information_in (part_at file p (word_at file 68)))
      holds.headers.info_from
      ∙ ap (λ n. option_and_then information_in (part_at file 116 n)) holds.headers.info_size
      ∙ ap (option_and_then information_in) holds.info
      ∙ information_in-bytes (info_of unit) fit accepted.no_zero

  info_is : module_information file ≡ info_of unit
  info_is = ap (λ o. unwrap_or o (information_with [] 0)) info_read

  info_met : has_information file (info_segment file) ≡ true
  info_met = ap is_some info_read

  image_read :
      part_at file (image_segment file).offset (image_segment file).file_size ≡ Some (image_of unit)
  image_read =
      ap (λ s. part_at file s.offset s.file_size) image_first
      ∙ ap (λ p. part_at file p (word_at file 100)) holds.headers.image_from
      ∙ ap (part_at file (image_place unit)) holds.headers.image_size
      ∙ holds.image

  length_is : length_of (module_information file) (image_segment file) ≡ image_length unit
  length_is =
      let same : max (image_length unit) (image_length unit) ≡ image_length unit = omega arith in
      ap (λ info. length_of info (image_segment file)) info_is
      ∙ ap (length_of (info_of unit)) image_first
      ∙ ap (λ n. max n (image_length unit)) holds.headers.image_length
      ∙ same

  sizes_met : has_sizes (module_information file) (image_segment file) ≡ true
  sizes_met =
      let text = length unit.text in
      let size = image_size unit in
      let all = image_length unit in
      let same : max all all ≡ all = omega arith in
      let test : ℕ → ℕ → Bool =
      λ n k. nat_le 4 text && nat_le text n && nat_le n k && nat_lt k (2 ^ 31) in
      ap (λ info. has_sizes info (image_segment file)) info_is
      ∙ ap (has_sizes (info_of unit)) image_first
      ∙ ap (λ n. test n (max (word_at file 104) all)) holds.headers.image_size
      ∙ ap (λ k. test size (max k all)) holds.headers.image_length
      ∙ ap (test size) same
      ∙ four_true _ _ _ _ (le-leb 4 text accepted.text) (le-leb text size (omega arith))
      (le-leb size all (omega arith)) (lt-ltb all (2 ^ 31) (omega (arith, accepted.image)))

  segments_met : first_unmet (segment_rules file) ≡ None
  unfolding segment_rules
  segments_met =
      first_unmet-met (segment_rules file) (
        ap is_some info_found,
        (
          ap is_some image_found,
          (info_met, (ap is_some image_read, (sizes_met, tt))),
        ),
      )

  -- the section headers, where there are none
  module _ (without : has_relocations unit ≡ false) where
    none_counted : half_at file 48 ≡ 0
    none_counted = holds.headers.section_count ∙ ap (λ b. cond b 2 0) without

    none_there : relocation_sections file ≡ []
    unfolding sections relocation_sections
    none_there =
        ap (λ n. filter is_relocations (map (section_number file) (range_with_len 0 n)))
        none_counted

    none_unmet : first_unmet (section_rules file) ≡ None
    none_unmet =
        let length_fits : ℕ → Bool =
        λ n. half_at file 46 == 40 && nat_le (word_at file 32 + 40 * n) (length file) in
        sections-in file (ap (λ n. n == 0 || length_fits n) none_counted)
        ∙ ap (λ s. first_unmet (map (entries_rule file) s)) none_there

    no_lists : lists_of file ≡ []
    unfolding lists_of
    no_lists = ap (map (list_of file)) none_there

  -- the section headers, where there are entries
  module _ (there : has_relocations unit ≡ true) where
    held : HoldsEntries file unit
    held = holds.entries there

    abbrev at : ℕ
    at = sections_place unit

    two_counted : half_at file 48 ≡ 2
    two_counted = holds.headers.section_count ∙ ap (λ b. cond b 2 0) there

    one_there : relocation_sections file ≡ section_at file (at + 40) ∷ []
    unfolding sections relocation_sections
    one_there =
        ap (λ n. filter is_relocations (map (section_number file) (range_with_len 0 n)))
        two_counted
        ∙ ap (λ p. filter is_relocations (section_at file (p + 0) ∷ section_at file (p + 40) ∷ []))
        holds.headers.sections_from
        ∙ ap (λ k. cond (k == 9) (section_at file (at + 0)
        ∷ filter is_relocations (section_at file (at + 40) ∷ []))
        (filter is_relocations (section_at file (at + 40) ∷ []))) held.sections.first_kind
        ∙ ap (λ k. cond (k == 9) (section_at file (at + 40) ∷ []) []) held.sections.kind

    sections_there : has_sections file (file_header file) ≡ true
    sections_there =
        ap (λ n. n == 0 || (half_at file 46 == 40
        && nat_le (word_at file 32 + 40 * n) (length file))) two_counted
        ∙ ap (λ n. n == 40 && nat_le (word_at file 32 + 80) (length file))
        holds.headers.section_size
        ∙ ap (λ p. nat_le (p + 80) (length file)) holds.headers.sections_from
        ∙ le-leb (at + 80) (length file) held.sections_inside

    entries_met : has_entries file (section_at file (at + 40)) ≡ true
    entries_met =
        let inside : Bool = nat_lt (word_at file (at + 40 + 28)) (half_at file 48) in
        let test : ℕ → ℕ → Bool = λ p n. is_some (part_at file p n) && (n % 8 == 0) && inside in
        let multiple : entries_size unit % 8 ≡ 0 = omega arith in
        ap (λ p. test p (word_at file (at + 40 + 20))) held.sections.offset
        ∙ ap (test (entries_place unit)) held.sections.size
        ∙ ap (λ o. is_some o && (entries_size unit % 8 == 0) && inside) held.entries
        ∙ ap (λ b. b && inside) (eq-eqb (entries_size unit % 8) 0 multiple)
        ∙ ap (λ n. nat_lt n (half_at file 48)) held.sections.target
        ∙ ap (nat_lt 0) two_counted

    entries_unmet : first_unmet (section_rules file) ≡ None
    entries_unmet =
        sections-in file sections_there
        ∙ ap (λ s. first_unmet (map (entries_rule file) s)) one_there
        ∙ ap (λ b. cond b None (Some (record { rule = 12; at = at + 40 }))) entries_met

    one_list : lists_of file ≡ entry_list unit ∷ []
    unfolding lists_of
    one_list =
        ap (map (list_of file)) one_there
        ∙ ap (λ n. cond (n == 0 || takes_memory (section_number file n))
        (bytes_at file (word_at file (at + 40 + 16)) (word_at file (at + 40 + 20))) [] ∷ [])
        held.sections.target
        ∙ ap (λ p. bytes_at file p (word_at file (at + 40 + 20)) ∷ []) held.sections.offset
        ∙ ap (λ n. bytes_at file (entries_place unit) n ∷ []) held.sections.size
        ∙ ap (λ l. l ∷ []) (bytes_at-part file _ _ (entry_list unit) held.entries)

  sections_met : (b : Bool) → has_relocations unit ≡ b → first_unmet (section_rules file) ≡ None
  sections_met true there = entries_unmet there
  sections_met false without = none_unmet without

  lists_are : (b : Bool) → has_relocations unit ≡ b
      → lists_of file ≡ cond b (entry_list unit ∷ []) []
  lists_are true there = one_list there
  lists_are false without = no_lists without

  parts_are : parts_of file ≡ unit_parts unit
  unfolding unit_parts
  parts_are =
      let parts : List ℕ → ℕ → Information → List (List ℕ) → Parts =
      λ image all info lists. record { image = image; length = all; info = info; lists = lists }
      in
      let image = image_segment file in
      let all = length_of (module_information file) image in
      ap (λ bytes. parts bytes all (module_information file) (lists_of file))
      (bytes_at-part file _ _ (image_of unit) image_read)
      ∙ ap (λ n. parts (image_of unit) n (module_information file) (lists_of file)) length_is
      ∙ ap (λ info. parts (image_of unit) (image_length unit) info (lists_of file)) info_is
      ∙ ap (parts (image_of unit) (image_length unit) (info_of unit))
      (lists_are (has_relocations unit) refl)

  pub parsed : parts_or_rule file ≡ Ok (unit_parts unit)
  parsed =
      ap (λ o. ok_unless o (parts_of file))
      (unmet-section file header_met segments_met ∙ sections_met (has_relocations unit) refl)
      ∙ ap Ok parts_are
