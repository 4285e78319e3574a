-- The parts of a unit stand in its file.
use Rattle.std.proofs.Common.{◌≡◌, ℕ, ◌+◌, ◌-◌, ◌^◌, ◌<◌, Bool, true, false, cond, Some, List, [], ◌++◌, length, refl, ap, sym, ◌∙◌, subst, arith}
use Rattle.std.specs.Int.{next_multiple_of}
use Rattle.std.proofs.lemmas.List.{append_assoc, length-append, length-replicate}
use Rattle.irx_elf.specs.Rules.{is_elf, part_at}
use Rattle.iop_asm.specs.Units.{ModuleUnit}
use Rattle.irx_build.specs.Files.{padding, header_bytes, info_bytes, section_bytes, info_of, info_size, image_of, image_size, image_length, image_place, has_relocations, entry_list, entries_size, entries_place, sections_place, section_count, headers_part, info_part, entries_part, file_of}
use Rattle.irx_build.specs.Building.{HasNumbers, IsAccepted}
use Rattle.irx_build.proofs.Middle.{part_at-middle}
use Rattle.irx_build.proofs.ReadHeaders.{HoldsHeaders, length-three_headers, headers-held}
use Rattle.irx_build.proofs.ReadEntries.{length-entries}
use Rattle.irx_build.proofs.ReadInfo.{FitWords, length-info_bytes}
use Rattle.irx_build.proofs.ReadSections.{HoldsSections, sections-held}
use Rattle.irx_build.proofs.Parsing.{HoldsEntries, HoldsParts}

pub words_fit : (unit : ModuleUnit) → HasNumbers (info_of unit) → IsAccepted unit
    → FitWords (info_of unit)
words_fit unit fit accepted = record {
  id = omega arith;
  entry = fit.entry;
  gp = fit.gp;
  text_size = omega (arith, accepted.image);
  data_size = omega (arith, accepted.image);
  bss_size = omega (arith, accepted.image);
  version = fit.version;
}

length-section_bytes : (place size : ℕ) → length (section_bytes place size) ≡ 80
unfolding section_bytes
length-section_bytes place size = refl

length-padding : (n : ℕ) → length (padding n) ≡ next_multiple_of n 4 - n
length-padding n = length-replicate {A = ℕ} (next_multiple_of n 4 - n) 0

-- so many bytes and the zeros behind them
length_padded : (bytes : List ℕ) (n : ℕ) → length bytes ≡ n
    → length (bytes ++ padding n) ≡ next_multiple_of n 4
length_padded bytes n size =
    omega (arith, length-append bytes (padding n), length-padding n, size)

below_by : (b : Bool) (n k : ℕ) → n < k → 0 < k → cond b n 0 < k
below_by true n k below some = below
below_by false n k below some = some

module _ (unit : ModuleUnit) (accepted : IsAccepted unit) where
  -- what stands before the image
  abbrev front : List ℕ
  front = headers_part unit ++ info_part unit

  abbrev file : List ℕ
  file = front ++ image_of unit ++ entries_part unit

  length-headers : length (headers_part unit) ≡ 116
  length-headers =
      length-three_headers unit.entry (sections_place unit) (section_count unit) (info_size unit)
      (image_place unit) (image_size unit) (image_length unit)

  length-info : length (info_bytes (info_of unit)) ≡ info_size unit
  length-info = length-info_bytes (info_of unit)

  length-front : length front ≡ image_place unit
  length-front =
      length-append (headers_part unit) (info_part unit)
      ∙ ap (λ n. n + length (info_part unit)) length-headers
      ∙ ap (λ n. 116 + n) (length_padded (info_bytes (info_of unit)) (info_size unit) length-info)

  length-image : length (image_of unit) ≡ image_size unit
  length-image = length-append unit.text unit.«data»

  short_front : image_place unit < 500
  short_front = omega (arith, accepted.name)

  short_entries_place : entries_place unit < 3000000
  short_entries_place = omega (arith, short_front, accepted.image)

  -- what stands behind the headers, and behind the module information
  abbrev behind_headers : List ℕ
  behind_headers = info_part unit ++ (image_of unit ++ entries_part unit)

  file-headers : file ≡ headers_part unit ++ behind_headers
  file-headers =
      append_assoc front (image_of unit) (entries_part unit)
      ∙ append_assoc (headers_part unit) (info_part unit) (image_of unit ++ entries_part unit)

  file-info : file ≡ headers_part unit ++ (info_bytes (info_of unit)
      ++ (padding (info_size unit) ++ (image_of unit ++ entries_part unit)))
  file-info =
      file-headers
      ∙ ap (λ rest. headers_part unit ++ rest)
      (append_assoc (info_bytes (info_of unit)) (padding (info_size unit))
      (image_of unit ++ entries_part unit))

  headers_held : HoldsHeaders file (sections_place unit) (section_count unit) (info_size unit)
      (image_place unit) (image_size unit) (image_length unit)
  headers_held =
      let place = entries_place unit + entries_size unit in
      let below : place < 2 ^ 32 = omega (arith, short_entries_place, accepted.entries) in
      let sections_fit = below_by (has_relocations unit) place (2 ^ 32) below (omega arith) in
      let count_fits = below_by (has_relocations unit) 2 (2 ^ 16) (omega arith) (omega arith) in
      subst (λ f. HoldsHeaders f (sections_place unit) (section_count unit) (info_size unit)
      (image_place unit) (image_size unit) (image_length unit)) (sym file-headers)
      (headers-held unit.entry (sections_place unit) (section_count unit) (info_size unit)
      (image_place unit) (image_size unit) (image_length unit) behind_headers sections_fit
      count_fits (omega (arith, accepted.name)) (omega (arith, short_front))
      (omega (arith, accepted.image)) (omega (arith, accepted.image)))

  info_there : part_at file 116 (info_size unit) ≡ Some (info_bytes (info_of unit))
  info_there =
      let bytes = info_bytes (info_of unit) in
      let rest = padding (info_size unit) ++ (image_of unit ++ entries_part unit) in
      subst (λ f. part_at f 116 (info_size unit) ≡ Some bytes) (sym file-info)
      (part_at-middle (headers_part unit) bytes rest 116 (info_size unit) length-headers
      length-info)

  image_there : part_at file (image_place unit) (image_size unit) ≡ Some (image_of unit)
  image_there =
      subst (λ f. part_at f (image_place unit) (image_size unit) ≡ Some (image_of unit))
      (sym (append_assoc front (image_of unit) (entries_part unit)))
      (part_at-middle front (image_of unit) (entries_part unit) (image_place unit)
      (image_size unit) length-front length-image)

  -- what stands around the entries
  abbrev zeros : List ℕ
  zeros = padding (image_size unit)

  abbrev headers : List ℕ
  headers = section_bytes (entries_place unit) (entries_size unit)

  module _ (there : has_relocations unit ≡ true) where
    -- what stands before the entries
    abbrev front_entries : List ℕ
    front_entries = front ++ image_of unit ++ zeros

    file-sections : file ≡ (front_entries ++ entry_list unit) ++ headers
    file-sections =
        ap (λ b. front ++ image_of unit ++ cond b (zeros ++ entry_list unit ++ headers) []) there
        ∙ sym (append_assoc (front ++ image_of unit) (zeros ++ entry_list unit) headers)
        ∙ ap (λ l. l ++ headers)
        (sym (append_assoc (front ++ image_of unit) zeros (entry_list unit)))

    length-front_entries : length front_entries ≡ entries_place unit
    length-front_entries =
        ap length (append_assoc front (image_of unit) zeros)
        ∙ length-append front (image_of unit ++ zeros)
        ∙ ap (λ n. n + length (image_of unit ++ zeros)) length-front
        ∙ ap (λ n. image_place unit + n)
        (length_padded (image_of unit) (image_size unit) length-image)

    length-before_sections : length (front_entries ++ entry_list unit) ≡ sections_place unit
    length-before_sections =
        length-append front_entries (entry_list unit)
        ∙ ap (λ n. n + length (entry_list unit)) length-front_entries
        ∙ ap (λ n. entries_place unit + n) (length-entries unit.relocations)
        ∙ sym (ap (λ b. cond b (entries_place unit + entries_size unit) 0) there)

    entries_held : HoldsEntries file unit
    entries_held = record {
      sections =
          subst (λ f. HoldsSections f (sections_place unit) (entries_place unit)
          (entries_size unit)) (sym file-sections)
          (sections-held (front_entries ++ entry_list unit) (sections_place unit)
          (entries_place unit) (entries_size unit) length-before_sections
          (omega (arith, short_entries_place)) (omega (arith, accepted.entries)));
      sections_inside =
          omega (
            arith,
            ap length file-sections,
            length-before_sections,
            length-append (front_entries ++ entry_list unit) headers,
            length-section_bytes (entries_place unit) (entries_size unit),
          );
      entries =
          subst (λ f. part_at f (entries_place unit) (entries_size unit)
          ≡ Some (entry_list unit))
          (sym (file-sections ∙ append_assoc front_entries (entry_list unit) headers))
          (part_at-middle front_entries (entry_list unit) headers (entries_place unit)
          (entries_size unit) length-front_entries (length-entries unit.relocations));
    }

  magic_there : is_elf file ≡ true
  unfolding header_bytes
  magic_there = refl

  pub parts_stand : HoldsParts (file_of unit) unit
  unfolding file_of
  parts_stand = record {
    headers = headers_held;
    magic = magic_there;
    headers_inside =
        omega (
          arith,
          ap length file-headers,
          length-append (headers_part unit) behind_headers,
          length-headers,
        );
    info = info_there;
    image = image_there;
    entries = entries_held;
  }

  short_part : length (zeros ++ entry_list unit ++ headers) < 3000000
  short_part =
      omega (
        arith,
        length-append (zeros ++ entry_list unit) headers,
        length-append zeros (entry_list unit),
        length-padding (image_size unit),
        length-entries unit.relocations,
        length-section_bytes (entries_place unit) (entries_size unit),
        accepted.entries,
      )

  short_entries_part : (b : Bool) → length (cond b (zeros ++ entry_list unit ++ headers) [])
      < 3000000
  short_entries_part true = short_part
  short_entries_part false = omega arith

  pub short_file : length (file_of unit) < 2 ^ 32
  unfolding file_of
  short_file =
      omega (
        arith,
        length-append (front ++ image_of unit) (entries_part unit),
        length-append front (image_of unit),
        length-front,
        short_front,
        length-image,
        accepted.image,
        short_entries_part (has_relocations unit),
      )
