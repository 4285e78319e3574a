-- The rows of headers that the loops go over.
use Rattle.std.proofs.Common.{◌≡◌, ℕ, List, map, drop, filter, ap, ◌∙◌}
use Rattle.std.specs.List.{range_with_len}
use Rattle.irx_elf.specs.Headers.{file_header, segment_number, segments, section_number, sections, is_relocations, relocation_sections}
use Rattle.irx_elf.proofs.Rows.{row, row-left, row-whole}

pub segments-are : (file : List ℕ) (n : ℕ) → n ≡ (file_header file).segment_count
    → row (segment_number file) 0 n ≡ segments file
unfolding segments
segments-are file n count =
    row-whole (segment_number file) n
    ∙ ap (λ k. map (segment_number file) (range_with_len 0 k)) count

pub relocation_sections-are : (file : List ℕ) (n : ℕ) → n ≡ (file_header file).section_count
    → filter is_relocations (row (section_number file) 0 n) ≡ relocation_sections file
unfolding sections relocation_sections
relocation_sections-are file n count =
    ap (filter is_relocations)
    (row-whole (section_number file) n
    ∙ ap (λ k. map (section_number file) (range_with_len 0 k)) count)

-- those that are left from a number on
pub relocation_sections-left : (file : List ℕ) (i n : ℕ) → n ≡ (file_header file).section_count
    → filter is_relocations (row (section_number file) i n) ≡ filter is_relocations
    (drop i (sections file))
unfolding sections
relocation_sections-left file i n count =
    ap (filter is_relocations)
    (row-left (section_number file) i n
    ∙ ap (λ k. drop i (map (section_number file) (range_with_len 0 k))) count)
