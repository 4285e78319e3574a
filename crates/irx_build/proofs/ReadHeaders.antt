-- The numbers of a file's headers read back.
use Rattle.std.proofs.Common.{◌≡◌, ℕ, ◌+◌, ◌*◌, ◌^◌, ◌<◌, List, [], ◌∷◌, ◌++◌, length, map, refl, ap, ◌∙◌}
use Rattle.std.specs.List.{range_with_len}
use Rattle.iop_base.specs.Numbers.{half_at, word_at}
use Rattle.irx_elf.specs.Headers.{segment_at, segments}
use Rattle.irx_build.specs.Files.{header_bytes, info_segment_bytes, image_segment_bytes}
use Rattle.irx_build.proofs.NumberBytes.{half_again, word_again}

-- the headers of a file hold these numbers
pub record HoldsHeaders (file : List ℕ) (sections count info place size memory : ℕ) : Type 0 where
  pub kind : half_at file 16 ≡ 0xFF80
  pub machine : half_at file 18 ≡ 8
  pub segments_from : word_at file 28 ≡ 52
  pub sections_from : word_at file 32 ≡ sections
  pub segment_size : half_at file 42 ≡ 32
  pub segment_count : half_at file 44 ≡ 2
  pub section_size : half_at file 46 ≡ 40
  pub section_count : half_at file 48 ≡ count
  pub info_kind : word_at file 52 ≡ 0x70000080
  pub info_from : word_at file 56 ≡ 116
  pub info_size : word_at file 68 ≡ info
  pub image_kind : word_at file 84 ≡ 1
  pub image_from : word_at file 88 ≡ place
  pub image_size : word_at file 100 ≡ size
  pub image_length : word_at file 104 ≡ memory

module _ (entry sections count info_size place file_size memory_size : ℕ) where
  abbrev pub three_headers : List ℕ
  three_headers =
      header_bytes entry sections count
      ++ info_segment_bytes info_size
      ++ image_segment_bytes place file_size memory_size

  pub length-three_headers : length three_headers ≡ 116
  unfolding header_bytes info_segment_bytes image_segment_bytes
  length-three_headers = refl

  pub headers-held : (rest : List ℕ) → sections < 2 ^ 32 → count < 2 ^ 16 → info_size < 2 ^ 32
      → place < 2 ^ 32 → file_size < 2 ^ 32 → memory_size < 2 ^ 32
      → HoldsHeaders (three_headers ++ rest) sections count info_size place file_size memory_size
  unfolding half_at word_at header_bytes info_segment_bytes image_segment_bytes
  headers-held rest sections_fit count_fits info_fits place_fits file_fits memory_fits = record {
    kind = refl;
    machine = refl;
    segments_from = refl;
    sections_from = word_again sections sections_fit;
    segment_size = refl;
    segment_count = refl;
    section_size = refl;
    section_count = half_again count count_fits;
    info_kind = refl;
    info_from = refl;
    info_size = word_again info_size info_fits;
    image_kind = refl;
    image_from = word_again place place_fits;
    image_size = word_again file_size file_fits;
    image_length = word_again memory_size memory_fits;
  }

-- two program headers from place 52 on
pub segments-two : (file : List ℕ) → word_at file 28 ≡ 52 → half_at file 44 ≡ 2
    → segments file ≡ segment_at file 52 ∷ segment_at file 84 ∷ []
unfolding segments
segments-two file place count =
    ap (λ n. map (λ k. segment_at file (word_at file 28 + 32 * k)) (range_with_len 0 n)) count
    ∙ ap (λ p. segment_at file (p + 32 * 0) ∷ segment_at file (p + 32 * 1) ∷ []) place
