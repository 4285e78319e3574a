-- The unit that the source makes: no line is bad, the unit is not refused, and its file has 796
-- bytes. All this is computed for every number of workers at once.
use Rattle.std.proofs.Common.{◌≡◌, ℕ, ◌≤◌, None, IsSome, is_some, option_and_then, Ok, length, refl, ap, ◌∙◌}
use Rattle.std.specs.Result.{result_ok}
use Rattle.iop_asm.specs.Units.{ModuleUnit}
use Rattle.iop_asm.specs.Assembly.{label_address, first_fault, all_faults, unit_of_draft, unit_unless, assembled}
use Rattle.iop_base.specs.declared.limits.TheConstants.{MOST_WORKERS}
use Rattle.irx_build.specs.Files.{file_of, header_bytes, info_segment_bytes, image_segment_bytes, info_bytes, section_bytes}
use Rattle.irx_build.specs.Building.{refusal, ok_unless, file_or_refusal}
use Rattle.iop_generator.specs.Sources.{source, file_of_source}
use Rattle.iop_generator.proofs.Drafts.{after_lines, final, after_lines-source}

-- the unit for so many workers; with it unfolds all that it is computed by
pub unit : ℕ → ModuleUnit
unfolding label_address final
unit n = unit_of_draft (final n)

first_fault-final : (n : ℕ) → first_fault (all_faults (final n)) ≡ None
unfolding label_address final
first_fault-final n = refl

refusal-unit : (n : ℕ) → refusal (unit n) ≡ None
unfolding refusal unit
refusal-unit n = refl

length-file_of-unit : (n : ℕ) → length (file_of (unit n)) ≡ 796
unfolding file_of header_bytes info_segment_bytes image_segment_bytes info_bytes section_bytes unit
length-file_of-unit n = refl

pub assembled-source : (n : ℕ) → 1 ≤ n → n ≤ MOST_WORKERS → assembled (source n) ≡ Ok (unit n)
unfolding assembled unit after_lines
assembled-source n low high =
    ap (λ d. unit_unless d (first_fault (all_faults d))) (after_lines-source n low high)
    ∙ ap (unit_unless (final n)) (first_fault-final n)

-- so a file is built of it
pub builds-source : (n : ℕ) → 1 ≤ n → n ≤ MOST_WORKERS → IsSome (file_of_source (source n))
builds-source n low high =
    ap (λ r. is_some (option_and_then (λ u. result_ok (file_or_refusal u)) (result_ok r)))
    (assembled-source n low high)
    ∙ ap (λ r. is_some (result_ok (ok_unless r (file_of (unit n))))) (refusal-unit n)

module _ (n : ℕ) (low : 1 ≤ n) (high : n ≤ MOST_WORKERS) (made : ModuleUnit)
    (is_made : assembled (source n) ≡ Ok made) where
  made-unit : made ≡ unit n
  made-unit = let fits = assembled-source n low high in cc

  pub refusal-made : refusal made ≡ None
  refusal-made = ap refusal made-unit ∙ refusal-unit n

  pub length-file_of-made : length (file_of made) ≡ 796
  length-file_of-made = ap (λ u. length (file_of u)) made-unit ∙ length-file_of-unit n
