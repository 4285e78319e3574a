-- How long an image is.
use Rattle.std.proofs.Common.{◌≡◌, ℕ, ◌+◌, ◌-◌, ◌≤◌, Bool, nat_eq, List, [], ◌∷◌, length, replicate, Option, Some, None, is_some, option_map, refl, ap, ◌∙◌, arith}
use Rattle.std.specs.List.{find}
use Rattle.std.specs.Option.{option_or, option_map_or}
use Rattle.std.proofs.lemmas.List.{length-append, length-replicate}
use Rattle.iop_base.specs.Numbers.{word_at, bytes_of}
use Rattle.iop_base.proofs.Memory.{length-with_bytes}
use Rattle.irx_elf.specs.Parts.{Parts}
use Rattle.irx_reloc.specs.Entries.{all_entries, is_low}
use Rattle.irx_reloc.specs.Fitting.{broken_rule, section_misfit, misfit}
use Rattle.irx_reloc.specs.Relocating.{moved_word, paired_low, after_entry, after_section, relocated_image}
use Rattle.irx_reloc.specs.Words.{with_word}
use Rattle.irx_reloc.proofs.Fits.{entry_fits, site_inside}
use Rattle.irx_reloc.proofs.Moved.{moved_some}
use Rattle.iop_modload.specs.Modules.{image_at, padded_bytes}
use Rattle.iop_modload.proofs.Reading.{IsModule}

length-with_word : (image : List ℕ) (place word : ℕ) → place + 4 ≤ length image
    → length (with_word image place word) ≡ length image
unfolding with_word
length-with_word image place word inside = length-with_bytes image place (bytes_of 4 word) inside

none_or : {X : Type 0} (first second : Option X) → option_or first second ≡ None
    → (first ≡ None) × (second ≡ None)
none_or None second e = (refl, e)
none_or (Some x) second e = absurd (cc)

module _ (base : ℕ) where
  length-moved : (image : List ℕ) (entry : ℕ × ℕ) (low : ℕ) (word : Option ℕ)
      → moved_word entry.1 (word_at image entry.0) low base ≡ word
      → (has_low : Bool) × (broken_rule (length image) entry has_low ≡ None)
      → length (option_map_or (with_word image entry.0) word image) ≡ length image
  length-moved image entry low None e fits = refl
  length-moved image entry low (Some word) e fits =
      let other = moved_some entry.1 (word_at image entry.0) low base word
      (nat_eq entry.1 0) refl e in
      length-with_word image entry.0 word
      (site_inside (length image) entry fits.0 fits.1 other)

  length-after_entry : (image : List ℕ) (entry : ℕ × ℕ) (low : ℕ)
      → (has_low : Bool) × (broken_rule (length image) entry has_low ≡ None)
      → length (after_entry image entry low base) ≡ length image
  unfolding after_entry
  length-after_entry image entry low fits =
      length-moved image entry low (moved_word entry.1 (word_at image entry.0) low base) refl fits

  length-after_section : (image : List ℕ) (entries : List (ℕ × ℕ)) (size : ℕ)
      → length image ≡ size → section_misfit size entries ≡ None
      → length (after_section image entries base) ≡ size
  length-after_section image [] size long fits = long
  length-after_section image (entry ∷ later) size long fits =
      let new = after_entry image entry (paired_low image later) base in
      let fit = entry_fits size (entry ∷ later) fits 0 (omega arith) in
      let same = length-after_entry image entry (paired_low image later)
      (fit.0, ap (λ (n : ℕ). broken_rule n entry fit.0) long ∙ fit.1) in
      let rest = none_or (option_map (λ (rule : ℕ). record { rule = rule; at = entry.0 })
      (broken_rule size entry (is_some (find is_low later)))) (section_misfit size later) fits in
      length-after_section new later size (same ∙ long) rest.1

  length-relocated_image : (image : List ℕ) (sections : List (List (ℕ × ℕ))) (size : ℕ)
      → length image ≡ size → misfit size sections ≡ None
      → length (relocated_image image sections base) ≡ size
  length-relocated_image image [] size long fits = long
  length-relocated_image image (section ∷ later) size long fits =
      let both = none_or (section_misfit size section) (misfit size later) fits in
      length-relocated_image (after_section image section base) later size
      (length-after_section image section size long both.0) both.1

-- the image of a module has the length that its file says
pub length-image_at : (parts : Parts) (base : ℕ) → IsModule parts
    → length (image_at parts base) ≡ parts.length
unfolding image_at
length-image_at parts base h =
    let rest = parts.length - length parts.image in
    let long : length (padded_bytes parts) ≡ parts.length =
    omega (
      arith,
      length-append parts.image (replicate rest 0),
      length-replicate {A = ℕ} rest 0,
      h.sound.image_within,
    ) in
    length-relocated_image base (padded_bytes parts) (all_entries parts.lists) parts.length long
    h.fits
