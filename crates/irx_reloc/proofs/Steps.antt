-- The entries of a section, one after another.
use Rattle.std.proofs.Common.{◌≡◌, ℕ, ◌+◌, ◌<◌, List, length, drop, get_or, ap, sym, ◌∙◌}
use Rattle.std.specs.List.{slice_get}
use Rattle.std.proofs.lemmas.List.{at_drop_more}
use Rattle.irx_reloc.specs.Relocating.{half_of, after_entry, after_section}
use Rattle.irx_reloc.specs.Walking.{IsNextLow}
use Rattle.irx_reloc.proofs.Halves.{find_next}

module _ (entries : List (ℕ × ℕ)) (base : ℕ) where
  pub section_after : (image : List ℕ) (k low half : ℕ) (entry : ℕ × ℕ) → k < length entries
      → entry ≡ get_or entries k (0, 0) → IsNextLow entries (k + 1) low
      → half ≡ half_of image (slice_get entries low)
      → after_section image (drop k entries) base ≡ after_section
      (after_entry image entry half base) (drop (k + 1) entries) base
  section_after image k low half entry lt e h same =
      at_drop_more (λ (xs : List (ℕ × ℕ)). after_section image xs base) entries k (0, 0) lt
      ∙ ap (λ (x : ℕ). after_section (after_entry image (get_or entries k (0, 0)) x base)
      (drop (k + 1) entries) base)
      (ap (half_of image) (find_next entries (k + 1) low h) ∙ sym same)
      ∙ ap (λ (x : ℕ × ℕ). after_section (after_entry image x half base) (drop (k + 1) entries)
      base) (sym e)
