-- What the parts of a file give: the module or its refusal, and the image.
use Rattle.std.proofs.Common.{◌≡◌, ℕ, ◌-◌, Bool, true, false, cond, List, [], ◌∷◌, ◌++◌, length, replicate, Option, Some, None, is_some, refl, ap, sym, ◌∙◌, subst}
use Rattle.std.specs.Prelude.{Result, Ok, Err, if◌then◌else◌}
use Rattle.iop_base.specs.declared.code.Code.{Code}
use Rattle.iop_base.specs.declared.code.TheConstants.Code.{ILLEGAL_OBJECT}
use Rattle.iop_base.specs.declared.illegal.Illegal.{Illegal}
use Rattle.irx_elf.specs.Parts.{Parts, parts_of, parts_or_rule, IsSound}
use Rattle.irx_elf.specs.Rules.{Rule, first_unmet, unmet_rule, header_rules, segment_rules, section_rules, ok_unless}
use Rattle.irx_elf.proofs.Sound.{parts-sound}
use Rattle.irx_reloc.specs.Entries.{all_entries}
use Rattle.irx_reloc.specs.Fitting.{misfit}
use Rattle.irx_reloc.specs.Relocating.{relocated_image}
use Rattle.iop_modload.specs.Modules.{image_at, module_of_parts, module_of_file}

module _ (parts : Parts) (size : ℕ) (lists : List (List ℕ)) (long : size ≡ parts.length)
    (same : lists ≡ parts.lists) where
  -- by the first entry that does not fit
  pub module_of_parts-entries : (entry : Option Illegal) → misfit size (all_entries lists) ≡ entry
      → (if is_some entry then Err ILLEGAL_OBJECT else Ok parts) ≡ module_of_parts (Ok parts)
  module_of_parts-entries entry e =
      ap (λ (o : Option Illegal). let r : Result Parts Code =
      if is_some o then Err ILLEGAL_OBJECT else Ok parts in r)
      (sym e ∙ ap (λ (n : ℕ). misfit n (all_entries lists)) long
      ∙ ap (λ (l : List (List ℕ)). misfit parts.length (all_entries l)) same)

-- bytes of the image's length, filled and relocated
pub image_at-filled : (parts : Parts) (base size : ℕ) (bytes : List ℕ)
    → size ≡ parts.length → bytes ≡ parts.image
    → relocated_image (bytes ++ replicate (size - length bytes) 0) (all_entries parts.lists) base
    ≡ image_at parts base
unfolding image_at
image_at-filled parts base size bytes long same =
    ap (λ (x : List ℕ). relocated_image x (all_entries parts.lists) base)
    (ap (λ (n : ℕ). bytes ++ replicate (n - length bytes) 0) long
    ∙ ap (λ (b : List ℕ). b ++ replicate (parts.length - length b) 0) same)

-- rules in two parts, of which none is unmet
met_by : (b : Bool) (e : Illegal) (first both : Option Illegal) (second : List Rule)
    → (both ≡ None → (first ≡ None) × (first_unmet second ≡ None)) → cond b both (Some e) ≡ None
    → (cond b first (Some e) ≡ None) × (first_unmet second ≡ None)
met_by true e first both second rest h = rest h
met_by false e first both second rest h = absurd (cc)

met_both : (first second : List Rule) → first_unmet (first ++ second) ≡ None
    → (first_unmet first ≡ None) × (first_unmet second ≡ None)
met_both [] second e = (refl, e)
met_both (rule ∷ first) second e =
    met_by rule.is_met (record { rule = rule.number; at = rule.at }) (first_unmet first)
    (first_unmet (first ++ second)) second (met_both first second) e

parts_met : (o : Option Illegal) (all parts : Parts) → ok_unless o all ≡ Ok parts
    → (o ≡ None) × (parts ≡ all)
parts_met None all parts e = (refl, cc)
parts_met (Some illegal) all parts e = absurd (cc)

-- the parts of a file are sound
sound_parts : (file : List ℕ) (parts : Parts) → parts_or_rule file ≡ Ok parts → IsSound parts
sound_parts file parts e =
    let met = parts_met (unmet_rule file) (parts_of file) parts e in
    let two = met_both (header_rules file ++ segment_rules file) (section_rules file) met.0 in
    let one = met_both (header_rules file) (segment_rules file) two.0 in
    parts-sound file one.1 two.1 parts met.1

-- the parts of a module that can be loaded
pub record IsModule (parts : Parts) : Type 0 where
  pub sound : IsSound parts
  pub fits : misfit parts.length (all_entries parts.lists) ≡ None

fits_by : (o : Option Illegal) (parts given : Parts)
    → (if is_some o then Err ILLEGAL_OBJECT else Ok parts) ≡ Ok given
    → (o ≡ None) × (parts ≡ given)
fits_by None parts given e = (refl, cc)
fits_by (Some illegal) parts given e = absurd (cc)

module_by : (r : Result Parts Illegal) (file : List ℕ) (given : Parts) → parts_or_rule file ≡ r
    → module_of_parts r ≡ Ok given → IsModule given
module_by (Err illegal) file given read e = absurd (cc)
module_by (Ok parts) file given read e =
    let fits = fits_by (misfit parts.length (all_entries parts.lists)) parts given e in
    subst IsModule fits.1 (record { sound = sound_parts file parts read; fits = fits.0 })

pub is_module : (file : List ℕ) (parts : Parts) → module_of_file file ≡ Ok parts → IsModule parts
unfolding module_of_file
is_module file parts e = module_by (parts_or_rule file) file parts refl e
