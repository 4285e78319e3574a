-- Sections of which no entry breaks a rule.
use Rattle.std.proofs.Common.{◌≡◌, ℕ, zero, suc, ◌+◌, ◌%◌, ◌<◌, ◌≤◌, Bool, true, false, List, [], ◌∷◌, length, drop, get_or, nat_lt, nat_le, nat_eq, not, cond, Option, Some, None, is_some, option_map, refl, ap, sym, ◌∙◌, arith}
use Rattle.std.specs.List.{find}
use Rattle.std.specs.Option.{option_or}
use Rattle.std.proofs.lemmas.List.{at_drop_more}
use Rattle.std.proofs.lemmas.Bool.{leb-true, eqb-true, and_parts}
use Rattle.iop_base.specs.declared.illegal.Illegal.{Illegal}
use Rattle.irx_reloc.specs.declared.entry.Entry.{Entry}
use Rattle.irx_reloc.specs.declared.kind.Kind.{Kind}
use Rattle.irx_reloc.specs.Entries.{is_low}
use Rattle.irx_reloc.specs.Fitting.{is_site, broken_rule, section_misfit}
use Rattle.irx_reloc.specs.Walking.{pair_of, EntryFits, is_low_at, IsNextLow}
use Rattle.irx_reloc.specs.Kinds.{type_of}
use Rattle.irx_reloc.proofs.Halves.{has_next}

-- what an entry and those behind it say
abbrev pub misfit_from : ℕ → Option ℕ → Option Illegal → Option Illegal
misfit_from site rule later =
    option_or (option_map (λ (r : ℕ). record { rule = r; at = site }) rule) later

misfit_from-none : (site : ℕ) (rule : Option ℕ) (later : Option Illegal)
    → misfit_from site rule later ≡ None → (rule ≡ None) × (later ≡ None)
misfit_from-none site None later e = (refl, e)
misfit_from-none site (Some r) later e = absurd (cc)

module _ (size : ℕ) where
  -- an entry and those behind it
  pub section_from : (entries : List (ℕ × ℕ)) (count k low : ℕ) (entry : ℕ × ℕ) (rule : Option ℕ)
      → count ≡ length entries → k < count → entry ≡ get_or entries k (0, 0)
      → IsNextLow entries (k + 1) low → rule ≡ broken_rule size entry (nat_lt low count)
      → section_misfit size (drop k entries) ≡ misfit_from entry.0 rule
      (section_misfit size (drop (k + 1) entries))
  section_from entries count k low entry rule all lt e h broken =
      let inside : k < length entries = omega arith in
      at_drop_more (section_misfit size) entries k (0, 0) inside
      ∙ ap (λ (x : ℕ × ℕ). misfit_from x.0
      (broken_rule size x (is_some (find is_low (drop (k + 1) entries))))
      (section_misfit size (drop (k + 1) entries))) (sym e)
      ∙ ap (λ (has_low : Bool). misfit_from entry.0 (broken_rule size entry has_low)
      (section_misfit size (drop (k + 1) entries)))
      (has_next entries (k + 1) low h ∙ ap (nat_lt low) (sym all))
      ∙ ap (λ (r : Option ℕ). misfit_from entry.0 r (section_misfit size (drop (k + 1) entries)))
      (sym broken)

  pub entry_fits : (entries : List (ℕ × ℕ)) → section_misfit size entries ≡ None → (k : ℕ)
      → k < length entries → (has_low : Bool)
      × (broken_rule size (get_or entries k (0, 0)) has_low ≡ None)
  entry_fits [] e k lt = absurd (omega arith)
  entry_fits (entry ∷ later) e zero lt = (
    is_some (find is_low later),
    (misfit_from-none entry.0 (broken_rule size entry (is_some (find is_low later)))
        (section_misfit size later) e).0,
  )
  entry_fits (entry ∷ later) e (suc k) lt =
      entry_fits later (misfit_from-none entry.0
      (broken_rule size entry (is_some (find is_low later))) (section_misfit size later) e).1
      k (omega arith)

  site_or : (site : ℕ) (b : Bool) (rest : Option ℕ) → is_site size site ≡ b
      → cond (not b) (Some 13) rest ≡ None → site + 4 ≤ size
  site_or site true rest e f =
      leb-true (site + 4) size (and_parts (nat_eq (site % 4) 0) (nat_le (site + 4) size) e).1
  site_or site false rest e f = absurd (cc)

  -- the word at the site of an entry of another type than R_MIPS_NONE
  pub site_inside : (entry : ℕ × ℕ) (has_low : Bool) → broken_rule size entry has_low ≡ None
      → nat_eq entry.1 0 ≡ false → entry.0 + 4 ≤ size
  unfolding broken_rule
  site_inside entry has_low e other = site_or entry.0 (is_site size entry.0) _ refl (rw other at e)

  -- that of one whose kind is known
  pub kind_inside : (entry : Entry) (kind : Kind) → EntryFits size entry → entry.kind ≡ kind
      → nat_eq (type_of kind) 0 ≡ false → entry.site + 4 ≤ size
  kind_inside entry kind fits e other =
      site_inside (pair_of entry) fits.0 fits.1 (ap (λ (k : Kind). nat_eq (type_of k) 0) e ∙ other)

  -- that of a LO16 in a section that fits
  pub low_inside : (entries : List (ℕ × ℕ)) (low : ℕ) → section_misfit size entries ≡ None
      → low < length entries → is_low_at entries low ≡ true
      → (get_or entries low (0, 0)).0 + 4 ≤ size
  low_inside entries low e lt one =
      let fits = entry_fits entries e low lt in
      let number : (get_or entries low (0, 0)).1 ≡ 6 = eqb-true _ _ one in
      site_inside (get_or entries low (0, 0)) fits.0 fits.1 (ap (λ (n : ℕ). nat_eq n 0) number)

  -- an entry of a section that fits, for an image that has the length still
  pub entry_at_fits : (entries : List (ℕ × ℕ)) (now k : ℕ) (entry : Entry)
      → section_misfit size entries ≡ None → now ≡ size → k < length entries
      → pair_of entry ≡ get_or entries k (0, 0) → EntryFits now entry
  entry_at_fits entries now k entry e same lt read =
      let fits = entry_fits entries e k lt in (
        fits.0,
        ap (λ (n : ℕ). broken_rule n (pair_of entry) fits.0) same
            ∙ ap (λ (x : ℕ × ℕ). broken_rule size x fits.0) read ∙ fits.1,
      )
