-- The first rule that is not met.
use Rattle.std.proofs.Common.{◌≡◌, ℕ, ◌+◌, ◌<◌, ◌≤◌, Bool, true, false, cond, Option, Some, None, Result, Ok, Err, List, [], ◌∷◌, ◌++◌, map, filter, ap, ◌∙◌, refl}
use Rattle.std.specs.Prelude.{IsErr, IfErr}
use Rattle.iop_base.specs.declared.illegal.Illegal.{Illegal}
use Rattle.irx_elf.specs.Headers.{file_header, section_number, is_relocations, relocation_sections}
use Rattle.irx_elf.specs.Rules.{Rule, first_unmet, TellsUnmet, header_rules, segment_rules, section_rules, has_sections, has_entries, entries_rule, unmet_rule}
use Rattle.irx_elf.proofs.Rows.{row, filter-here, filter-later, filter-end}

-- what a demand says
pub demand-ok : (b : Bool) (e : Illegal)
    → ◌≡◌ {A = Result (Unit {0}) Illegal} (Ok tt) (cond b (Ok tt) (Err e)) → b ≡ true
demand-ok true e h = refl
demand-ok false e h = cc

pub demand-err : (b : Bool) (e f : Illegal)
    → ◌≡◌ {A = Result (Unit {0}) Illegal} (Err f) (cond b (Ok tt) (Err e)) → (b ≡ false) × (f ≡ e)
demand-err true e f h = absurd (cc)
demand-err false e f h = (refl, cc)

-- an answer that is `Err`
pub tells-err : {A : Type 0} (rules : List Rule) (answer : Result A Illegal) → IsErr answer
    → IfErr answer (λ illegal. first_unmet rules ≡ Some illegal) → TellsUnmet rules answer
tells-err rules (Ok x) is told = absurd (cc)
tells-err rules (Err illegal) is told = told

module _ (rest : List Rule) where
  append-unmet : (rule : Rule) (rules : List Rule) (illegal : Illegal) (met : Bool)
      → cond met (first_unmet rules) (Some (record { rule = rule.number; at = rule.at }))
      ≡ Some illegal
      → (first_unmet rules ≡ Some illegal → first_unmet (rules ++ rest) ≡ Some illegal)
      → cond met (first_unmet (rules ++ rest))
      (Some (record { rule = rule.number; at = rule.at })) ≡ Some illegal
  append-unmet rule rules illegal true h behind = behind h
  append-unmet rule rules illegal false h behind = h

  append-met : (rule : Rule) (rules : List Rule) (met : Bool)
      → cond met (first_unmet rules) (Some (record { rule = rule.number; at = rule.at })) ≡ None
      → (first_unmet rules ≡ None → first_unmet (rules ++ rest) ≡ first_unmet rest)
      → cond met (first_unmet (rules ++ rest))
      (Some (record { rule = rule.number; at = rule.at })) ≡ first_unmet rest
  append-met rule rules true h behind = behind h
  append-met rule rules false h behind = absurd (cc)

  -- a rule before the others decides, and where all are met the others do
  pub first_unmet-append : (rules : List Rule) (illegal : Illegal)
      → first_unmet rules ≡ Some illegal → first_unmet (rules ++ rest) ≡ Some illegal
  first_unmet-append [] illegal h = absurd (cc)
  first_unmet-append (rule ∷ rules) illegal h =
      append-unmet rule rules illegal rule.is_met h (first_unmet-append rules illegal)

  pub first_unmet-append_met : (rules : List Rule) → first_unmet rules ≡ None
      → first_unmet (rules ++ rest) ≡ first_unmet rest
  first_unmet-append_met [] h = refl
  first_unmet-append_met (rule ∷ rules) h =
      append-met rule rules rule.is_met h (first_unmet-append_met rules)

module _ (file : List ℕ) where
  pub unmet-header : (illegal : Illegal) → first_unmet (header_rules file) ≡ Some illegal
      → unmet_rule file ≡ Some illegal
  unmet-header illegal h =
      first_unmet-append (section_rules file) (header_rules file ++ segment_rules file) illegal
      (first_unmet-append (segment_rules file) (header_rules file) illegal h)

  pub unmet-segment : (illegal : Illegal) → first_unmet (header_rules file) ≡ None
      → first_unmet (segment_rules file) ≡ Some illegal → unmet_rule file ≡ Some illegal
  unmet-segment illegal header h =
      first_unmet-append (section_rules file) (header_rules file ++ segment_rules file) illegal
      (first_unmet-append_met (segment_rules file) (header_rules file) header ∙ h)

  pub unmet-section : first_unmet (header_rules file) ≡ None
      → first_unmet (segment_rules file) ≡ None → unmet_rule file ≡ first_unmet (section_rules file)
  unmet-section header segment =
      first_unmet-append_met (section_rules file) (header_rules file ++ segment_rules file)
      (first_unmet-append_met (segment_rules file) (header_rules file) header ∙ segment)

  -- where the section headers are good
  pub sections-in : has_sections file (file_header file) ≡ true
      → first_unmet (section_rules file)
      ≡ first_unmet (map (entries_rule file) (relocation_sections file))
  unfolding section_rules
  sections-in h =
      ap (λ b. cond b (first_unmet (map (entries_rule file) (relocation_sections file)))
      (Some (record { rule = 11; at = 46 }))) h

  -- rule 12 of what is left of a row
  abbrev pub entries_unmet : ℕ → ℕ → Option Illegal
  entries_unmet i n =
      first_unmet (map (entries_rule file) (filter is_relocations (row (section_number file) i n)))

  pub entries-other : (i n : ℕ) → i < n → is_relocations (section_number file i) ≡ false
      → entries_unmet i n ≡ entries_unmet (i + 1) n
  entries-other i n below other =
      ap (λ xs. first_unmet (map (entries_rule file) xs))
      (filter-later is_relocations (section_number file) i n below other)

  entries-here : (i n : ℕ) → i < n → is_relocations (section_number file i) ≡ true
      → entries_unmet i n ≡ cond (has_entries file (section_number file i))
      (entries_unmet (i + 1) n) (Some (record { rule = 12; at = (section_number file i).at }))
  entries-here i n below same =
      ap (λ xs. first_unmet (map (entries_rule file) xs))
      (filter-here is_relocations (section_number file) i n below same)

  pub entries-good : (i n : ℕ) → i < n → is_relocations (section_number file i) ≡ true
      → has_entries file (section_number file i) ≡ true
      → entries_unmet i n ≡ entries_unmet (i + 1) n
  entries-good i n below same good =
      entries-here i n below same
      ∙ ap (λ b. cond b (entries_unmet (i + 1) n)
      (Some (record { rule = 12; at = (section_number file i).at }))) good

  pub entries-bad : (i n : ℕ) → i < n → is_relocations (section_number file i) ≡ true
      → has_entries file (section_number file i) ≡ false
      → entries_unmet i n ≡ Some (record { rule = 12; at = (section_number file i).at })
  entries-bad i n below same bad =
      entries-here i n below same
      ∙ ap (λ b. cond b (entries_unmet (i + 1) n)
      (Some (record { rule = 12; at = (section_number file i).at }))) bad

  pub entries-end : (i n : ℕ) → n ≤ i → entries_unmet i n ≡ None
  entries-end i n over =
      ap (λ xs. first_unmet (map (entries_rule file) xs))
      (filter-end is_relocations (section_number file) i n over)
