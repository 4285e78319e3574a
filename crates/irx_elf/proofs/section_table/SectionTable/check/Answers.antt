use Rattle.std.proofs.Common.{◌≡◌, true, false, Some, List, map, ap, sym, ◌∙◌, rules}
use Rattle.irx_elf.specs.Headers.{section_number, is_relocations}
use Rattle.irx_elf.specs.Rules.{first_unmet, section_rules, has_entries, entries_rule}
use Rattle.irx_elf.specs.declared.section.Section.{Section}
use Rattle.irx_elf.proofs.Headers.{relocation_sections-are}
use Rattle.irx_elf.proofs.Meeting.{demand-ok, demand-err, tells-err, sections-in, entries-other, entries-good, entries-bad, entries-end}
use Rattle.irx_elf.proofs.section_table.SectionTable.check.Goals as goal
use Rattle.irx_elf.proofs.section_table.SectionTable.check.Goals.{then-is_relocations+in_ok-demand, else-is_relocations}

pub loop-number-init : goal.loop-number-init
loop-number-init c =
    let file = c.args.self.now.file.bytes.now in
    ap (λ (xs : List Section). first_unmet (map (entries_rule file) xs))
    (relocation_sections-are file c.count-number-end.result c.count-number-end.ensures)

pub returns-in_err-demand : goal.returns-in_err-demand
returns-in_err-demand c =
    let file = c.args.self.now.file.bytes.now in
    let i = c.loop-number.number in
    let n = c.count-number-end.result in
    let s = c.section-section.result in
    let same =
    sym (ap is_relocations c.section-section.ensures) ∙ sym c.is_relocations.ensures
    ∙ c.if-is_relocations.true in
    let refused =
    demand-err c.has_entries.result (record { rule = 12; at = s.at }) c.in_err-demand.field-0.0
    (sym c.in_err-demand.was ∙ c.demand.ensures) in
    let bad : has_entries file (section_number file i) ≡ false =
    sym (ap (has_entries file) c.section-section.ensures) ∙ sym c.has_entries.ensures ∙ refused.0 in
    let unmet :
    first_unmet (section_rules file) ≡ Some (record { rule = 12; at = (section_number file i).at }) =
    sections-in file c.args.self.now.inside ∙ sym c.loop-number.invariant
    ∙ entries-bad file i n c.loop-number-test.true same bad in
    tells-err (section_rules file) c.from_residual.result c.from_residual.ensures.0 (rw unmet (search rules))

pub loop-number-preserved : goal.loop-number-preserved
loop-number-preserved c =
    let file = c.args.self.now.file.bytes.now in
    let i = c.loop-number.number in
    let n = c.count-number-end.result in
    let s = c.section-section.result in
    elim c.if-is_relocations.branch [
      | then-is_relocations+in_ok-demand w ↦
          let same =
          sym (ap is_relocations c.section-section.ensures) ∙ sym c.is_relocations.ensures
          ∙ w.if-is_relocations.true in
          let met =
          demand-ok w.has_entries.result (record { rule = 12; at = s.at })
          (sym w.in_ok-demand.was ∙ w.demand.ensures) in
          let good : has_entries file (section_number file i) ≡ true =
          sym (ap (has_entries file) c.section-section.ensures) ∙ sym w.has_entries.ensures ∙ met in
          sym (entries-good file i n c.loop-number-test.true same good) ∙ c.loop-number.invariant
      | else-is_relocations w ↦
          let other =
          sym (ap is_relocations c.section-section.ensures) ∙ sym c.is_relocations.ensures
          ∙ w.if-is_relocations.false in
          sym (entries-other file i n c.loop-number-test.true other) ∙ c.loop-number.invariant
    ]

pub returns : goal.returns
returns c =
    let file = c.args.self.now.file.bytes.now in
    sections-in file c.args.self.now.inside ∙ sym c.loop-number.invariant
    ∙ entries-end file c.loop-number.number c.count-number-end.result c.loop-number-test.false
