use Rattle.std.proofs.Common.{List, ℕ, ap, sym, ◌∙◌, rules}
use Rattle.irx_elf.specs.Rules.{first_unmet, segment_rules, section_rules}
use Rattle.irx_elf.specs.Parts.{parts_of}
use Rattle.irx_elf.proofs.Meeting.{unmet-header, unmet-segment, unmet-section}
use Rattle.irx_elf.proofs.irx.Irx.parse.Goals as goal

pub returns-in_err-irx_file-clause-parts : goal.returns-in_err-irx_file-clause-parts
returns-in_err-irx_file-clause-parts c =
    let e = unmet-header c.args.file.now c.in_err-irx_file.field-0.0
    c.in_err-irx_file.ensures.unmet in
    rw e (search rules)

pub returns-in_err-info-clause-parts : goal.returns-in_err-info-clause-parts
returns-in_err-info-clause-parts c =
    let same = ap (λ (file : List ℕ). first_unmet (segment_rules file))
    c.in_ok-irx_file.ensures.bytes in
    let unmet = sym same ∙ c.in_err-info.ensures.unmet in
    let e = unmet-segment c.args.file.now c.in_err-info.field-0.0 c.in_ok-irx_file.ensures.unmet
    unmet in
    rw e (search rules)

pub returns-in_err-relocations-clause-parts : goal.returns-in_err-relocations-clause-parts
returns-in_err-relocations-clause-parts c =
    let same = c.in_ok-irx_file.ensures.bytes in
    let segments =
    sym (ap (λ (file : List ℕ). first_unmet (segment_rules file)) same)
    ∙ c.in_ok-info.ensures.unmet in
    let sections =
    sym (ap (λ (file : List ℕ). first_unmet (section_rules file)) same)
    ∙ c.in_err-relocations.ensures.unmet in
    let e = unmet-section c.args.file.now c.in_ok-irx_file.ensures.unmet segments ∙ sections in
    rw e (search rules)

pub returns-clause-parts : goal.returns-clause-parts
returns-clause-parts c =
    let same = c.in_ok-irx_file.ensures.bytes in
    let segments =
    sym (ap (λ (file : List ℕ). first_unmet (segment_rules file)) same)
    ∙ c.in_ok-info.ensures.unmet in
    let sections =
    sym (ap (λ (file : List ℕ). first_unmet (section_rules file)) same)
    ∙ c.in_ok-relocations.ensures.unmet in
    let e = unmet-section c.args.file.now c.in_ok-irx_file.ensures.unmet segments ∙ sections in
    let parts = c.lend.ensures ∙ ap parts_of same in
    rw (e, parts) (search rules)
