use Rattle.std.proofs.Common.{◌+◌, ◌∷◌, List, ℕ, ap, sym, ◌∙◌}
use Rattle.irx_elf.specs.Headers.{is_relocations}
use Rattle.irx_elf.specs.Rules.{has_entries}
use Rattle.irx_elf.specs.Parts.{list_of, lists_from}
use Rattle.irx_elf.proofs.Sound.{entry-met, lists-here, lists-later, lists-end}
use Rattle.irx_elf.proofs.relocations.Lists.next.Goals as goal

pub list-requires : goal.list-requires
list-requires c =
    let file = c.self.inside.table.file.bytes.now in
    let same =
    sym (ap is_relocations c.section-section.ensures) ∙ sym c.is_relocations.ensures
    ∙ c.if-is_relocations.true in
    ap (has_entries file) c.section-section.ensures
    ∙ entry-met file c.self.invariant c.loop-self.self-inside.number c.count.result
    c.count.ensures c.loop-self-test.true same

pub returns-then-is_relocations-clause-next : goal.returns-then-is_relocations-clause-next
returns-then-is_relocations-clause-next c =
    let file = c.self.inside.table.file.bytes.now in
    let i = c.loop-self.self-inside.number in
    let same =
    sym (ap is_relocations c.section-section.ensures) ∙ sym c.is_relocations.ensures
    ∙ c.if-is_relocations.true in
    sym (c.loop-self.invariant.left ∙ c.self.view_is)
    ∙ lists-here file i c.count.result c.count.ensures c.loop-self-test.true same
    ∙ ap (λ (list : List ℕ). list ∷ lists_from file (i + 1))
    (sym (c.list.ensures.entries ∙ ap (list_of file) c.section-section.ensures))
    ∙ ap (λ (bytes : List ℕ). c.list.result.now ∷ lists_from bytes (i + 1))
    (sym c.loop-self.invariant.same)

pub loop-self-preserved : goal.loop-self-preserved
loop-self-preserved c =
    let file = c.self.inside.table.file.bytes.now in
    let i = c.loop-self.self-inside.number in
    let other =
    sym (ap is_relocations c.section-section.ensures) ∙ sym c.is_relocations.ensures
    ∙ c.if-is_relocations.false in
    record {
      same = c.loop-self.invariant.same;
      left =
          sym (lists-later file i c.count.result c.count.ensures c.loop-self-test.true other)
          ∙ c.loop-self.invariant.left;
    }

pub returns-clause-next : goal.returns-clause-next
returns-clause-next c =
    let i = c.loop-self.self-inside.number in
    let none = lists-end c.self.inside.table.file.bytes.now i c.count.result c.count.ensures
    c.loop-self-test.false in (
      sym (c.loop-self.invariant.left ∙ c.self.view_is) ∙ none,
      ap (λ (bytes : List ℕ). lists_from bytes i) c.loop-self.invariant.same ∙ none,
    )
