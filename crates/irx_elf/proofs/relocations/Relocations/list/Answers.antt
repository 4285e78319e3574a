use Rattle.std.proofs.Common.{ℕ, [], List, get_or, ap, sym, ◌∙◌}
use Rattle.irx_elf.proofs.Sound.{entries-met, list-at, list-past}
use Rattle.irx_elf.proofs.relocations.Relocations.list.Goals as goal

pub list-requires : goal.list-requires
list-requires c =
    entries-met c.self.inside.table.file.bytes.now c.self.invariant c.args.k c.in-Some.section
    (sym c.in-Some.ensures)

pub returns-in-Some-clause-entries : goal.returns-in-Some-clause-entries
returns-in-Some-clause-entries c =
    let file = c.self.inside.table.file.bytes.now in
    c.list.ensures.entries ∙ sym (list-at file c.args.k c.in-Some.section (sym c.in-Some.ensures))
    ∙ ap (λ (lists : List (List ℕ)). get_or lists c.args.k []) c.self.view_is

pub returns-in-None-clause-entries : goal.returns-in-None-clause-entries
returns-in-None-clause-entries c =
    sym (list-past c.self.inside.table.file.bytes.now c.args.k (sym c.in-None.ensures))
    ∙ ap (λ (lists : List (List ℕ)). get_or lists c.args.k []) c.self.view_is
