use Rattle.std.proofs.Common.{ℕ, List, length, ap, sym, ◌∙◌}
use Rattle.irx_elf.proofs.Sound.{length-lists}
use Rattle.irx_elf.proofs.relocations.Relocations.sections.Goals as goal

pub returns : goal.returns
returns c =
    c.count_relocations.ensures ∙ sym (length-lists c.self.inside.table.file.bytes.now)
    ∙ ap (λ (lists : List (List ℕ)). length lists) c.self.view_is
