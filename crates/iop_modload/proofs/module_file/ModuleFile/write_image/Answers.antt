use Rattle.std.proofs.Common.{ℕ, List, ap, sym, ◌∙◌}
use Rattle.irx_elf.specs.Parts.{Parts}
use Rattle.irx_reloc.specs.Entries.{all_entries}
use Rattle.irx_reloc.specs.Relocating.{relocated_image}
use Rattle.iop_modload.specs.Modules.{image_at}
use Rattle.iop_modload.proofs.Reading.{image_at-filled}
use Rattle.iop_modload.proofs.module_file.ModuleFile.write_image.Goals as goal

pub returns : goal.returns
returns c =
    let parts = c.self.inside.irx in
    c.relocate.ensures
    ∙ ap (λ checked. relocated_image c.fill_up.new.memory checked.sections c.args.base)
    c.self.invariant
    ∙ ap (λ (x : List ℕ). relocated_image x (all_entries parts.lists) c.args.base) c.fill_up.ensures
    ∙ image_at-filled parts c.args.base _ _
    (c.requires ∙ ap (λ (p : Parts). p.length) (sym c.self.view_is)) c.image.ensures.bytes
    ∙ ap (λ (p : Parts). image_at p c.args.base) c.self.view_is
