use Rattle.std.proofs.Common.{◌∙◌}
use Rattle.irx_elf.proofs.Sound.{lists-all}
use Rattle.irx_elf.proofs.relocations.Relocations.lists.Goals as goal

pub returns : goal.returns
returns c = lists-all c.self.inside.table.file.bytes.now ∙ c.self.view_is
