use Rattle.iop_linker.proofs.Living.{all_live}
use Rattle.iop_linker.proofs.laws.linked_stubs_are_live.Goals as goal

pub returns : goal.returns
returns c = all_live
