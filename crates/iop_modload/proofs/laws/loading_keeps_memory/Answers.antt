use Rattle.iop_modload.proofs.LoadingLemmas.{loading_keeps}
use Rattle.iop_modload.proofs.laws.loading_keeps_memory.Goals as goal

pub returns : goal.returns
returns c = λ t memory blocks libraries file h. loading_keeps t memory blocks libraries h file
