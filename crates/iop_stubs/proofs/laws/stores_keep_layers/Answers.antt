use Rattle.iop_stubs.proofs.LayersLemmas.{store_keeps}
use Rattle.iop_stubs.proofs.laws.stores_keep_layers.Goals as goal

pub returns : goal.returns
returns c = λ memory place bytes h inside. store_keeps memory h place bytes inside
