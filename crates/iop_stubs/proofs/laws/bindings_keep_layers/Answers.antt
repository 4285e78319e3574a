use Rattle.iop_stubs.proofs.LayersLemmas.{bind_keeps}
use Rattle.iop_stubs.proofs.laws.bindings_keep_layers.Goals as goal

pub returns : goal.returns
returns c = λ memory stub h may. bind_keeps memory h.sound stub h.bytes may
