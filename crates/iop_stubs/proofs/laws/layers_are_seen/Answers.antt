use Rattle.iop_stubs.proofs.LayersLemmas.{layers_are_seen}
use Rattle.iop_stubs.proofs.laws.layers_are_seen.Goals as goal

pub returns : goal.returns
returns c = layers_are_seen
