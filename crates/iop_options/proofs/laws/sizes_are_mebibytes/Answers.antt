use Rattle.iop_options.proofs.SizeLemmas.{sizes_are_mebibytes}
use Rattle.iop_options.proofs.laws.sizes_are_mebibytes.Goals as goal

pub returns : goal.returns
returns c = sizes_are_mebibytes
