use Rattle.iop_pools.proofs.UnitBlocks.{blocks_are_units}
use Rattle.iop_pools.proofs.laws.blocks_are_units.Goals as goal

pub returns : goal.returns
returns c = blocks_are_units
