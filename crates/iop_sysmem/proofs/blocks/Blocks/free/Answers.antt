use Rattle.std.proofs.Common.{◌<◌, length, sym, subst, arith, rules, List}
use Rattle.iop_sysmem.specs.BlockMap.{BlockMap, AreBlocks}
use Rattle.iop_sysmem.specs.declared.block.Block.{Block}
use Rattle.iop_sysmem.proofs.Keeping.{without_block-blocks}
use Rattle.iop_sysmem.proofs.blocks.Blocks.free.Goals as goal

abbrev with_used : goal.After-remove → List Block → BlockMap
with_used c used = record { size = c.self.inside.size; used = used }

blocks : (c : goal.After-remove) → AreBlocks (with_used c c.remove.new.self.items)
blocks c =
    let old : BlockMap = with_used c c.self.inside.used.items in
    let some : 0 < c.in-Some-index_of.index = search rules in
    let in_list : c.in-Some-index_of.index < length old.used = search rules in
    subst (λ (used : List Block). AreBlocks (with_used c used)) (sym c.remove.ensures.items)
    (without_block-blocks old c.self.invariant.0 _ some in_list)

pub invariant_of-self : goal.invariant_of-self
invariant_of-self c = (
  blocks c,
  c.self.invariant.1,
  omega (arith, c.self.invariant.2, c.remove.ensures.capacity),
)

pub returns-in-Some-index_of-clause-blocks : goal.returns-in-Some-index_of-clause-blocks
returns-in-Some-index_of-clause-blocks c = blocks c
