use Rattle.std.proofs.Common.{subst, arith}
use Rattle.iop_sysmem.specs.BlockMap.{BlockMap, AreBlocks}
use Rattle.iop_sysmem.specs.Placing.{IsMostFree}
use Rattle.iop_sysmem.proofs.Walking.{moves, more_here, more_last, max_is, same_map}
use Rattle.iop_sysmem.proofs.MostFree.{most_free-is}
use Rattle.iop_sysmem.proofs.blocks.Blocks.max_free.Goals as goal

pub loop-next-preserved : goal.loop-next-preserved
loop-next-preserved c = (
  moves _ _ _ c.loop-next.invariant.0 c.loop-next-test.true,
  more_here _ _ _
      c.loop-next.invariant.0 _ c.loop-next.invariant.1 c.loop-next-test.true _
      (max_is _ _ _ c.max-most.ensures),
)

pub returns-clause-most : goal.returns-clause-most
returns-clause-most c =
    most_free-is c.args.self.now
    (subst AreBlocks c.self.view_is c.self.invariant.0) _
    (subst (λ (m : BlockMap). IsMostFree m c.max.result)
    (same_map _ _ _ _ c.deref-next-items.ensures.value c.self.view_is)
    (more_last _ _ _ c.loop-next.invariant.0 _ c.loop-next.invariant.1
    (omega (arith, c.loop-next-test.false)) c.max.result c.max.ensures))
