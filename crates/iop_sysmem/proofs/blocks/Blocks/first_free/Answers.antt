use Rattle.std.proofs.Common.{subst, arith}
use Rattle.iop_sysmem.specs.BlockMap.{BlockMap}
use Rattle.iop_sysmem.specs.Placing.{IsLeastFree}
use Rattle.iop_sysmem.proofs.Walking.{moves, past, least, end_is_short, same_map}
use Rattle.iop_sysmem.proofs.blocks.Blocks.first_free.Goals as goal

pub returns-then-len-next : goal.returns-then-len-next
returns-then-len-next c =
    subst (λ (m : BlockMap). IsLeastFree m c.args.len c.loop-next.start)
    (same_map _ _ _ _ c.deref-next-items.ensures.value c.self.view_is)
    (least _ _ _ c.loop-next.invariant.0 _ c.loop-next-test.true c.if-len-next.true
    c.loop-next.invariant.1)

pub overflow_add-start : goal.overflow_add-start
overflow_add-start c =
    let h = end_is_short _ _ _ c.loop-next.invariant.0 c.args.len c.loop-next-test.true in
    let b = c.self.invariant.1 in omega arith

pub loop-next-preserved : goal.loop-next-preserved
loop-next-preserved c = (
  moves _ _ _ c.loop-next.invariant.0 c.loop-next-test.true,
  past _ _ _ c.loop-next.invariant.0 _
      c.loop-next-test.true (omega arith) c.loop-next.invariant.1,
)
