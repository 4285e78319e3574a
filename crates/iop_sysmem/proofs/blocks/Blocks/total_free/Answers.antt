use Rattle.std.proofs.Common.{arith}
use Rattle.iop_sysmem.proofs.Walking.{moves, used_to}
use Rattle.iop_sysmem.proofs.blocks.Blocks.total_free.Goals as goal

pub loop-next-preserved : goal.loop-next-preserved
loop-next-preserved c =
    let i = c.loop-next.next-index in
    let walk = c.loop-next.invariant.0 in
    let here = c.loop-next-test.true in
    let before = walk.before i (omega arith) here in
    let more = used_to c.deref-next-items.result.now i here in
    (moves _ _ _ walk here, omega (arith, c.loop-next.invariant.1))
