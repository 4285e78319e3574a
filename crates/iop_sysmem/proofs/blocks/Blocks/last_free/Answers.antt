use Rattle.std.proofs.Common.{subst, sym, arith, ℕ, Option}
use Rattle.iop_sysmem.specs.BlockMap.{BlockMap, block_of, end_of}
use Rattle.iop_sysmem.proofs.Walking.{moves, greatest_here, passed_short, IsGreatestBefore}
use Rattle.iop_sysmem.proofs.blocks.Blocks.last_free.Goals.{then-len-next, else-len-next}
use Rattle.iop_sysmem.proofs.blocks.Blocks.last_free.Goals as goal

pub loop-next-preserved : goal.loop-next-preserved
loop-next-preserved c =
    let m : BlockMap = record { size = c.self.inside.size; used = c.deref-next-items.result.now } in
    let best : Option ℕ → Type 0 =
    λ o. IsGreatestBefore m c.args.len (end_of (block_of m c.loop-next.next-index)) o in (
      moves _ _ _ c.loop-next.invariant.0 c.loop-next-test.true,
      elim c.if-len-next.branch [
        | then-len-next w ↦
            subst best (sym w.last-is) (greatest_here m _ _ c.loop-next.invariant.0 _
            c.loop-next.last c.requires c.loop-next-test.true w.if-len-next.true)
        | else-len-next w ↦
            subst best (sym w.last-is) (passed_short m _ _ c.loop-next.invariant.0 _
            c.loop-next.last c.loop-next.invariant.1 (omega (arith, w.if-len-next.false))
            c.loop-next-test.true)
      ],
    )
