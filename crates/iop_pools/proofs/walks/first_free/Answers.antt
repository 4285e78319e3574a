use Rattle.std.proofs.Common.{◌∙◌, sym, ap, arith}
use Rattle.iop_pools.specs.Walks.{first_gap}
use Rattle.iop_pools.proofs.RangesOf.{ahead-own, ahead-other, order-own, order-other, order-le, ahead-end, gap_here, gap_later, then_some-is}
use Rattle.iop_pools.proofs.walks.first_free.Goals as goal
use Rattle.iop_pools.proofs.walks.first_free.Goals.{then-out-id+else-len-out, else-out-id}

pub overflow_sub-out : goal.overflow_sub-out
overflow_sub-out c =
    (order-own c.args.id c.args.outs.now c.loop-out.out-index _ c.loop-out-test.true _ _
    c.loop-out.invariant.0 c.if-out-id.true).0

pub overflow_add-place : goal.overflow_add-place
overflow_add-place c =
    let order =
    order-own c.args.id c.args.outs.now c.loop-out.out-index _ c.loop-out-test.true _ _
    c.loop-out.invariant.0 c.if-out-id.true in
    omega (arith, order-le _ _ _ order.2, c.ranges.end)

pub returns-then-len-out : goal.returns-then-len-out
returns-then-len-out c =
    sym (gap_here _ _ _ _ _ c.if-len-out.true)
    ∙ ap (first_gap c.loop-out.place c.args.end c.args.len)
    (sym (ahead-own c.args.id c.args.outs.now c.loop-out.out-index _ c.loop-out-test.true
    c.if-out-id.true))
    ∙ c.loop-out.invariant.1

pub loop-out-preserved : goal.loop-out-preserved
loop-out-preserved c = elim c.if-out-id.branch [
  | then-out-id+else-len-out w ↦
      let order = order-own c.args.id c.args.outs.now c.loop-out.out-index _ c.loop-out-test.true
      _ _
      c.loop-out.invariant.0 w.if-out-id.true in
      rw w.place-is (
        order.2,
        sym (gap_later _ _ _ _ _ w.if-len-out.false)
            ∙ ap (first_gap c.loop-out.place c.args.end c.args.len)
            (sym (ahead-own c.args.id c.args.outs.now c.loop-out.out-index _ c.loop-out-test.true
            w.if-out-id.true))
            ∙ c.loop-out.invariant.1,
      )
  | else-out-id w ↦
      rw w.place-is (
        order-other c.args.id c.args.outs.now c.loop-out.out-index _
            c.loop-out-test.true _ _ c.loop-out.invariant.0 w.if-out-id.false,
        ap (first_gap c.loop-out.place c.args.end c.args.len)
            (sym (ahead-other c.args.id c.args.outs.now c.loop-out.out-index _ c.loop-out-test.true
            w.if-out-id.false))
            ∙ c.loop-out.invariant.1,
      )
]

pub overflow_sub-end : goal.overflow_sub-end
overflow_sub-end c = order-le _ _ _ c.loop-out.invariant.0

pub returns : goal.returns
returns c =
    c.then_some.ensures ∙ then_some-is _ _
    ∙ ap (first_gap c.loop-out.place c.args.end c.args.len)
    (sym (ahead-end c.args.id c.args.outs.now c.loop-out.out-index c.loop-out-test.false))
    ∙ c.loop-out.invariant.1
