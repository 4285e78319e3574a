use Rattle.std.proofs.Common.{◌+◌, ◌∙◌, sym, ap, arith}
use Rattle.iop_pools.specs.Ranges.{gaps, total}
use Rattle.iop_pools.proofs.RangesOf.{here, ahead, ahead-own, ahead-other, order-own, order-other, order-le, ahead-end, total_more, total_last}
use Rattle.iop_pools.proofs.walks.total_free.Goals as goal
use Rattle.iop_pools.proofs.walks.total_free.Goals.{then-out-id, else-out-id}

pub overflow_sub-free : goal.overflow_sub-free
overflow_sub-free c =
    (order-own c.args.id c.args.outs.now c.loop-out.out-index _ c.loop-out-test.true _ _
    c.loop-out.invariant.0 c.if-out-id.true).0

pub overflow_add-free : goal.overflow_add-free
overflow_add-free c =
    let order =
    order-own c.args.id c.args.outs.now c.loop-out.out-index _ c.loop-out-test.true _ _
    c.loop-out.invariant.0 c.if-out-id.true in
    omega (arith, order.0, order-le _ _ _ order.2, c.ranges.end, c.loop-out.invariant.1)

pub overflow_add-place : goal.overflow_add-place
overflow_add-place c =
    let order =
    order-own c.args.id c.args.outs.now c.loop-out.out-index _ c.loop-out-test.true _ _
    c.loop-out.invariant.0 c.if-out-id.true in
    omega (arith, order-le _ _ _ order.2, c.ranges.end)

pub loop-out-preserved : goal.loop-out-preserved
loop-out-preserved c = elim c.if-out-id.branch [
  | then-out-id w ↦
      let order = order-own c.args.id c.args.outs.now c.loop-out.out-index _ c.loop-out-test.true
      _ _
      c.loop-out.invariant.0 w.if-out-id.true in
      rw (w.place-is, w.free-is) (
        order.2,
        omega (arith, order.0, order.1, c.loop-out.invariant.1),
        total_more c.loop-out.free c.loop-out.place c.args.end (here c.args.id c.args.outs.now
            c.loop-out.out-index _ c.loop-out-test.true)
            (ahead c.args.id c.args.outs.now (c.loop-out.out-index + 1)) _
            (ap (λ rs. c.loop-out.free + total (gaps c.loop-out.place c.args.end rs))
            (sym (ahead-own c.args.id c.args.outs.now c.loop-out.out-index _ c.loop-out-test.true
            w.if-out-id.true))
            ∙ c.loop-out.invariant.2),
      )
  | else-out-id w ↦
      rw (w.place-is, w.free-is) (
        order-other c.args.id c.args.outs.now c.loop-out.out-index _
            c.loop-out-test.true _ _ c.loop-out.invariant.0 w.if-out-id.false,
        c.loop-out.invariant.1,
        ap (λ rs. c.loop-out.free + total (gaps c.loop-out.place c.args.end rs))
            (sym (ahead-other c.args.id c.args.outs.now c.loop-out.out-index _ c.loop-out-test.true
            w.if-out-id.false))
            ∙ c.loop-out.invariant.2,
      )
]

pub overflow_add-result : goal.overflow_add-result
overflow_add-result c =
    omega (arith, order-le _ _ _ c.loop-out.invariant.0, c.ranges.end, c.loop-out.invariant.1)

pub returns : goal.returns
returns c =
    total_last _ _ _ _
    (ap (λ rs. c.loop-out.free + total (gaps c.loop-out.place c.args.end rs))
    (sym (ahead-end c.args.id c.args.outs.now c.loop-out.out-index c.loop-out-test.false))
    ∙ c.loop-out.invariant.2)
