use Rattle.std.proofs.Common.{◌≡◌, ◌∙◌, sym, ap, arith, max, []}
use Rattle.iop_pools.specs.Ranges.{gaps, greatest}
use Rattle.iop_pools.specs.Standing.{ranges_of}
use Rattle.iop_pools.proofs.RangesOf.{ahead-own, ahead-other, order-own, order-other, order-le, ahead-end, greatest_more, max_is}
use Rattle.iop_pools.proofs.walks.greatest_free.Goals as goal
use Rattle.iop_pools.proofs.walks.greatest_free.Goals.{then-out-id, else-out-id}

pub overflow_sub-out : goal.overflow_sub-out
overflow_sub-out c =
    (order-own c.args.id c.args.outs.now c.loop-out.out-index _ c.loop-out-test.true _ _
    c.loop-out.invariant.0 c.if-out-id.true).0

pub overflow_add-place : goal.overflow_add-place
overflow_add-place c =
    let order =
    order-own c.args.id c.args.outs.now c.loop-out.out-index _ c.loop-out-test.true _ _
    c.loop-out.invariant.0 c.if-out-id.true in
    omega (arith, order-le _ _ _ order.2, c.ranges.end)

pub loop-out-preserved : goal.loop-out-preserved
loop-out-preserved c = elim c.if-out-id.branch [
  | then-out-id w ↦
      let order = order-own c.args.id c.args.outs.now c.loop-out.out-index _ c.loop-out-test.true
      _ _
      c.loop-out.invariant.0 w.if-out-id.true in
      rw (w.place-is, w.most-is) (
        order.2,
        greatest_more c.loop-out.most c.loop-out.place c.args.end _ _ _ _
            (ap (λ rs. max c.loop-out.most (greatest (gaps c.loop-out.place c.args.end rs)))
            (sym (ahead-own c.args.id c.args.outs.now c.loop-out.out-index _ c.loop-out-test.true
            w.if-out-id.true))
            ∙ c.loop-out.invariant.1) (max_is _ _ _ w.max-most.ensures),
      )
  | else-out-id w ↦
      rw (w.place-is, w.most-is) (
        order-other c.args.id c.args.outs.now c.loop-out.out-index _
            c.loop-out-test.true _ _ c.loop-out.invariant.0 w.if-out-id.false,
        ap (λ rs. max c.loop-out.most (greatest (gaps c.loop-out.place c.args.end rs)))
            (sym (ahead-other c.args.id c.args.outs.now c.loop-out.out-index _ c.loop-out-test.true
            w.if-out-id.false))
            ∙ c.loop-out.invariant.1,
      )
]

pub overflow_sub-end : goal.overflow_sub-end
overflow_sub-end c = order-le _ _ _ c.loop-out.invariant.0

pub returns : goal.returns
returns c =
    let is : max c.loop-out.most (greatest (gaps c.loop-out.place c.args.end []))
    ≡ greatest (gaps c.args.from c.args.end (ranges_of c.args.id c.args.outs.now)) =
    ap (λ rs. max c.loop-out.most (greatest (gaps c.loop-out.place c.args.end rs)))
    (sym (ahead-end c.args.id c.args.outs.now c.loop-out.out-index c.loop-out-test.false))
    ∙ c.loop-out.invariant.1 in
    omega (arith, is, c.max.ensures)
