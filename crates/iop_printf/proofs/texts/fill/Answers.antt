use Rattle.std.proofs.Common.{◌≡◌, ◌++◌, replicate, ap, ◌∙◌, arith}
use Rattle.iop_printf.proofs.Cutting.{cut_fill}
use Rattle.iop_printf.proofs.texts.fill.Goals as goal

pub returns : goal.returns
returns c =
    let old = c.args.text.now.items in
    let all : c.loop.counter ≡ c.min-len.result = omega arith in
    c.loop.invariant ∙ ap (λ k. old ++ replicate k c.args.byte) all
    ∙ cut_fill 4096 c.remaining_capacity.result c.min-len.result c.args.count c.args.byte old
    c.remaining_capacity.ensures c.min-len.ensures
