use Rattle.std.proofs.Common.{◌≡◌, Ok, ap, sym, ◌∙◌, arith}
use Rattle.iop_asm.specs.Assembly.{assembled}
use Rattle.iop_generator.proofs.Units.{unit, assembled-source, refusal-made, length-file_of-made}
use Rattle.iop_generator.proofs.generating.assemble_source.Goals as goal

pub unreachable-requires : goal.unreachable-requires
unreachable-requires c =
    let n = c.args.workers in
    let text = c.as_str.ensures.value ∙ c.in_ok-text.ensures in
    let fits : assembled c.as_str.result.now ≡ Ok (unit n) =
    ap assembled text ∙ assembled-source n c.requires.any c.requires.countable in
    let bad = rw c.in-Err-Line.field-0-is at c.in-Err-Line.ensures in
    cc

pub returns-in-Ok-clause-accepted : goal.returns-in-Ok-clause-accepted
returns-in-Ok-clause-accepted c =
    let text = c.as_str.ensures.value ∙ c.in_ok-text.ensures in
    refusal-made c.args.workers c.requires.any c.requires.countable c.in-Ok.unit
    (ap assembled (sym text) ∙ c.in-Ok.ensures)

pub returns-in-Ok-clause-short : goal.returns-in-Ok-clause-short
returns-in-Ok-clause-short c =
    let text = c.as_str.ensures.value ∙ c.in_ok-text.ensures in
    let long =
    length-file_of-made c.args.workers c.requires.any c.requires.countable c.in-Ok.unit
    (ap assembled (sym text) ∙ c.in-Ok.ensures) in
    omega arith
