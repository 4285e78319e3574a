use Rattle.std.proofs.Common.{◌≡◌, ℕ, List, ◌+◌, ◌++◌, length, take, ◌∙◌, ap, sym, arith}
use Rattle.std.proofs.lemmas.Bool.Decides.{nat_tests}
use Rattle.std.proofs.lemmas.List.{nil_from_length, take_rest, length-take, length-drop}
use Rattle.iop_printf.specs.Formatting.{part_at, text_from}
use Rattle.iop_printf.proofs.Cutting.{cut_full, cut_whole}
use Rattle.iop_printf.proofs.Parts.{part_more}
use Rattle.iop_printf.proofs.formatting.append_format.Goals as goal

pub returns-then-is_full : goal.returns-then-is_full
returns-then-is_full c =
    let items = c.loop-byte.text.items in
    let full : length items ≡ 4096 = grind (arith, nat_tests, c.if-is_full.ensures.value) in
    cut_full 4096 items _ full ∙ c.loop-byte.invariant.text

pub loop-byte-preserved : goal.loop-byte-preserved
loop-byte-preserved c =
    let ram = c.args.ram.now in
    let arguments = c.args.arguments.now in
    let items = c.loop-byte.text.items in
    let taken = c.loop-byte.taken in
    let count = c.append_part-len.result.1 in
    let len = c.append_part-len.result.0 in
    let rest = c.in-Some.rest.now in
    let text = c.append_part-len.new.text.items in
    let byte = c.in-Some.byte.now in
    let all = take_rest rest len in
    let split = c.in-Some.ensures.cases in record {
      text = ap (λ t. take 4096 (text ++ text_from ram arguments (taken + count) 0 t)) all
          ∙ part_more ram arguments 4096 taken byte len count rest items text
          c.append_part-len.ensures.text c.append_part-len.ensures.len
          c.append_part-len.ensures.arguments
          ∙ ap (λ t. take 4096 (items ++ text_from ram arguments taken 0 t)) (sym split.0)
          ∙ c.loop-byte.invariant.text;
      short = omega (
        arith,
        ap (λ (t : List ℕ). length t) c.append_part-len.ensures.text,
        length-take 4096 (items ++ (part_at ram arguments taken byte rest).text),
      );
      few = omega (
        arith,
        split.1,
        ap (λ (t : List ℕ). length t) all,
        length-drop len rest,
        c.append_part-len.ensures.inside,
        c.append_part-len.ensures.few,
        c.loop-byte.invariant.few,
      );
    }

pub returns : goal.returns
returns c =
    let items = c.loop-byte.text.items in
    let left = nil_from_length c.loop-byte.left.now c.in_default.ensures.cases in
    cut_whole 4096 items c.loop-byte.invariant.short
    ∙ ap (λ t. take 4096 (items
    ++ text_from c.args.ram.now c.args.arguments.now c.loop-byte.taken 0 t)) (sym left)
    ∙ c.loop-byte.invariant.text
