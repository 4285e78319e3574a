use Rattle.std.proofs.Common.{◌≡◌, ◌≤◌, ◌∙◌, ap, sym, subst, true, false, take, drop, length, arith}
use Rattle.std.proofs.lemmas.Bool.Decides.{nat_tests}
use Rattle.std.proofs.lemmas.List.{length-drop, take_min, drop_min}
use Rattle.iop_trace.specs.Dumps.{dump_line}
use Rattle.iop_front.proofs.DumpLemmas.{HasWritten, none_written, all_written, more_written, cut_written}
use Rattle.iop_front.proofs.SendingLemmas.{sent_as}
use Rattle.iop_front.proofs.dumping.send_dump.Goals as goal

pub loop-left-init : goal.loop-left-init
loop-left-init g c = record {
  lines = none_written c.args.from c.args.bytes.now (g.T.Sink.told c.args.trace.now);
  short = omega arith;
}

pub returns-then-not-send : goal.returns-then-not-send
returns-then-not-send g c =
    let left = c.loop-left.left.now in
    let bytes = c.args.bytes.now in
    let test = c.loop-left-test.ensures in
    let some : 1 ≤ length left = grind (arith, nat_tests, test) in
    let front = c.split_at.ensures.front ∙ ap (λ n. take n left) c.min.ensures ∙ take_min 16 left in
    let line = c.deref.ensures.0 ∙ c.dump_line.ensures ∙ ap (dump_line _) front in
    cut_written c.args.from bytes left _ _ c.loop-left.invariant.lines _ some
    (sent_as _ false _ _ _ _ c.if-not-send.true line c.send.ensures)

pub loop-left-preserved : goal.loop-left-preserved
loop-left-preserved g c =
    let left = c.loop-left.left.now in
    let bytes = c.args.bytes.now in
    let short = c.loop-left.invariant.short in
    let test = c.loop-left-test.ensures in
    let some : 1 ≤ length left = grind (arith, nat_tests, test) in
    let front = c.split_at.ensures.front ∙ ap (λ n. take n left) c.min.ensures ∙ take_min 16 left in
    let back = c.split_at.ensures.back ∙ ap (λ n. drop n left) c.min.ensures ∙ drop_min 16 left in
    let line = c.deref.ensures.0 ∙ c.dump_line.ensures ∙ ap (dump_line _) front in
    record {
      lines = subst (λ rest. HasWritten c.args.from bytes rest (g.T.Sink.told c.args.trace.now)
          (g.T.Sink.told c.send.new.sink)) (sym back)
          (more_written c.args.from bytes left _ _ c.loop-left.invariant.lines _ some
          (sent_as _ true _ _ _ _ c.if-not-send.false line c.send.ensures));
      short = subst (λ rest. length rest ≤ length bytes) (sym back)
          (omega (arith, length-drop 16 left, short));
    }

pub returns : goal.returns
returns g c =
    let left = c.loop-left.left.now in
    let test = c.loop-left-test.ensures in
    let none : length left ≡ 0 = grind (arith, nat_tests, test) in
    all_written c.args.from c.args.bytes.now left _ _ c.loop-left.invariant.lines none
