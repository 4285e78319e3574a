use Rattle.std.proofs.Common.{true, false, ap, sym, ◌∙◌, subst}
use Rattle.iop_base.specs.Text.{line_bytes}
use Rattle.iop_base.specs.declared.line.Line.TheVariants.{End}
use Rattle.iop_front.specs.Outcome.{TraceLeaves, dump_pieces, ending_of}
use Rattle.iop_front.proofs.RunLemmas.{ending_leaves, ending_cut}
use Rattle.iop_front.proofs.SendingLemmas.{sent_as}
use Rattle.iop_front.proofs.running.write_ending.Goals as goal

pub returns-then-send : goal.returns-then-send
returns-then-send g c = λ w stands.
    let told = g.T.Sink.told in
    let dump = dump_pieces w.iop.memory.ram c.args.dump in
    let line = c.deref.ensures.0 ∙ c.line_text-end.ensures
    ∙ ap (λ t. line_bytes t (End c.args.stop)) (c.now.ensures.moment w stands) in
    ending_leaves c.write_dump.result _ dump (told c.args.trace.now) (told c.send.new.sink)
    (told c.write_dump.new.trace)
    (sent_as _ true _ _ _ _ c.if-send.true line c.send.ensures) (c.write_dump.ensures w stands)

pub returns-else-send : goal.returns-else-send
returns-else-send g c = λ w stands.
    let told = g.T.Sink.told in
    let dump = dump_pieces w.iop.memory.ram c.args.dump in
    let line = c.deref.ensures.0 ∙ c.line_text-end.ensures
    ∙ ap (λ t. line_bytes t (End c.args.stop)) (c.now.ensures.moment w stands) in
    subst (λ b. TraceLeaves b (told c.args.trace.now) (told c.send.new.sink)
    (ending_of c.args.dump w c.args.stop)) (sym c.if-send.false)
    (ending_cut _ dump (told c.args.trace.now) (told c.send.new.sink)
    (sent_as _ false _ _ _ _ c.if-send.false line c.send.ensures))
