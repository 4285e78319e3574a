use Rattle.std.proofs.Common.{false, Some, [], ap, sym, ◌∙◌, subst, refl}
use Rattle.iop_base.specs.Output.{Adds, HasNoFault}
use Rattle.iop_base.proofs.Giving.{adds_none}
use Rattle.iop_options.specs.Values.{DumpRange}
use Rattle.iop_trace.specs.Outs.{output_with}
use Rattle.iop_front.proofs.DumpLemmas.{window_low, nothing_dumped}
use Rattle.iop_front.proofs.dumping.write_dump.Goals as goal

pub send_dump-requires : goal.send_dump-requires
send_dump-requires g c =
    let range = c.range.inside in
    let sound = c.requires in
    window_low _ _ range.from range.len sound.2.sound.whole.sound.sized
    (sym (c.in-Some-window.ensures sound.0 sound.1))

pub returns-in-None : goal.returns-in-None
returns-in-None g c = λ w stands console.
    let range : DumpRange =
    record { from = c.range.inside.from; len = c.range.inside.len } in
    let is = c.in-Some.is ∙ ap Some (sym c.range.view_is) in
    let none = nothing_dumped w.iop.memory.ram c.args.dump range is (c.in-None.ensures w stands) in
    let same = output_with console (g.T.Sink.told c.args.trace.now) false [] in
    subst (λ pieces. Adds same same pieces × HasNoFault same same) (sym none)
    (adds_none same, record { console = refl; trace = refl })
