use Rattle.std.proofs.Common.{ℕ, List, ap, ◌∙◌, subst, inr, arith}
use Rattle.iop_machine.proofs.KeepingMachine.{begins_as_machine}
use Rattle.iop_machine.specs.Modules.{NamedFile, none_loaded}
use Rattle.iop_machine.specs.World.{beginning}
use Rattle.iop_options.specs.Commands.{Command}
use Rattle.iop_options.specs.Values.{ram_bytes}
use Rattle.iop_front.specs.Keeping.{written}
use Rattle.iop_front.specs.Outcome.{Comes, modules_to_load, outcome_from}
use Rattle.iop_front.proofs.RoomLemmas.{have_room}
use Rattle.iop_front.proofs.answering.run_modules.Goals as goal

pub new-requires-clause-room : goal.new-requires-clause-room
new-requires-clause-room g c =
    have_room c.args.inputs.script c.requires.runs 1 c.in-Ok.modules.items c.in-Ok.ensures.short

pub new-requires-clause-events : goal.new-requires-clause-events
new-requires-clause-events g c =
    let runs = c.requires.runs in
    record { order = runs.order; ticks = runs.ticks; lines = runs.lines }

pub run_to_end-requires-clause-early : goal.run_to_end-requires-clause-early
run_to_end-requires-clause-early g c =
    let zero = c.in-Ok-new.ensures.stands.iop.kernel.holds.clock in omega (arith, zero)

pub returns-in-Ok-new-clause-meets : goal.returns-in-Ok-new-clause-meets
returns-in-Ok-new-clause-meets g c =
    let seen = written g.K.Sink.told g.C.Sink.told g.T.Sink.told in
    let options = c.args.options.now in
    let script = c.args.inputs.script in
    let files = c.args.inputs.modules.items in
    let runs = c.requires.runs in
    let are = c.in-Ok.ensures.modules
    ∙ ap (λ (o : Command). modules_to_load o.generate files) c.options.view_is in
    let size = c.bytes.ensures.exact ∙ ap (λ (o : Command). ram_bytes o.ram) c.options.view_is in
    let first = λ (size : ℕ) (modules : List NamedFile).
    beginning size (none_loaded script modules) script.events in
    inr (subst (λ w. Comes (outcome_from options w)
    c.run_to_end.result (seen c.args.keep.now c.args.console.now c.args.trace.now)
    (seen c.run_to_end.new.keep c.run_to_end.new.console c.run_to_end.new.trace))
    (λ i. first (size i) (are i))
    (c.run_to_end.ensures.comes _ c.in-Ok-new.ensures.stands
    (begins_as_machine c.bytes.result (none_loaded script c.in-Ok.modules.items) script.events
    c.bytes.ensures.sized
    (record { order = runs.order; ticks = runs.ticks; lines = runs.lines }))))
