use Rattle.std.proofs.Common.{◌∙◌, ap, not}
use Rattle.iop_machine.proofs.ServiceLemmas.{ended_takes, ends_module_takes, stands_going_on, stands_not_going_on}
use Rattle.iop_machine.proofs.iop.Iop.end_module.Goals as goal

pub end_running-requires : goal.end_running-requires
end_running-requires g c =
    let ended = ended_takes c.args.self.now c.now.result c.now.ensures.moment c.args.begun
    c.args.value c.finish.ensures.memory c.finish.ensures.blocks c.finish.ensures.libraries
    c.finish.ensures.lines c.requires.sound.0 c.requires.sound.1 in
    record { sound = (_, (c.load_first.ensures _ ended.state).state.kernel) }

pub returns-then-is_none : goal.returns-then-is_none
returns-then-is_none g c =
    ends_module_takes c.args.begun c.args.value
    (ended_takes c.args.self.now c.now.result c.now.ensures.moment c.args.begun c.args.value
    c.finish.ensures.memory c.finish.ensures.blocks c.finish.ensures.libraries
    c.finish.ensures.lines)
    c.load_first.ensures _
    (stands_not_going_on c.load_first.new.self c.end_running.new.self c.end_running.ensures
    (c.is_none.ensures ∙ ap not c.if-is_none.true))

pub returns-else-is_none : goal.returns-else-is_none
returns-else-is_none g c =
    ends_module_takes c.args.begun c.args.value
    (ended_takes c.args.self.now c.now.result c.now.ensures.moment c.args.begun c.args.value
    c.finish.ensures.memory c.finish.ensures.blocks c.finish.ensures.libraries
    c.finish.ensures.lines)
    c.load_first.ensures _
    (stands_going_on c.load_first.new.self (c.is_none.ensures ∙ ap not c.if-is_none.false))
