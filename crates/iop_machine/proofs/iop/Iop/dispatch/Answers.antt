use Rattle.iop_machine.proofs.Delivering.{dispatch_sound, dispatches_nothing, dispatches_something}
use Rattle.iop_machine.proofs.iop.Iop.dispatch.Goals as goal

pub returns-then-not-dispatch : goal.returns-then-not-dispatch
returns-then-not-dispatch g c = λ s budget h over none.
    dispatches_nothing h c.dispatch.new.self c.dispatch.new.cpu budget _ _ c.dispatch.result
    (c.dispatch.ensures s.kernel h.kernel) c.if-not-dispatch.true

pub take_events-requires : goal.take_events-requires
take_events-requires g c = record {
  sound = dispatch_sound c.requires.sound.1 c.dispatch.new.self c.dispatch.new.cpu 0 _ _
      c.dispatch.result (c.dispatch.ensures _ c.requires.sound.1.kernel);
}

pub returns : goal.returns
returns g c = λ s budget h over none.
    dispatches_something h c.dispatch.new.self c.dispatch.new.cpu budget _ _ over c.requires.well
    none c.take_events.new.self c.take_events.ensures c.dispatch.result
    (c.dispatch.ensures s.kernel h.kernel) c.if-not-dispatch.false
