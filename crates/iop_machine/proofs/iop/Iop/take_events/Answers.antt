use Rattle.iop_machine.proofs.LookingLemmas.{taken_more, changed_clock, taken_all}
use Rattle.iop_machine.proofs.iop.Iop.take_events.Goals as goal

pub loop-event-preserved : goal.loop-event-preserved
loop-event-preserved c =
    let i = c.loop-event.invariant in
    let now = i.taken c.requires.sound.0 c.requires.sound.1 in
    record {
      moment = changed_clock c.in-Some.event c.take_due.new.self i.moment c.take_event.new.kernel
          c.take_event.ensures now.0 now.1;
      taken = λ s h. taken_more c.in-Some.event c.take_due.new.self i.moment c.take_event.new.kernel
          c.take_event.ensures c.in-Some.ensures s (i.taken s h);
    }

pub returns : goal.returns
returns c = λ s h.
    let i = c.loop-event.invariant in
    taken_all i.moment c.in_default.ensures s (i.taken s h)
