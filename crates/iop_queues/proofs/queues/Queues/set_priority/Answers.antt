use Rattle.std.proofs.Common.{◌∙◌, ◌<◌, length, sym, arith}
use Rattle.iop_queues.specs.Queues.{in_place, queue_at}
use Rattle.iop_queues.proofs.Beside.{is_with}
use Rattle.iop_queues.proofs.InPlace.{turn_put, turn_taken, turned_all}
use Rattle.iop_queues.proofs.queues.Queues.set_priority.Goals.{in-Some, in_default}
use Rattle.iop_queues.proofs.queues.Queues.set_priority.Goals as goal

pub loop-preserved : goal.loop-preserved
loop-preserved g c =
    let p = g.C.Condition.holds_for c.args.condition.now in
    let less : c.loop.counter < length (queue_at c.args.queue c.args.self.now) =
    omega (arith, c.loop-test.true, c.count-end.ensures.count) in
    elim c.match-take.branch [
      | in-Some w ↦ rw w.self-is
          (turn_put c.args.queue c.args.self.now c.loop.self c.requires.queue c.loop.invariant.0 p
          c.args.priority c.loop.counter c.loop.invariant.1 less c.take.new.self w.push.new.self _ _
          c.take.ensures.left (sym c.take.ensures.item ∙ w.in-Some.is) w.prioritized.ensures
          w.push.ensures)
      | in_default w ↦
          let some =
          turn_taken c.args.queue c.args.self.now c.loop.self c.requires.queue c.loop.invariant.0 p
          c.args.priority c.loop.counter c.loop.invariant.1 less in
          absurd (cc (c.take.ensures.item, some, w.in_default.is))
    ]

pub returns : goal.returns
returns g c =
    let p = g.C.Condition.holds_for c.args.condition.now in
    let xs = queue_at c.args.queue c.args.self.now in
    is_with c.args.queue c.loop.self c.args.self.now c.loop.invariant.0
    (in_place p c.args.priority xs)
    (c.loop.invariant.1
    ∙ turned_all p c.args.priority xs c.loop.counter (omega (arith, c.count-end.ensures.count)))
