use Rattle.std.proofs.Common.{◌∙◌, ◌<◌, length, refl, sym, arith}
use Rattle.iop_queues.specs.Queues.{moved_last, queue_at, those_where}
use Rattle.iop_queues.proofs.Beside.{is_with}
use Rattle.iop_queues.proofs.MovedLast.{move_put, move_taken, moving_all, moving_none}
use Rattle.iop_queues.proofs.queues.Queues.move_last.Goals.{in-Some, in_default}
use Rattle.iop_queues.proofs.queues.Queues.move_last.Goals as goal

pub loop-init : goal.loop-init
loop-init g c = (
  refl,
  moving_none (g.C.Condition.holds_for c.args.condition.now) c.args.priority
      (queue_at c.args.queue c.args.self.now),
)

pub loop-preserved : goal.loop-preserved
loop-preserved g c =
    let p = g.C.Condition.holds_for c.args.condition.now in
    let less : c.loop.counter < length (those_where p (queue_at c.args.queue c.args.self.now)) =
    omega (arith, c.loop-test.true, c.count_where-end.ensures.count) in
    elim c.match-take_where.branch [
      | in-Some w ↦ rw w.self-is
          (move_put c.args.queue c.args.self.now c.loop.self c.requires.queue c.loop.invariant.0 p
          c.args.priority c.loop.counter c.loop.invariant.1 less c.take_where.new.self
          w.push.new.self _ _ c.take_where.ensures.left
          (sym c.take_where.ensures.item ∙ w.in-Some.is) w.with_priority.ensures w.push.ensures)
      | in_default w ↦
          let some =
          move_taken c.args.queue c.args.self.now c.loop.self c.requires.queue c.loop.invariant.0 p
          c.args.priority c.loop.counter c.loop.invariant.1 less in
          absurd (cc (c.take_where.ensures.item, some, w.in_default.is))
    ]

pub returns : goal.returns
returns g c =
    let p = g.C.Condition.holds_for c.args.condition.now in
    let xs = queue_at c.args.queue c.args.self.now in
    is_with c.args.queue c.loop.self c.args.self.now c.loop.invariant.0
    (moved_last p c.args.priority xs)
    (moving_all p c.args.priority xs _ c.loop.counter c.loop.invariant.1
    (omega (arith, c.count_where-end.ensures.count)))
