use Rattle.std.proofs.Common.{◌≡◌, ◌∙◌, [], None, ap, is_some, rules, sym, true}
use Rattle.iop_queues.specs.Queue.{chooses_where, left_by}
use Rattle.iop_queues.specs.Queues.{others_where, queue_at, with_queue}
use Rattle.iop_queues.proofs.Beside.{is_with, left_own, stay-with}
use Rattle.iop_queues.proofs.Conditions.{others_where-left, others_where-none, shorter}
use Rattle.iop_queues.proofs.queues.Queues.remove_where.Goals as goal

pub loop-smaller : goal.loop-smaller
loop-smaller g c =
    let p = g.C.Condition.holds_for c.args.condition.now in
    let own = queue_at c.args.queue c.loop.self in
    let some : is_some (chooses_where p own) ≡ true = search rules in
    rw (left_own c.args.queue c.args.self.now c.loop.self c.requires.queue c.loop.invariant.0
    (chooses_where p) _ c.take_where.ensures.left)
    (shorter p own some)

pub loop-preserved : goal.loop-preserved
loop-preserved g c =
    let p = g.C.Condition.holds_for c.args.condition.now in (
      ap (with_queue c.args.queue []) c.take_where.ensures.left
          ∙ stay-with c.args.queue _ c.loop.self ∙ c.loop.invariant.0,
      ap (others_where p)
          (left_own c.args.queue c.args.self.now c.loop.self c.requires.queue c.loop.invariant.0
          (chooses_where p) _ c.take_where.ensures.left)
          ∙ others_where-left p (queue_at c.args.queue c.loop.self) ∙ c.loop.invariant.1,
    )

pub returns : goal.returns
returns g c =
    let p = g.C.Condition.holds_for c.args.condition.now in
    let own = queue_at c.args.queue c.loop.self in
    let none : chooses_where p own ≡ None = search rules in
    is_with c.args.queue c.take_where.new.self c.args.self.now
    (ap (with_queue c.args.queue []) c.take_where.ensures.left
    ∙ stay-with c.args.queue _ c.loop.self ∙ c.loop.invariant.0)
    (others_where p (queue_at c.args.queue c.args.self.now))
    (left_own c.args.queue c.args.self.now c.loop.self c.requires.queue c.loop.invariant.0
    (chooses_where p) _ c.take_where.ensures.left
    ∙ ap (left_by own) none ∙ sym (others_where-none p own none) ∙ c.loop.invariant.1)
