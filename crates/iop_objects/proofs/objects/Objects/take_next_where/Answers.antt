use Rattle.std.proofs.Common.{◌≡◌, ◌∙◌, ap, arith, rules, None, option_map}
use Rattle.iop_queues.specs.Queue.{chooses_next_where}
use Rattle.iop_objects.specs.Objects.{takes_next_where}
use Rattle.iop_objects.proofs.TableQueues.{queue_below, IsTable-changed, objects_in-taken, taken_is, takes-none, none_met}
use Rattle.iop_objects.proofs.objects.Objects.take_next_where.Goals as goal

pub take_next_where-taken-requires : goal.take_next_where-taken-requires
take_next_where-taken-requires g c = (
  omega arith,
  queue_below _ _ _ _ c.self.invariant.0 c.args.id c.in_ok-queue.queue
      (rw c.deref.ensures.value at c.in_ok-queue.ensures),
)

pub invariant_of-self : goal.invariant_of-self
invariant_of-self g c = (
  rw c.take_next_where-taken.ensures.left
      (IsTable-changed _ _ _ _ c.self.invariant.0 c.args.id c.in_ok-queue.queue
      (rw c.deref.ensures.value at c.in_ok-queue.ensures) _),
  c.self.invariant.1,
)

pub returns-in_err-queue : goal.returns-in_err-queue
returns-in_err-queue g c =
    let none : c.from_residual.result ≡ None = search rules in
    let both =
    takes-none _ _ _ _ c.self.invariant.0 c.args.id
    (rw c.deref.ensures.value at c.in_err-queue.ensures)
    (chooses_next_where c.args.by_priority (g.C.Condition.holds_for c.args.condition.now))
    (none_met c.args.by_priority (g.C.Condition.holds_for c.args.condition.now)) in
    rw (none, ← c.self.view_is) (record { answer = ap (λ t. t.0) both; left = ap (λ t. t.1) both })

pub returns-clause-answer : goal.returns-clause-answer
returns-clause-answer g c =
    let p = g.C.Condition.holds_for c.args.condition.now in
    let is : c.map.result ≡ option_map (λ x. x.item) c.take_next_where-taken.result = search rules in
    is ∙ ap (option_map (λ x. x.item)) c.take_next_where-taken.ensures.item
    ∙ taken_is _ _ _ _ c.self.invariant.0 c.args.id c.in_ok-queue.queue
    (rw c.deref.ensures.value at c.in_ok-queue.ensures) (chooses_next_where c.args.by_priority p)
    ∙ ap (λ s. (takes_next_where s c.args.id c.args.by_priority p).0) c.self.view_is

pub returns-clause-left : goal.returns-clause-left
returns-clause-left g c =
    let p = g.C.Condition.holds_for c.args.condition.now in
    rw c.take_next_where-taken.ensures.left
    (objects_in-taken _ _ _ _ c.self.invariant.0 c.args.id c.in_ok-queue.queue
    (rw c.deref.ensures.value at c.in_ok-queue.ensures) (chooses_next_where c.args.by_priority p))
    ∙ ap (λ s. (takes_next_where s c.args.id c.args.by_priority p).1) c.self.view_is
