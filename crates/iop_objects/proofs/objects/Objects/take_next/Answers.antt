use Rattle.std.proofs.Common.{◌≡◌, ◌∙◌, ap, arith, rules, None, option_map}
use Rattle.iop_queues.specs.Queue.{chooses}
use Rattle.iop_objects.specs.Objects.{takes_next}
use Rattle.iop_objects.proofs.TableQueues.{queue_below, IsTable-changed, objects_in-taken, taken_is, takes-none, chooses-nil}
use Rattle.iop_objects.proofs.objects.Objects.take_next.Goals as goal

pub take-taken-requires : goal.take-taken-requires
take-taken-requires g c = (
  omega arith,
  queue_below _ _ _ _ c.self.invariant.0 c.args.id c.in_ok-queue.queue
      (rw c.deref.ensures.value at c.in_ok-queue.ensures),
)

pub invariant_of-self : goal.invariant_of-self
invariant_of-self g c = (
  rw c.take-taken.ensures.left
      (IsTable-changed _ _ _ _ c.self.invariant.0 c.args.id c.in_ok-queue.queue
      (rw c.deref.ensures.value at c.in_ok-queue.ensures) _),
  c.self.invariant.1,
)

pub returns-in_err-queue : goal.returns-in_err-queue
returns-in_err-queue g c =
    let none : c.from_residual.result ≡ None = search rules in
    let both =
    takes-none _ _ _ _ c.self.invariant.0 c.args.id
    (rw c.deref.ensures.value at c.in_err-queue.ensures) (chooses c.args.by_priority)
    (chooses-nil c.args.by_priority) in
    rw (none, ← c.self.view_is) (record { answer = ap (λ t. t.0) both; left = ap (λ t. t.1) both })

pub returns-clause-answer : goal.returns-clause-answer
returns-clause-answer g c =
    let is : c.map.result ≡ option_map (λ x. x.item) c.take-taken.result = search rules in
    is ∙ ap (option_map (λ x. x.item)) c.take-taken.ensures.item
    ∙ taken_is _ _ _ _ c.self.invariant.0 c.args.id c.in_ok-queue.queue
    (rw c.deref.ensures.value at c.in_ok-queue.ensures) (chooses c.args.by_priority)
    ∙ ap (λ s. (takes_next s c.args.id c.args.by_priority).0) c.self.view_is

pub returns-clause-left : goal.returns-clause-left
returns-clause-left g c =
    rw c.take-taken.ensures.left
    (objects_in-taken _ _ _ _ c.self.invariant.0 c.args.id c.in_ok-queue.queue
    (rw c.deref.ensures.value at c.in_ok-queue.ensures) (chooses c.args.by_priority))
    ∙ ap (λ s. (takes_next s c.args.id c.args.by_priority).1) c.self.view_is
