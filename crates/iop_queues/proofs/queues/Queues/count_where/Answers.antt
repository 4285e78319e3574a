use Rattle.std.proofs.Common.{◌∙◌, ap, arith, sym}
use Rattle.std.proofs.lemmas.List.Sums.{length-filter, count_by-le-length}
use Rattle.std.specs.List.{count_by}
use Rattle.iop_queues.specs.Queues.{queue_at, total}
use Rattle.iop_queues.proofs.Beside.{total-own}
use Rattle.iop_queues.proofs.Takes.{own_is}
use Rattle.iop_queues.proofs.queues.Queues.count_where.Goals as goal

pub returns-clause-count : goal.returns-clause-count
returns-clause-count g c =
    let p = g.C.Condition.holds_for c.args.condition.now in
    let counted = c.count_where.ensures in
    rw c.deref.ensures.value at counted
    ∙ ap (count_by (λ x. p x.item))
    (own_is c.self.invariant c.self.view_is c.args.queue c.requires)
    ∙ sym (length-filter (λ x. p x.item) (queue_at c.args.queue c.args.self.now))

pub returns-clause-few : goal.returns-clause-few
returns-clause-few g c =
    let p = g.C.Condition.holds_for c.args.condition.now in
    let own = queue_at c.args.queue c.args.self.now in
    omega (
      arith,
      returns-clause-count g c,
      length-filter (λ x. p x.item) own,
      count_by-le-length (λ x. p x.item) own,
      total-own c.args.queue c.args.self.now c.requires,
      ap total c.self.view_is,
      c.self.invariant.queued,
      c.self.invariant.free,
    )
