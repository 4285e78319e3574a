use Rattle.std.proofs.Common.{◌≤◌, ◌∙◌, ap, sym, length, subst, arith}
use Rattle.std.proofs.lemmas.List.{length_push}
use Rattle.iop_objects.specs.Standing.{IsTable}
use Rattle.iop_objects.proofs.TableChanges.{IsTable-put, objects_in-put}
use Rattle.iop_objects.proofs.Tables.{all_queues}
use Rattle.iop_objects.proofs.objects.Objects.put.Goals as goal

pub push_reserved-requires : goal.push_reserved-requires
push_reserved-requires g c =
    omega (
      arith,
      all_queues _ _ _ _ c.self.invariant.0,
      c.self.invariant.1,
      ap length c.in-Some.ensures,
      length_push c.take.new.self c.in-Some.queue,
    )

pub invariant_of-self : goal.invariant_of-self
invariant_of-self g c = (
  subst (λ free. IsTable c.self.inside.live.items free c.self.inside.waiters c.self.inside.next)
      (c.in_default.ensures.0 ∙ sym c.in_default.ensures.1) c.self.invariant.0,
  c.self.invariant.1,
)

pub invariant_of-self-2 : goal.invariant_of-self-2
invariant_of-self-2 g c =
    let table =
    subst (λ free. IsTable c.self.inside.live.items free c.self.inside.waiters c.self.inside.next)
    c.in-Some.ensures c.self.invariant.0 in
    let order : c.self.inside.next ≤ c.args.id =
    omega (arith, ap (λ s. s.next) c.self.view_is, c.requires.order) in (
      rw c.push_reserved.ensures.items
          (IsTable-put _ _ _ _ _ table c.args.id c.args.state order c.requires.last),
      omega (arith, c.push_reserved.ensures.capacity, c.self.invariant.1),
    )

pub returns-clause-put : goal.returns-clause-put
returns-clause-put g c =
    let table =
    subst (λ free. IsTable c.self.inside.live.items free c.self.inside.waiters c.self.inside.next)
    c.in-Some.ensures c.self.invariant.0 in
    let order : c.self.inside.next ≤ c.args.id =
    omega (arith, ap (λ s. s.next) c.self.view_is, c.requires.order) in
    rw (c.push_reserved.ensures.items, ← c.self.view_is)
    (objects_in-put _ _ _ _ _ table c.args.id c.args.state order c.requires.last)
