use Rattle.std.proofs.Common.{ap, sym, ◌∙◌, arith}
use Rattle.iop_objects.specs.Objects.{object_of, state_of}
use Rattle.iop_pools.specs.FixedPools.{status_of}
use Rattle.iop_pools.specs.declared.fixed_pool.FixedPool.{FixedPool}
use Rattle.iop_kernel.specs.FixedPools.{LiveFpl}
use Rattle.iop_kernel.proofs.Bodies.Reads.{none_told, one_read}
use Rattle.iop_kernel.proofs.Bodies.Standing.{over, answers_quiet}
use Rattle.iop_kernel.proofs.kernel.Kernel.refer_fpl_status.Goals as goal

pub returns-in_default-get : goal.returns-in_default-get
returns-in_default-get g c = over g.R.Ready.stands _ (λ t h.
    let none = none_told status_of c.args.self.now.fixed_pools.live c.args.id
    (sym c.in_default-get.is ∙ c.get.ensures.status) in
    rw (← c.in-Some.ensures.place, none)
    (answers_quiet c.answer.ensures.after h c.answer.ensures.processor))

pub overflow_cast-words : goal.overflow_cast-words
overflow_cast-words g c = omega (arith, c.waiters.ensures.few)

pub returns : goal.returns
returns g c = over g.R.Ready.stands _ (λ t h.
    let was = c.args.self.now.fixed_pools in
    let state = one_read status_of (state_of was c.args.id) c.in-Some-get.ensures.status in
    let found =
    one_read (λ (o : LiveFpl). o.state) (object_of was.live c.args.id) (sym state.1) in
    let read = state.2 ∙ ap status_of found.2 in
    let waiters = rw found.1 at c.waiters.ensures.count in
    rw (
      ← c.in-Some.ensures.place,
      found.1,
      ← waiters,
      ← ap (λ (p : FixedPool). p.free) read,
      ← ap (λ (p : FixedPool). p.count) read,
      ← ap (λ (p : FixedPool). p.size) read,
      ← ap (λ (p : FixedPool). p.option) read,
      ← ap (λ (p : FixedPool). p.attr) read,
    )
    (c.answer_words_at.ensures _ h))
