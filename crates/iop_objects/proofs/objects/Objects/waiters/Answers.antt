use Rattle.std.proofs.Common.{◌∙◌, ap, sym, subst, arith, length}
use Rattle.iop_objects.specs.Objects.{AreObjects}
use Rattle.iop_objects.proofs.TableQueues.{queue_below}
use Rattle.iop_objects.proofs.Tables.{AreObjects-in, waiters_of-queue}
use Rattle.iop_objects.proofs.objects.Objects.waiters.Goals as goal

pub count-requires : goal.count-requires
count-requires g c = (
  omega arith,
  queue_below _ _ _ _ c.self.invariant.0 c.args.id c.in-Some.queue
      (rw c.deref.ensures.value at c.in-Some.ensures),
)

pub returns-in-Some-clause-count : goal.returns-in-Some-clause-count
returns-in-Some-clause-count g c =
    rw (← c.self.view_is)
    (c.count.ensures.count
    ∙ ap length (sym (waiters_of-queue _ _ _ _ c.self.invariant.0 c.args.id _
    (rw c.deref.ensures.value at c.in-Some.ensures))))

pub returns-in-Some-clause-sound : goal.returns-in-Some-clause-sound
returns-in-Some-clause-sound g c =
    subst AreObjects c.self.view_is (AreObjects-in _ _ _ _ c.self.invariant.0)

pub returns-in-None-clause-count : goal.returns-in-None-clause-count
returns-in-None-clause-count g c =
    rw (← c.self.view_is)
    (ap length (sym (waiters_of-queue _ _ _ _ c.self.invariant.0 c.args.id _
    (rw c.deref.ensures.value at c.in-None.ensures))))

pub returns-in-None-clause-sound : goal.returns-in-None-clause-sound
returns-in-None-clause-sound g c =
    subst AreObjects c.self.view_is (AreObjects-in _ _ _ _ c.self.invariant.0)
