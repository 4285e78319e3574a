use Rattle.std.proofs.Common.{refl}
use Rattle.iop_objects.specs.Objects.{state_of, waiters_of}
use Rattle.iop_pools.specs.VariableRestoring.{layout_of}
use Rattle.iop_saved_objects.specs.Lists.{ahead_in}
use Rattle.iop_saved_objects.specs.VariablePools.{saved_pool}
use Rattle.iop_saved_objects.specs.Waiters.{saved_waiters}
use Rattle.iop_saved_objects.proofs.Places.{told_at}
use Rattle.iop_saved_objects.proofs.variable_pools.VariablePoolsTableSaved.nth.Goals as goal

pub returns : goal.returns
returns c =
    let s = c.args.self.now in
    told_at saved_pool layout_of
    (λ id state. (
      (record { id = id; state = state }, ahead_in (λ x. x.ranges) (state_of s id)),
      saved_waiters (waiters_of s id),
    ))
    s c.waiters.ensures.sound (λ o there. rw there refl) c.args.place c.nth.result c.nth.ensures
