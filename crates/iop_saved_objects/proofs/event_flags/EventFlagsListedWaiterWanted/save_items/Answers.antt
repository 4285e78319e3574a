use Rattle.std.proofs.Common.{arith}
use Rattle.iop_objects.specs.Objects.{object_of}
use Rattle.iop_saved_objects.proofs.Ahead.{saved_as}
use Rattle.iop_saved_objects.proofs.Places.{waiters_ahead, waiters_counted}
use Rattle.iop_saved_objects.proofs.event_flags.EventFlagsListedWaiterWanted.save_items.Goals as goal

pub save_records-requires : goal.save_records-requires
save_records-requires g c = record {
  counted = waiters_counted c.args.self.now c.args.id c.waiters.result c.walk.result
      c.waiters.ensures.count c.walk.ensures;
  few = omega (arith, c.waiters.ensures.few);
}

pub returns : goal.returns
returns g c =
    saved_as c.save_records.ensures
    (waiters_ahead (object_of c.args.self.now.live c.args.id) c.walk.result c.walk.ensures)
