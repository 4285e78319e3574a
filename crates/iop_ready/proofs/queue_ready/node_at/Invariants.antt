use Rattle.std.proofs.Common.{◌≡◌, ◌<◌, Some}
use Rattle.std.specs.List.{slice_get}
use Rattle.iop_cblock.specs.Lists.{list_at}
use Rattle.iop_ready.proofs.queue_ready.node_at.Given as goal

abbrev pub invariant-loop : goal.invariant-loop
invariant-loop l = record {
  at : slice_get (list_at l.list l.queues) l.counter ≡ Some l.node;
  below : l.node < l.queues.nodes;
}
