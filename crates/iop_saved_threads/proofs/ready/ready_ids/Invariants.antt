use Rattle.std.proofs.Common.{◌≡◌}
use Rattle.std.specs.List.{flat_map, range_with_len}
use Rattle.iop_thread.specs.Standing.{Stands}
use Rattle.iop_thread.specs.ThreadTable.{ThreadTable}
use Rattle.iop_saved_threads.specs.Tables.{ready_of}
use Rattle.iop_saved_threads.proofs.ready.ready_ids.Given as goal

abbrev pub invariant-loop-better : goal.invariant-loop-better
invariant-loop-better g l =
    (s : ThreadTable) → Stands g.R.Ready.stands l.fn.threads s
    → l.ids.items ≡ flat_map (ready_of s) (range_with_len 1 l.better)
