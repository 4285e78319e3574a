use Rattle.std.proofs.Common.{◌≡◌, drop}
use Rattle.iop_snapshot.specs.Putting.{put_all}
use Rattle.iop_saved_tables.specs.Tables.{put_stub}
use Rattle.iop_saved_tables.proofs.stubs.put_stubs.Given as goal

abbrev pub invariant-loop-stub : goal.invariant-loop-stub
invariant-loop-stub l =
    put_all put_stub l.fn.guest l.stubs ≡ put_all put_stub l.guest (drop l.stub-index l.stubs)
