use Rattle.std.proofs.Common.{◌≤◌, length}
use Rattle.iop_front.proofs.DumpLemmas.{HasWritten}
use Rattle.iop_front.proofs.dumping.send_dump.Given as goal

abbrev pub invariant-loop-left : goal.invariant-loop-left
invariant-loop-left g l = record {
  lines : HasWritten l.from l.bytes l.left (g.T.Sink.told l.initial.trace)
      (g.T.Sink.told l.trace);
  short : length l.left ≤ length l.bytes;
}

abbrev pub decreases-loop-left : goal.decreases-loop-left
decreases-loop-left g l = length l.left
