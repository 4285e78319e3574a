use Rattle.std.proofs.Common.{◌≡◌, ◌≤◌, ◌-◌, length, take}
use Rattle.iop_ports.specs.Sinks.{after_taking}
use Rattle.iop_ports.proofs.sending.send.Given as goal

abbrev pub invariant-loop-at : goal.invariant-loop-at
invariant-loop-at g l = record {
  within : l.at ≤ length l.piece;
  taken : g.S.Sink.told l.sink ≡ after_taking (take l.at l.piece) (g.S.Sink.told l.fn.sink);
}

abbrev pub decreases-loop-at : goal.decreases-loop-at
decreases-loop-at g l = length l.piece - l.at
