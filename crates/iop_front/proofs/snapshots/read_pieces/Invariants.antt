use Rattle.std.proofs.Common.{◌≡◌, ◌<◌, ◌≤◌, ◌-◌, All, length}
use Rattle.iop_base.specs.Numbers.{IsByte}
use Rattle.iop_front.proofs.SnapshotLemmas.{HasFront, most_read}
use Rattle.iop_front.proofs.snapshots.read_pieces.Given as goal

abbrev pub invariant-loop-bytes : goal.invariant-loop-bytes
invariant-loop-bytes g l = record {
  piece : 0 < length l.piece;
  fits : length l.bytes.items ≤ most_read;
  front : HasFront l.name (g.F.Files.faults l.fn.files) l.bytes.items
      (g.F.Files.told l.fn.files) (g.F.Files.told l.files);
  bytes : All IsByte l.bytes.items;
  no_fault : g.F.Files.faults l.files ≡ g.F.Files.faults l.fn.files;
}

abbrev pub decreases-loop-bytes : goal.decreases-loop-bytes
decreases-loop-bytes g l = most_read - length l.bytes.items
