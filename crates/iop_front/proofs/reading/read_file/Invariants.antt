use Rattle.std.proofs.Common.{◌≡◌, ◌≤◌, ◌-◌, length}
use Rattle.iop_front.proofs.ReadingLemmas.{HasReadSoFar}
use Rattle.iop_front.proofs.reading.read_file.Given as goal

abbrev pub invariant-loop-len : goal.invariant-loop-len
invariant-loop-len g l = record {
  within : l.len ≤ length l.buf;
  told : HasReadSoFar l.name (g.F.Files.faults l.fn.files) l.len l.buf
      (g.F.Files.told l.fn.files) (g.F.Files.told l.files);
  no_fault : g.F.Files.faults l.files ≡ g.F.Files.faults l.fn.files;
}

abbrev pub decreases-loop-len : goal.decreases-loop-len
decreases-loop-len g l = length l.buf - l.len
