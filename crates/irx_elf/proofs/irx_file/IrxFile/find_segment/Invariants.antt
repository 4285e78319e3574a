use Rattle.std.proofs.Common.{◌≡◌, find}
use Rattle.irx_elf.specs.Headers.{segment_number, segments, is_of_kind}
use Rattle.irx_elf.proofs.Rows.{row}
use Rattle.irx_elf.proofs.irx_file.IrxFile.find_segment.Given as goal

abbrev pub invariant-loop-number : goal.invariant-loop-number
invariant-loop-number l =
    find (is_of_kind l.kind) (row (segment_number l.self.bytes.now) l.number l.number-end) ≡ find
    (is_of_kind l.kind) (segments l.self.bytes.now)
