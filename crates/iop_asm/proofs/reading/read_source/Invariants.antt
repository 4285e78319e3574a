use Rattle.std.proofs.Common.{length, take, fold}
use Rattle.std.specs.Str.Lines.{lines}
use Rattle.iop_asm.specs.DraftFields.{IsDraft}
use Rattle.iop_asm.specs.Drafts.{empty_draft, after_line}
use Rattle.iop_asm.proofs.reading.read_source.Given as goal

abbrev pub invariant-loop-line : goal.invariant-loop-line
invariant-loop-line l =
    IsDraft l.draft (fold after_line empty_draft (take (length l.yielded) (lines l.source)))
