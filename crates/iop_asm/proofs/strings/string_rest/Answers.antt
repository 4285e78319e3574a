use Rattle.std.proofs.Common.{arith}
use Rattle.iop_asm.proofs.StringLemmas.{strings}
use Rattle.iop_asm.proofs.strings.string_rest.Goals as goal
use Rattle.iop_asm.proofs.strings.string_rest.Goals.{then-escaped+in-Some+in_ok-push, else-escaped+else-byte-eq34+then-byte-eq92, else-escaped+else-byte-eq34+else-byte-eq92+in_ok-push-2}

pub loop-index-preserved : goal.loop-index-preserved
loop-index-preserved c =
    elim c.if-escaped.branch [
      | then-escaped+in-Some+in_ok-push w ↦ grind (arith, strings)
      | else-escaped+else-byte-eq34+then-byte-eq92 w ↦ grind (arith, strings)
      | else-escaped+else-byte-eq34+else-byte-eq92+in_ok-push-2 w ↦ grind (arith, strings)
    ]
