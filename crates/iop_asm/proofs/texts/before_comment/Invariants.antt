use Rattle.std.proofs.Common.{◌≡◌, ◌++◌, drop, take}
use Rattle.iop_asm.specs.declared.quoting.Quoting.TheVariants.{Outside}
use Rattle.iop_asm.specs.Texts.{before_comment}
use Rattle.iop_asm.proofs.texts.before_comment.Given as goal

abbrev pub invariant-loop-index : goal.invariant-loop-index
invariant-loop-index l =
    take l.index l.line ++ before_comment l.quoting (drop l.index l.line)
    ≡ before_comment Outside l.line
