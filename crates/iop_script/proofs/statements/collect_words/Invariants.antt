use Rattle.std.proofs.Common.{◌≡◌, ◌++◌, length}
use Rattle.std.specs.Option.{option_copied}
use Rattle.iop_script.specs.Texts.{space, parts_behind}
use Rattle.iop_script.proofs.statements.collect_words.Given as goal

abbrev pub invariant-loop-left : goal.invariant-loop-left
invariant-loop-left l =
    parts_behind space (option_copied l.fn.fields)
    ≡ l.words.items ++ parts_behind space (option_copied l.left)

abbrev pub decreases-loop-left : goal.decreases-loop-left
decreases-loop-left l = length (parts_behind space (option_copied l.left))
