use Rattle.std.proofs.Common.{◌≡◌, length}
use Rattle.std.specs.List.{list_all}
use Rattle.std.specs.Option.{option_copied}
use Rattle.iop_script.specs.Statements.{is_word}
use Rattle.iop_script.specs.Texts.{space, parts_behind}
use Rattle.iop_script.proofs.statements.are_words.Given as goal

abbrev pub invariant-loop-left : goal.invariant-loop-left
invariant-loop-left l =
    list_all is_word (parts_behind space (option_copied l.fn.fields))
    ≡ list_all is_word (parts_behind space (option_copied l.left))

abbrev pub decreases-loop-left : goal.decreases-loop-left
decreases-loop-left l = length (parts_behind space (option_copied l.left))
