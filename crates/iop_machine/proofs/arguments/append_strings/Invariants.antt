use Rattle.std.proofs.Common.{◌≡◌, ◌++◌, drop}
use Rattle.iop_machine.specs.Modules.{strings}
use Rattle.iop_machine.proofs.arguments.append_strings.Given as goal

-- what is still to be appended
abbrev pub invariant-loop-word : goal.invariant-loop-word
invariant-loop-word l =
    l.block.items ++ strings (drop l.word-index l.words)
    ≡ l.initial.block.items ++ strings l.words
