use Rattle.std.proofs.Common.{◌≡◌, ◌+◌, ◌++◌, drop, length}
use Rattle.iop_machine.specs.Modules.{addresses, strings}
use Rattle.iop_machine.proofs.arguments.append_addresses.Given as goal

-- what is still to be appended, and where its words end
abbrev pub invariant-loop-word : goal.invariant-loop-word
invariant-loop-word l = record {
  rest : l.block.items ++ addresses l.at (drop l.word-index l.words)
      ≡ l.initial.block.items ++ addresses l.initial.at l.words;
  end : l.at + length (strings (drop l.word-index l.words))
      ≡ l.initial.at + length (strings l.words);
}
