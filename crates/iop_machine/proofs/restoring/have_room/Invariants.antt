use Rattle.std.proofs.Common.{◌≡◌, ◌∷◌, drop, length, nat_le}
use Rattle.iop_machine.specs.Modules.{strings}
use Rattle.iop_machine.specs.declared.arguments.TheConstants.{MOST_WORD_BYTES}
use Rattle.iop_machine.proofs.restoring.have_room.Given as goal

-- so many bytes are left for the words that are left
abbrev pub invariant-loop-word : goal.invariant-loop-word
invariant-loop-word l =
    nat_le (length (strings (l.first ∷ l.words))) MOST_WORD_BYTES
    ≡ nat_le (length (strings (drop l.word-index l.words))) l.left
