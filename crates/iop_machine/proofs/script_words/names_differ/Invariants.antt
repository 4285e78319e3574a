use Rattle.std.proofs.Common.{◌≡◌, drop}
use Rattle.iop_machine.specs.ScriptWords.{names_differ}
use Rattle.iop_machine.proofs.script_words.names_differ.Given as goal

-- none of those in front is for the same as one behind it
abbrev pub invariant-loop-place : goal.invariant-loop-place
invariant-loop-place l = names_differ l.named ≡ names_differ (drop l.place l.named)
