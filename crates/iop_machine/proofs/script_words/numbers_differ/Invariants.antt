use Rattle.std.proofs.Common.{◌≡◌, drop}
use Rattle.iop_machine.specs.ScriptWords.{numbers_differ}
use Rattle.iop_machine.proofs.script_words.numbers_differ.Given as goal

-- none of those in front is for the same as one behind it
abbrev pub invariant-loop-place : goal.invariant-loop-place
invariant-loop-place l = numbers_differ l.args ≡ numbers_differ (drop l.place l.args)
