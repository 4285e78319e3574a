use Rattle.std.proofs.Common.{◌≡◌, ◌++◌, take}
use Rattle.irx_build.specs.Files.{halves}
use Rattle.irx_build.proofs.writing.push_halves.Given as goal

abbrev pub invariant-loop-number : goal.invariant-loop-number
invariant-loop-number l =
    l.file.items ≡ l.initial.file.items ++ halves (take l.number-index l.numbers)
