use Rattle.std.proofs.Common.{◌≡◌, ◌++◌, take}
use Rattle.irx_build.specs.Files.{words}
use Rattle.irx_build.proofs.writing.push_words.Given as goal

abbrev pub invariant-loop-number : goal.invariant-loop-number
invariant-loop-number l =
    l.file.items ≡ l.initial.file.items ++ words (take l.number-index l.numbers)
