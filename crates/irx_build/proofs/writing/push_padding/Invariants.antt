use Rattle.std.proofs.Common.{◌≡◌, ◌++◌, replicate}
use Rattle.irx_build.proofs.writing.push_padding.Given as goal

abbrev pub invariant-loop : goal.invariant-loop
invariant-loop l = l.file.items ≡ l.initial.file.items ++ replicate l.counter 0
