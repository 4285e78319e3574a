use Rattle.std.proofs.Common.{◌≡◌, ◌++◌, replicate}
use Rattle.iop_printf.proofs.texts.fill.Given as goal

abbrev pub invariant-loop : goal.invariant-loop
invariant-loop l = l.text.items ≡ l.initial.text.items ++ replicate l.counter l.byte
