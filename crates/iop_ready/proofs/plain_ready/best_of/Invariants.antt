use Rattle.std.proofs.Common.{◌≡◌, take}
use Rattle.iop_ready.specs.ReadyList.{best_of}
use Rattle.iop_ready.proofs.plain_ready.best_of.Given as goal

abbrev pub invariant-loop-entry : goal.invariant-loop-entry
invariant-loop-entry l = l.best ≡ best_of (take l.entry-index l.entries)
