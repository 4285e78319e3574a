use Rattle.std.proofs.Common.{length}
use Rattle.irx_view.proofs.entries.Marks.new.Given as goal

abbrev pub decreases-loop-section : goal.decreases-loop-section
decreases-loop-section l = length l.lists
