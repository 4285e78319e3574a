use Rattle.std.proofs.Common.{take}
use Rattle.iop_stubs.specs.Covering.{Uncovers}
use Rattle.iop_stubs.proofs.live_stubs.uncover.Given as goal

abbrev pub invariant-loop-stub : goal.invariant-loop-stub
invariant-loop-stub l =
    Uncovers l.place l.len (take l.stub-index l.stubs) l.fn.covered.bits.items l.covered.bits.items
