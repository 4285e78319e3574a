use Rattle.std.proofs.Common.{take}
use Rattle.iop_base.specs.Output.{Gives}
use Rattle.iop_stubs.specs.Stubs.{stub_lines}
use Rattle.iop_stubs.proofs.live_stubs.give_lines.Given as goal

abbrev pub invariant-loop-stub : goal.invariant-loop-stub
invariant-loop-stub g l =
    Gives (g.L.Lines.output l.fn.lines) (g.L.Lines.output l.lines)
    (stub_lines l.t l.place l.len (take l.stub-index l.stubs))
