use Rattle.iop_base.proofs.Giving.{gives_none}
use Rattle.iop_stubs.proofs.StubLines.{stub_lines-more}
use Rattle.iop_stubs.proofs.live_stubs.give_lines.Goals as goal

pub loop-stub-init : goal.loop-stub-init
loop-stub-init g c = gives_none _

pub loop-stub-preserved : goal.loop-stub-preserved
loop-stub-preserved g c =
    stub_lines-more c.args.t c.args.place c.args.len c.args.stubs.now c.loop-stub.stub-index _
    c.loop-stub-test.true
    c.loop-stub.invariant c.give_line.ensures
