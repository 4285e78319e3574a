use Rattle.std.proofs.Common.{sym, ◌∙◌}
use Rattle.iop_stubs.proofs.StubLines.{stub_lines-apart}
use Rattle.iop_stubs.proofs.live_stub.Stub.give_line.Goals as goal

pub returns-else-meets : goal.returns-else-meets
returns-else-meets g c = stub_lines-apart _ _ _ _ _ (sym c.meets.ensures ∙ c.if-meets.false)
