use Rattle.std.proofs.Common.{Some, ◌∙◌}
use Rattle.iop_stubs.proofs.PuttingBack.{ends_last}
use Rattle.iop_stubs.proofs.live_stubs.end_by.Goals as goal

pub returns-in-Some : goal.returns-in-Some
returns-in-Some c =
    c.ends_by.ensures
    ∙ ends_last c.args.place c.args.stubs.now c.requires (Some c.in-Some.stub.now)
    c.in-Some.ensures.value
