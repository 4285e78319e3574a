use Rattle.std.proofs.Common.{◌≡◌, ◌∙◌, rules}
use Rattle.iop_ready.specs.ReadyList.{is_listed}
use Rattle.iop_ready.proofs.Agreeing.{listed-stands}
use Rattle.iop_ready.proofs.plain_ready.PlainReadyReady.contains.Goals as goal

pub returns : goal.returns
returns c xs h =
    let own : c.is_listed.result ≡ is_listed c.args.slot c.args.self.now =
    rw (← c.self.view_is) (search rules) in
    own ∙ listed-stands c.args.slot h
