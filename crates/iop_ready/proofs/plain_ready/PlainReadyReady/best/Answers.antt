use Rattle.std.proofs.Common.{◌≡◌, ◌∙◌, rules}
use Rattle.iop_ready.specs.ReadyList.{best_slot}
use Rattle.iop_ready.proofs.Agreeing.{best_slot-stands}
use Rattle.iop_ready.proofs.plain_ready.PlainReadyReady.best.Goals as goal

pub returns : goal.returns
returns c xs h =
    let own : c.map.result ≡ best_slot c.args.self.now = rw (← c.self.view_is) (search rules) in
    own ∙ best_slot-stands h
