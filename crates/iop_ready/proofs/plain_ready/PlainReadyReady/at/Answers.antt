use Rattle.std.proofs.Common.{◌≡◌, ◌∙◌, rules}
use Rattle.iop_ready.specs.ReadyList.{slot_at}
use Rattle.iop_ready.proofs.Agreeing.{slot_at-stands}
use Rattle.iop_ready.proofs.plain_ready.PlainReadyReady.at.Goals as goal

pub returns : goal.returns
returns c xs h =
    let own : c.map.result ≡ slot_at c.args.priority c.args.place c.args.self.now =
    rw (← c.self.view_is) (search rules) in
    own ∙ slot_at-stands c.args.priority c.args.place h
