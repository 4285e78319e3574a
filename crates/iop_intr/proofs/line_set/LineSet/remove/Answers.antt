use Rattle.std.proofs.Common.{◌<◌, ◌^◌, w64, rules}
use Rattle.iop_base.proofs.Bits.{removed}
use Rattle.iop_intr.proofs.line_set.LineSet.remove.Goals as goal

pub returns : goal.returns
returns c =
    let fits : c.self.inside.bits < 2 ^ 64 = search rules in
    rw (← c.self.view_is) (removed w64 c.self.inside.bits fits c.args.line c.requires)
