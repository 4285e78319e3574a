use Rattle.iop_cblock.proofs.Fields.{links, own, list_of-read, list-below}
use Rattle.iop_cblock.proofs.arena.Arena.list_of.Goals as goal

pub returns : goal.returns
returns c =
    let t = links c.self.inside in
    let s = c.args.self.now in
    let f = own c.self.inside s c.self.invariant c.self.view_is in
    let o = c.index.result.now in
    let read = list_of-read t s f c.args.node c.requires o c.index.ensures in
    record { list = read; below = list-below t s f c.args.node c.requires o read }
