use Rattle.std.proofs.Common.{◌∙◌}
use Rattle.iop_cblock.proofs.Fields.{links, own, pushed_back-is}
use Rattle.iop_cblock.proofs.arena.Arena.push_back.Goals as goal

pub returns : goal.returns
returns c =
    let s = c.args.self.now in
    let f = own c.self.inside s c.self.invariant c.self.view_is in
    record {
      lists =
          c.put.ensures.lists
          ∙ pushed_back-is (links c.self.inside) s f c.args.list c.requires.list c.args.node;
      disjoint = c.put.ensures.disjoint;
    }
