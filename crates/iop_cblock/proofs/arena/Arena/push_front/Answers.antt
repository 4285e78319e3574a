use Rattle.std.proofs.Common.{◌∙◌}
use Rattle.iop_cblock.proofs.Fields.{links, own, first_in, pushed_front-is}
use Rattle.iop_cblock.proofs.arena.Arena.push_front.Goals as goal

pub put-requires : goal.put-requires
put-requires c =
    let s = c.args.self.now in
    let f = own c.self.inside s c.self.invariant c.self.view_is in
    record {
      list_below = c.requires.list;
      node_below = c.requires.node;
      free = c.requires.free;
      in_ring =
          first_in (links c.self.inside) s f c.args.list c.requires.list c.index-first.result.now
          c.index-first.ensures;
    }

pub returns : goal.returns
returns c =
    let s = c.args.self.now in
    let f = own c.self.inside s c.self.invariant c.self.view_is in
    record {
      lists =
          c.put.ensures.lists
          ∙ pushed_front-is (links c.self.inside) s f c.args.list c.requires.list c.args.node
          c.index-first.result.now c.index-first.ensures;
      disjoint = c.put.ensures.disjoint;
    }
