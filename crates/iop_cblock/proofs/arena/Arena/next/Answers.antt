use Rattle.std.proofs.Common.{◌∙◌, sym}
use Rattle.iop_cblock.proofs.Fields.{links, own, list_of-read, next_of-read, next_of-none}
use Rattle.iop_cblock.proofs.arena.Arena.next.Goals as goal

pub returns-in-Some : goal.returns-in-Some
returns-in-Some c =
    let t = links c.self.inside in
    let s = c.args.self.now in
    let f = own c.self.inside s c.self.invariant c.self.view_is in
    let read = list_of-read t s f c.args.node c.requires c.index.result.now c.index.ensures in
    record {
      node =
          c.node_at.ensures.place
          ∙ next_of-read t s f c.args.node c.requires c.in-Some.field-0 (sym read ∙ c.in-Some.is)
          c.index-in-Some.result.now c.index-in-Some.ensures;
      below = rw (← f.nodes) c.node_at.ensures.below;
    }

pub returns-in-None : goal.returns-in-None
returns-in-None c =
    let t = links c.self.inside in
    let s = c.args.self.now in
    let f = own c.self.inside s c.self.invariant c.self.view_is in
    let read = list_of-read t s f c.args.node c.requires c.index.result.now c.index.ensures in
    record { node = next_of-none t s f c.args.node (sym read ∙ c.in-None.is); below = tt }
