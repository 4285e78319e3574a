use Rattle.std.proofs.Common.{List, sym, subst, arith}
use Rattle.iop_sysmem.specs.BlockMap.{BlockMap, AreBlocks}
use Rattle.iop_sysmem.specs.declared.block.Block.{Block}
use Rattle.iop_sysmem.proofs.PuttingBack.{asked, put_back-blocks, put_back-room}
use Rattle.iop_sysmem.proofs.blocks.Blocks.put_back.Goals as goal

-- there is room for one more
pub push_reserved-requires : goal.push_reserved-requires
push_reserved-requires c =
    let map : BlockMap = record { size = c.self.inside.size; used = c.self.inside.used.items } in
    let may = asked c.args.block c.self.view_is c.may_follow-may.ensures c.if-may.true in
    let room = put_back-room map c.args.block c.self.invariant.0 may in
    omega (arith, room, c.self.invariant.2, c.self.inside.used.ok)

blocks : (c : goal.After-push_reserved)
    → AreBlocks (record { size = c.self.inside.size; used = c.push_reserved.new.self.items })
blocks c =
    let map : BlockMap = record { size = c.self.inside.size; used = c.self.inside.used.items } in
    let may = asked c.args.block c.self.view_is c.may_follow-may.ensures c.if-may.true in
    subst (λ (used : List Block). AreBlocks (record map { used = used }))
    (sym c.push_reserved.ensures.items)
    (put_back-blocks map c.args.block c.self.invariant.0 may)

pub invariant_of-self : goal.invariant_of-self
invariant_of-self c = (
  blocks c,
  c.self.invariant.1,
  omega (arith, c.self.invariant.2, c.push_reserved.ensures.capacity),
)

pub returns-then-may-clause-blocks : goal.returns-then-may-clause-blocks
returns-then-may-clause-blocks c = blocks c
