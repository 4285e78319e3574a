use Rattle.std.proofs.Common.{arith}
use Rattle.iop_cblock.proofs.Standing.{sound_from, view_from}
use Rattle.iop_cblock.proofs.Puts.{put-stands, place_below, before_below}
use Rattle.iop_cblock.proofs.Fields.{own}
use Rattle.iop_cblock.proofs.Disjoint.{view_disjoint}
use Rattle.iop_cblock.proofs.arena.Arena.put.Goals as goal

pub index-before-requires : goal.index-before-requires
index-before-requires c =
    let a = c.self.inside in
    let f = own a c.args.self.now c.self.invariant c.self.view_is in
    let below =
    place_below a.nodes a.next.items a.previous.items a.owner.items c.args.list c.args.node
    c.args.place c.args.self.now f c.requires in
    omega (arith, below.1)

pub index_mut-requires : goal.index_mut-requires
index_mut-requires c =
    let a = c.self.inside in
    let f = own a c.args.self.now c.self.invariant c.self.view_is in
    let below =
    before_below a.nodes a.next.items a.previous.items a.owner.items c.args.list c.args.node
    c.args.place c.args.self.now f c.requires
    c.index-before.result.now c.index-before.ensures in
    omega (arith, below)

pub index_mut-requires-3 : goal.index_mut-requires-3
index_mut-requires-3 c =
    let a = c.self.inside in
    let f = own a c.args.self.now c.self.invariant c.self.view_is in
    let below =
    place_below a.nodes a.next.items a.previous.items a.owner.items c.args.list c.args.node
    c.args.place c.args.self.now f c.requires in
    omega (arith, below.1)

pub invariant_of-self : goal.invariant_of-self
invariant_of-self c =
    let a = c.self.inside in
    let f = own a c.args.self.now c.self.invariant c.self.view_is in
    sound_from _ _
    (put-stands a.nodes a.next.items a.previous.items a.owner.items c.args.list c.args.node
    c.args.place c.args.self.now f c.requires
    c.index-before.result.now c.index-before.ensures)

pub returns : goal.returns
returns c =
    let a = c.self.inside in
    let f = own a c.args.self.now c.self.invariant c.self.view_is in
    let after =
    put-stands a.nodes a.next.items a.previous.items a.owner.items c.args.list c.args.node
    c.args.place c.args.self.now f c.requires
    c.index-before.result.now c.index-before.ensures in
    record { lists = view_from _ _ after; disjoint = view_disjoint _ _ after }
