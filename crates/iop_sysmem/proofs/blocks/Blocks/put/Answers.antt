use Rattle.std.proofs.Common.{◌≡◌, ◌<◌, ◌≤◌, sym, subst, arith, length, ◌∙◌, ap}
use Rattle.std.specs.Prelude.{IsOk}
use Rattle.std.proofs.lemmas.List.{get_or_default}
use Rattle.iop_sysmem.specs.BlockMap.{BlockMap, no_block, block_of, AreBlocks, with_block}
use Rattle.iop_sysmem.specs.Placing.{IsFree}
use Rattle.iop_sysmem.specs.declared.block.Block.{Block}
use Rattle.iop_sysmem.proofs.Changing.{CanStand, with_index, room}
use Rattle.iop_sysmem.proofs.Keeping.{with_block-blocks}
use Rattle.iop_sysmem.proofs.blocks.Blocks.put.Goals.{then-loop-index-test+else-index-place, else-loop-index-test}
use Rattle.iop_sysmem.proofs.blocks.Blocks.put.Goals as goal

abbrev old : goal.After-insert → BlockMap
old c = record { size = c.self.inside.size; used = c.self.inside.used.items }

abbrev new : goal.After-insert → BlockMap
new c = record { size = c.self.inside.size; used = c.insert.new.self.items }

-- the loop ended at the end, or at a block that is not in front of the place
next : (c : goal.After-insert) → c.loop-index.index < length (old c).used →
    c.args.place ≤ (block_of (old c) c.loop-index.index).start
next c h = elim c.loop-index-test.branch [
  | then-loop-index-test+else-index-place w ↦ (
      let e =
      ap (λ (x : Block). x.start) (w.index.ensures
      ∙ get_or_default (old c).used c.loop-index.index w.index.result.now no_block h) in
      let l = w.if-index-place.false in omega arith)
  | else-loop-index-test w ↦
      absurd (omega (arith, c.len.ensures, c.self.inside.used.ok, w.loop-index-test.false))
]

stands : (c : goal.After-insert) → CanStand (old c) c.loop-index.index c.args.place c.args.len
stands c = record {
  free =
      subst (λ (m : BlockMap). IsFree m c.args.len c.args.place) (sym c.self.view_is)
      c.requires.free;
  size = c.requires.size;
  in_list = c.loop-index.invariant.0;
  before = c.loop-index.invariant.1;
  next = next c;
}

is_put : (c : goal.After-insert) → IsOk c.insert.result
is_put c =
    let fits =
    room (old c) c.self.invariant.0 c.loop-index.index c.args.place c.args.len (stands c) in
    c.insert.ensures.succeeds (omega (arith, fits, c.self.invariant.2, c.self.inside.used.ok))

-- the ranges in the field with the new one are those of the map with it
is_with : (c : goal.After-insert) → new c ≡ with_block (old c) c.args.place c.args.len
is_with c =
    let is =
    with_index (old c) c.self.invariant.0 c.loop-index.index c.args.place c.args.len
    (stands c) in
    grind (arith, is, c.insert.ensures.items, is_put c)

blocks : (c : goal.After-insert) → AreBlocks (new c)
blocks c =
    subst AreBlocks (sym (is_with c)) (with_block-blocks (old c) c.self.invariant.0 c.args.place
    c.args.len (stands c).free c.requires.size)

pub invariant_of-self : goal.invariant_of-self
invariant_of-self c = (
  blocks c,
  c.self.invariant.1,
  omega (arith, c.self.invariant.2, c.insert.ensures.capacity),
)

pub returns-clause-blocks : goal.returns-clause-blocks
returns-clause-blocks c = blocks c

pub returns-clause-map : goal.returns-clause-map
returns-clause-map c = is_with c ∙ ap (λ m. with_block m c.args.place c.args.len) c.self.view_is
