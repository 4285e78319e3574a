use Rattle.std.proofs.Common.{◌≡◌, subst, ap, refl, arith, None, Some}
use mathlib.Core.Logic.{inl, inr}
use Rattle.iop_sysmem.specs.BlockMap.{AreBlocks}
use Rattle.iop_sysmem.specs.Allocating.{allocating}
use Rattle.iop_sysmem.proofs.Finding.{allocating-taken, allocating-nothing}
use Rattle.iop_sysmem.proofs.blocks.Blocks.alloc.Goals.{then-size-eq0-via-then-size-eq0, then-size-eq0-via-else-size-eq0+then-size-self}
use Rattle.iop_sysmem.proofs.blocks.Blocks.alloc.Goals as goal

pub returns-then-size-eq0 : goal.returns-then-size-eq0
returns-then-size-eq0 c =
    let map = c.args.self.now in
    let blocks : AreBlocks map = subst AreBlocks c.self.view_is c.self.invariant.0 in
    let is : allocating map c.args.mode c.args.size c.args.at ≡ (0, map) =
    allocating-nothing map blocks c.args.mode c.args.size c.args.at
    (elim c.then-size-eq0.branch [
      | then-size-eq0-via-then-size-eq0 w ↦ inl w.if-size-eq0.true
      | then-size-eq0-via-else-size-eq0+then-size-self w ↦
          inr (let more = w.if-size-self.true in let size = ap (λ m. m.size) c.self.view_is in omega arith)
    ]) in
    record { place = rw is refl; map = rw is refl; was_blocks = blocks; blocks = blocks }

pub returns-in_default : goal.returns-in_default
returns-in_default c =
    let map = c.args.self.now in
    let blocks : AreBlocks map = subst AreBlocks c.self.view_is c.self.invariant.0 in
    let is =
    allocating-taken map blocks c.args.mode c.args.size c.args.at
    (omega (arith, c.if-size-eq0.false)) _ c.block_len-len.ensures None
    (λ place. c.in_default.ensures place) in
    record { place = rw is refl; map = rw is refl; was_blocks = blocks; blocks = blocks }

pub returns : goal.returns
returns c =
    let map = c.args.self.now in
    let blocks : AreBlocks map = subst AreBlocks c.self.view_is c.self.invariant.0 in
    let is =
    allocating-taken map blocks c.args.mode c.args.size c.args.at
    (omega (arith, c.if-size-eq0.false)) _ c.block_len-len.ensures (Some c.in-Some.place)
    c.in-Some.ensures in
    record {
      place = rw is refl;
      map = rw is c.put.ensures.map;
      was_blocks = blocks;
      blocks = c.put.ensures.blocks;
    }
