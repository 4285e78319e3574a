use Rattle.std.proofs.Common.{◌≡◌, true, ap, sym, ◌∙◌, arith}
use Rattle.std.proofs.lemmas.Bool.Decides.{nat_tests}
use Rattle.iop_kernel.specs.declared.pool_services.TheConstants.{FROM_BELOW}
use Rattle.iop_kernel.proofs.Bodies.StackBlocks.{nothing_taken, taken_ends, memory_nowhere, memory_there}
use Rattle.iop_kernel.proofs.pool_services.take_memory.Goals as goal

pub returns-then-base-eq0 : goal.returns-then-base-eq0
returns-then-base-eq0 c =
    let told = c.alloc-base.ensures in
    let map = c.args.blocks.now in
    let none = c.if-base-eq0.true in
    let same =
    nothing_taken map told.was_blocks FROM_BELOW c.args.bytes 0 c.alloc-base.result told.place none in
    let there : c.args.room ≡ true = grind (arith, nat_tests, c.if-not-room.false) in
    let did = memory_nowhere map c.args.room c.args.bytes c.alloc-base.result there told.place none in
    record {
      taken = sym (ap (λ d. d.0) did);
      left = told.map ∙ same ∙ sym (ap (λ d. d.1) did);
      inside = tt;
    }

pub returns : goal.returns
returns c =
    let told = c.alloc-base.ensures in
    let map = c.args.blocks.now in
    let some = c.if-base-eq0.false in
    let there : c.args.room ≡ true = grind (arith, nat_tests, c.if-not-room.false) in
    let did = memory_there map c.args.room c.args.bytes c.alloc-base.result there told.place some in
    let ends =
    taken_ends map told.was_blocks FROM_BELOW c.args.bytes 0 c.alloc-base.result told.place some in
    record {
      taken = sym (ap (λ d. d.0) did);
      left = told.map ∙ sym (ap (λ d. d.1) did);
      inside = omega (arith, ends, c.requires.sized);
    }
