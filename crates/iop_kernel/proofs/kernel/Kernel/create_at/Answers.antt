use Rattle.std.proofs.Common.{refl, ◌∙◌, arith}
use Rattle.iop_base.proofs.Giving.{gives_none}
use Rattle.iop_sysmem.specs.Allocating.{allocating}
use Rattle.iop_kernel.specs.Standing.{system}
use Rattle.iop_kernel.specs.declared.stacks.TheConstants.{FROM_ABOVE}
use Rattle.iop_kernel.proofs.Bodies.StackBlocks.{nothing_taken, taken_fits, creates_nowhere, creates_there}
use Rattle.iop_kernel.proofs.kernel.Kernel.create_at.Goals as goal

pub block_len-stack_size-requires : goal.block_len-stack_size-requires
block_len-stack_size-requires g c =
    let told = c.alloc-stack.ensures in
    let fits = taken_fits c.args.blocks.now told.was_blocks FROM_ABOVE c.args.param.stack_size 0
    c.alloc-stack.result told.place c.if-stack-eq0.false in
    omega (arith, fits, c.requires.same_size, c.requires.sized)

pub returns-then-stack-eq0 : goal.returns-then-stack-eq0
returns-then-stack-eq0 g c = λ k libraries h.
    let told = c.alloc-stack.ensures in
    let map = c.args.blocks.now in
    let size = c.args.param.stack_size in
    let stack = c.alloc-stack.result in
    let none = c.if-stack-eq0.true in
    let same = nothing_taken map told.was_blocks FROM_ABOVE size 0 stack told.place none in
    let s = system k c.args.cpu.now c.args.guest.now map libraries in
    rw (creates_nowhere s c.args.param (allocating map FROM_ABOVE size 0) stack told.place none)
    (record {
      core = record {
        answer = c.answer.ensures.after;
        kernel = h;
        processor = c.answer.ensures.processor;
      };
      ram = refl;
      map = told.map ∙ same;
      registry = refl;
      gives = gives_none (g.L.Lines.output c.args.lines.now);
    })

pub returns : goal.returns
returns g c = λ k libraries h.
    let told = c.alloc-stack.ensures in
    let map = c.args.blocks.now in
    let taken = allocating map FROM_ABOVE c.args.param.stack_size 0 in
    let new = c.alloc-stack.new.self in
    let s = system k c.args.cpu.now c.args.guest.now map libraries in
    rw (creates_there s c.args.param taken c.alloc-stack.result told.place
    c.block_len-stack_size.result new c.block_len-stack_size.ensures told.map
    c.if-stack-eq0.false) (c.create_on.ensures k new libraries h)
