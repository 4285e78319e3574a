use Rattle.std.proofs.Common.{◌∙◌, arith, sym}
use Rattle.iop_base.specs.BlockSizes.{block_len}
use Rattle.iop_modload.proofs.Standing.{tells-has_block, stands-inside, stands-some}
use Rattle.iop_modload.proofs.finishing.leave.Goals as goal

pub block_len-requires : goal.block_len-requires
block_len-requires g c =
    let map = c.args.blocks.now in
    let base = c.args.place.now.base in
    let size = block_len c.args.place.now.len in
    let stands = (tells-has_block map base size).0
    (sym c.still_stands.ensures.stands ∙ c.if-still_stands.true) in
    omega (arith, stands-inside map base size c.still_stands.ensures.blocks stands)

pub remove-requires-clause-some : goal.remove-requires-clause-some
remove-requires-clause-some g c =
    let map = c.args.blocks.now in
    let base = c.args.place.now.base in
    let size = block_len c.args.place.now.len in
    let stands = (tells-has_block map base size).0
    (sym c.still_stands.ensures.stands ∙ c.if-still_stands.true) in
    omega (arith, stands-some map base size c.still_stands.ensures.blocks stands)

pub remove-requires-clause-inside : goal.remove-requires-clause-inside
remove-requires-clause-inside g c =
    let map = c.args.blocks.now in
    let base = c.args.place.now.base in
    let size = block_len c.args.place.now.len in
    let stands = (tells-has_block map base size).0
    (sym c.still_stands.ensures.stands ∙ c.if-still_stands.true) in
    omega (arith, stands-inside map base size c.still_stands.ensures.blocks stands)
