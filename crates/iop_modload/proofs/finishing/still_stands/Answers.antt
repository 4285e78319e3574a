use Rattle.std.proofs.Common.{◌≡◌, Bool, arith, ◌∙◌}
use Rattle.std.proofs.lemmas.Bool.Decides.{nat_tests}
use Rattle.iop_modload.proofs.Standing.{is_asked, has_block-asked}
use Rattle.iop_modload.proofs.finishing.still_stands.Goals.{then-start-ne0, else-start-ne0}
use Rattle.iop_modload.proofs.finishing.still_stands.Goals as goal

pub returns-then-start-place-clause-stands : goal.returns-then-start-place-clause-stands
returns-then-start-place-clause-stands c =
    let asked : Bool = is_asked c.args.place.now.base c.top-start.result c.block_size-size.result
    c.args.place.now.len in
    let same : c.is_block_len.result ≡ asked = elim c.if-start-ne0.branch [
      | then-start-ne0 w ↦ grind (arith, nat_tests)
      | else-start-ne0 w ↦ grind (arith, nat_tests)
    ] in
    same ∙ has_block-asked c.args.blocks.now c.top-start.ensures.blocks c.requires
    c.args.place.now.base c.args.place.now.len _ _ c.top-start.ensures.start
    c.block_size-size.ensures.size

pub returns-else-start-place-clause-stands : goal.returns-else-start-place-clause-stands
returns-else-start-place-clause-stands c =
    let asked : Bool = is_asked c.args.place.now.base c.top-start.result c.block_size-size.result
    c.args.place.now.len in
    let same : c.if-start-ne0.value ≡ asked = elim c.if-start-ne0.branch [
      | then-start-ne0 w ↦ grind (arith, nat_tests)
      | else-start-ne0 w ↦ grind (arith, nat_tests)
    ] in
    same ∙ has_block-asked c.args.blocks.now c.top-start.ensures.blocks c.requires
    c.args.place.now.base c.args.place.now.len _ _ c.top-start.ensures.start
    c.block_size-size.ensures.size
