use Rattle.std.proofs.Common.{◌≡◌, ◌∙◌, arith}
use Rattle.iop_base.specs.Numbers.{with_bytes}
use Rattle.irx_view.specs.Texts.{image_memory}
use Rattle.irx_view.specs.declared.limits.TheConstants.{MOST_IMAGE}
use Rattle.irx_view.proofs.TextLemmas.{put_first}
use Rattle.irx_view.proofs.text.Text.new.Goals as goal

pub returns-clause-memory : goal.returns-clause-memory
unfolding image_memory
returns-clause-memory c =
    let zeros = c.in_ok-ram.ram in
    let image = c.args.image.now in
    let stored : c.store_bytes.new.self ≡ with_bytes zeros 0 image = grind arith in
    stored
    ∙ put_first MOST_IMAGE zeros image c.in_ok-ram.ensures.sized c.in_ok-ram.ensures.zero
