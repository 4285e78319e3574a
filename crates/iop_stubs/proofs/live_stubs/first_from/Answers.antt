use Rattle.std.proofs.Common.{ap, ◌∙◌}
use Rattle.std.specs.List.{slice_get}
use Rattle.iop_stubs.specs.Stubs.{stands_before}
use Rattle.iop_base.proofs.Lists.{option_copied-item, slice_get-prefix_len}
use Rattle.iop_stubs.proofs.live_stubs.first_from.Goals as goal

pub returns : goal.returns
returns c =
    option_copied-item c.args.stubs.now c.count_before.result c.get.result c.get.ensures.lookup
    ∙ ap (slice_get c.args.stubs.now) c.count_before.ensures
    ∙ slice_get-prefix_len (stands_before c.args.place) c.args.stubs.now
