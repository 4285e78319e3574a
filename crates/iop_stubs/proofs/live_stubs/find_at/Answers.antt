use Rattle.std.proofs.Common.{None, ap, sym, ◌∙◌, option_copied}
use Rattle.iop_stubs.proofs.Searching.{found_at}
use Rattle.iop_stubs.proofs.live_stubs.find_at.Goals as goal

pub returns-in_err-stub : goal.returns-in_err-stub
returns-in_err-stub c =
    c.from_residual.ensures
    ∙ found_at c.args.place c.args.stubs.now c.requires None
    (sym (ap option_copied c.in_err-stub.was) ∙ c.first_from.ensures)

pub returns : goal.returns
returns c =
    c.then_some.ensures ∙ found_at c.args.place c.args.stubs.now c.requires _ c.in_ok-stub.ensures
