use Rattle.std.proofs.Common.{None, ap, sym, ◌∙◌, option_copied}
use Rattle.std.specs.List.{find}
use Rattle.iop_stubs.specs.Stubs.{stands_from}
use Rattle.iop_stubs.proofs.Searching.{found_met}
use Rattle.iop_stubs.proofs.live_stubs.meets_one.Goals as goal

pub returns-in-Some : goal.returns-in-Some
returns-in-Some c =
    c.meets.ensures ∙ found_met c.args.place c.args.len c.args.stubs.now c.requires _
    (c.in-Some.ensures ∙ ap (λ q. find (stands_from q) c.args.stubs.now) c.saturating_sub.ensures)

pub returns-in-None : goal.returns-in-None
returns-in-None c = found_met c.args.place c.args.len c.args.stubs.now c.requires None
    (sym (ap option_copied c.in-None.is) ∙ c.first_from.ensures
    ∙ ap (λ q. find (stands_from q) c.args.stubs.now) c.saturating_sub.ensures)
