use Rattle.std.proofs.Common.{◌∙◌, rules, tests, nat_eq}
use Rattle.std.proofs.lemmas.Iterator.{YieldsList-from_slice}
use Rattle.std.proofs.lemmas.Iterator.Consumers.{YieldsList-from_filter, nth_from_yields_List}
use Rattle.iop_ready.proofs.plain_ready.entry_at.Goals as goal

pub returns : goal.returns
returns c =
    c.copied.ensures
    ∙ nth_from_yields_List _ _ c.args.place c.nth.ensures.ran
    (YieldsList-from_filter _ (λ e. nat_eq e.priority c.args.priority)
    (YieldsList-from_slice c.args.entries.now cc) c.filter.ensures.closure
    (λ x b q k. search (rules, tests)))
