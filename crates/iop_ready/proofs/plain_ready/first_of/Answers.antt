use Rattle.std.proofs.Common.{◌∙◌, rules, tests, nat_eq}
use Rattle.std.proofs.lemmas.Iterator.Search.{find_from_yields_List}
use Rattle.std.proofs.lemmas.Iterator.{YieldsList-from_slice}
use Rattle.iop_ready.proofs.plain_ready.first_of.Goals as goal

pub returns : goal.returns
returns c =
    c.copied.ensures
    ∙ find_from_yields_List (λ e. nat_eq e.priority c.args.priority) _ _ _ c.find.ensures.ran
    (YieldsList-from_slice c.args.entries.now cc) (λ x b q k. search (rules, tests))
