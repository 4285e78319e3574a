use Rattle.std.proofs.Common.{is_some, rules, tests}
use Rattle.std.proofs.lemmas.Iterator.{YieldsList-from_slice}
use Rattle.std.proofs.lemmas.Iterator.Consumers.{YieldsList-from_filter, count_from_yields_List}
use Rattle.iop_thread.proofs.places.count.Goals as goal

pub returns : goal.returns
returns c =
    count_from_yields_List _ _ c.count.ensures.ran
    (YieldsList-from_filter _ is_some (YieldsList-from_slice c.args.places.now cc)
    c.filter.ensures.closure (λ x b q k. search (rules, tests)))
