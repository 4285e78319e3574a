use Rattle.std.proofs.Common.{rules}
use Rattle.std.proofs.lemmas.Fn.{filter_same}
use Rattle.iop_stubs.proofs.live_stubs.take_out.Goals as goal

pub returns-clause-stubs : goal.returns-clause-stubs
returns-clause-stubs g c =
    filter_same _ _ _ (λ x b f' k. search rules) _ _ c.retain.ensures.filtered
