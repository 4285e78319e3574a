use Rattle.std.proofs.Common.{rules}
use Rattle.iop_modload.proofs.Lending.{written-always}
use Rattle.iop_modload.proofs.loading.write_image.Goals as goal

pub returns-clause-memory : goal.returns-clause-memory
returns-clause-memory g c =
    written-always _ _ _ _ c.args.base c.args.len _ _ c.with_window.ensures.memory
    (λ answer before after call. search rules)
