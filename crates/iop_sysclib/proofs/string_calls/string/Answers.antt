use Rattle.std.proofs.Common.{ap, ◌∙◌}
use Rattle.iop_printf.specs.Texts.{string_at}
use Rattle.iop_printf.proofs.ShortStrings.{string_whole}
use Rattle.iop_sysclib.proofs.string_calls.string.Goals as goal

pub returns-clause-text : goal.returns-clause-text
returns-clause-text c =
    c.string_at.ensures.text
    ∙ string_whole c.ram-ram.result.now c.args.at c.size.result c.size.ensures.value
    ∙ ap (λ ram. string_at ram c.args.at) c.ram-ram.ensures.value
