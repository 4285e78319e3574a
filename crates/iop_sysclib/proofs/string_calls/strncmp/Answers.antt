use Rattle.std.proofs.Common.{take, ap, ◌∙◌}
use Rattle.iop_printf.specs.Texts.{string_at}
use Rattle.iop_sysclib.specs.MemoryCalls.{compared}
use Rattle.iop_sysclib.specs.StringCalls.{strncmp}
use Rattle.iop_sysclib.proofs.StringOrder.{strncmp_is}
use Rattle.iop_sysclib.proofs.string_calls.strncmp.Goals as goal

pub returns : goal.returns
returns c =
    let lent = c.ram-ram.result.now in
    c.compared.ensures
    ∙ ap (λ first. compared first c.string_at-2.result.now) c.string_at.ensures.text
    ∙ ap (λ second. compared (take c.args.most (string_at lent c.args.a)) second)
    c.string_at-2.ensures.text
    ∙ strncmp_is lent c.args.a c.args.b c.args.most
    ∙ ap (λ ram. strncmp ram c.args.a c.args.b c.args.most) c.ram-ram.ensures.value
