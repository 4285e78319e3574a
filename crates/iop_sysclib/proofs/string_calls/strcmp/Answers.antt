use Rattle.std.proofs.Common.{ap, ◌∙◌}
use Rattle.iop_printf.specs.Texts.{string_at}
use Rattle.iop_sysclib.specs.MemoryCalls.{compared}
use Rattle.iop_sysclib.proofs.StringOrder.{strcmp_is}
use Rattle.iop_sysclib.proofs.string_calls.strcmp.Goals as goal

pub returns : goal.returns
returns c =
    let ram = c.args.guest.now.ram in
    c.compared.ensures
    ∙ ap (λ first. compared first c.string-2.result.now) c.string.ensures.text
    ∙ ap (λ second. compared (string_at ram c.args.a) second) c.string-2.ensures.text
    ∙ strcmp_is ram c.args.a c.args.b
