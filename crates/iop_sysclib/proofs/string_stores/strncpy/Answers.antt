use Rattle.std.proofs.Common.{take, ap, ◌∙◌}
use Rattle.iop_printf.specs.Texts.{string_at}
use Rattle.iop_sysclib.proofs.ServedCalls.{served_as}
use Rattle.iop_sysclib.proofs.StringRanges.{held_text, strncpy_is}
use Rattle.iop_sysclib.proofs.string_stores.strncpy.Goals as goal

pub copy-requires-clause-source : goal.copy-requires-clause-source
copy-requires-clause-source g c =
    (held_text c.args.guest.now c.args.to c.args.from c.args.len c.string_at.result.now
    (c.string_at.ensures.text
    ∙ ap (λ ram. take c.args.len (string_at ram c.args.from)) c.ram.ensures.value)).open_is

pub returns-clause-served : goal.returns-clause-served
returns-clause-served g c =
    served_as
    (strncpy_is c.args.guest.now c.args.to c.args.from c.args.len c.string_at.result.now
    (c.string_at.ensures.text
    ∙ ap (λ ram. take c.args.len (string_at ram c.args.from)) c.ram.ensures.value))
    c.copy.ensures.served
