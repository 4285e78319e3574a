use Rattle.std.proofs.Common.{ap, sym, ◌∙◌, min, ◌-◌}
use Rattle.std.specs.Option.{option_copied}
use Rattle.iop_base.specs.Places.{phys}
use Rattle.iop_printf.proofs.ShortStrings.{string_is}
use Rattle.iop_printf.proofs.strings.string_at.Goals as goal

pub returns-in-Some-window-clause-text : goal.returns-in-Some-window-clause-text
returns-in-Some-window-clause-text c =
    string_is c.args.ram.now c.args.at c.in-Some.place c.min-len.result
    (ap (λ n. phys n c.args.at) (sym c.size-size.ensures.value) ∙ sym c.physical.ensures
    ∙ c.in-Some.is)
    c.args.most _ _
    (c.min-len.ensures
    ∙ ap (λ n. min (n - c.in-Some.place) c.args.most) c.size-size.ensures.value)
    (sym c.window.ensures.window ∙ ap option_copied c.in-Some-window.is) c.before_zero.ensures.front
