use Rattle.std.proofs.Common.{ap, sym, ◌∙◌}
use Rattle.iop_ram.specs.Windows.{window_of}
use Rattle.iop_machine.specs.Iop.{Iop}
use Rattle.iop_machine.proofs.machine.Machine.window.Goals as goal

pub returns : goal.returns
returns c w h =
    c.window.ensures.window
    ∙ ap (λ ram. window_of ram c.args.from c.args.len)
    (c.ram.ensures.value ∙ ap (λ (s : Iop). s.memory.ram) (sym h.iop.rest))
