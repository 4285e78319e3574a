use Rattle.std.proofs.Common.{ℕ, ◌+◌, ap, sym, ◌∙◌}
use Rattle.iop_base.specs.Numbers.{wrapped}
use Rattle.iop_exec.specs.Processors.{cpu_of}
use Rattle.iop_exec.specs.Row.{with_reg}
use Rattle.iop_exec.proofs.registers.Registers.link.Goals as goal

pub returns : goal.returns
returns c = λ p same.
    c.write.ensures p
    ∙ ap (λ (pc : ℕ). with_reg (cpu_of c.args.self.now p) c.args.register (wrapped (pc + 8)))
    (sym same)
