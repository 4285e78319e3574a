use Rattle.std.proofs.Common.{ap, ◌∙◌}
use Rattle.iop_exec.specs.Processors.{cpu_of}
use Rattle.iop_exec.specs.Row.{at_next, with_reg}
use Rattle.iop_exec.specs.declared.cpu.Cpu.{Cpu}
use Rattle.iop_exec.proofs.registers.Registers.complete.Goals as goal

pub returns-clause-state : goal.returns-clause-state
returns-clause-state c =
    ap (cpu_of c.write.new.self) c.advance.ensures
    ∙ ap (λ (x : Cpu). at_next x) (c.write.ensures c.args.position.now
    ∙ ap (λ (x : Cpu). with_reg x c.args.register c.args.value)
    (c.write_back.ensures c.args.position.now))
