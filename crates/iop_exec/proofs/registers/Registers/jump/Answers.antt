use Rattle.std.proofs.Common.{ap, ◌∙◌}
use Rattle.iop_exec.specs.Processors.{cpu_of}
use Rattle.iop_exec.specs.Row.{after_jump}
use Rattle.iop_exec.specs.declared.cpu.Cpu.{Cpu}
use Rattle.iop_exec.proofs.registers.Registers.jump.Goals as goal

pub returns-clause-state : goal.returns-clause-state
returns-clause-state c =
    ap (cpu_of c.write_back.new.self) c.jump.ensures.position
    ∙ ap (λ (x : Cpu). after_jump x c.args.target) (c.write_back.ensures c.args.position.now)
