use Rattle.std.proofs.Common.{ap, ◌∙◌}
use Rattle.iop_exec.specs.Processors.{cpu_of}
use Rattle.iop_exec.specs.Row.{after_branch}
use Rattle.iop_exec.specs.declared.cpu.Cpu.{Cpu}
use Rattle.iop_exec.proofs.registers.Registers.branch.Goals as goal

pub returns-clause-state : goal.returns-clause-state
returns-clause-state c =
    ap (cpu_of c.write_back.new.self) c.branch-position.ensures.position
    ∙ ap (λ (x : Cpu). after_branch x c.args.taken c.args.imm)
    (c.write_back.ensures c.args.position.now)
