use Rattle.std.proofs.Common.{refl, ap, ◌∙◌}
use Rattle.iop_exec.specs.Processors.{cpu_of}
use Rattle.iop_exec.specs.Row.{after_jump, with_link}
use Rattle.iop_exec.specs.declared.cpu.Cpu.{Cpu}
use Rattle.iop_exec.proofs.registers.Registers.jump_and_link.Goals as goal

pub returns-clause-state : goal.returns-clause-state
returns-clause-state c =
    let p = c.args.position.now in
    ap (cpu_of c.link.new.self) c.jump.ensures.position
    ∙ ap (λ (x : Cpu). after_jump x c.args.target)
    (c.link.ensures p refl
    ∙ ap (λ (x : Cpu). with_link x c.args.register) (c.write_back.ensures p))
