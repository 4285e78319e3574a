use Rattle.std.proofs.Common.{ℕ, refl, ap, ◌∙◌}
use Rattle.iop_exec.specs.Processors.{cpu_of}
use Rattle.iop_exec.specs.Row.{after_branch, with_link, after_write_back}
use Rattle.iop_exec.specs.declared.cpu.Cpu.{Cpu}
use Rattle.iop_exec.proofs.registers.Registers.branch_and_link.Goals as goal

pub returns-clause-state : goal.returns-clause-state
returns-clause-state c =
    let p = c.args.position.now in
    ap (cpu_of c.link.new.self) c.branch-position.ensures.position
    ∙ ap (λ (x : Cpu). after_branch x c.args.taken c.args.imm)
    (c.link.ensures p refl ∙ ap (λ (x : Cpu). with_link x c.new.result) (c.write_back.ensures p))
    ∙ ap (λ (n : ℕ). after_branch (with_link (after_write_back (cpu_of c.args.self.now p)) n)
    c.args.taken c.args.imm) c.new.ensures
