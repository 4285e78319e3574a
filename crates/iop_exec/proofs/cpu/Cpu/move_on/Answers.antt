use Rattle.std.proofs.Common.{ap, sym, ◌∙◌}
use Rattle.iop_exec.specs.Processors.{cpu_of, position_of, standing_at, next_position}
use Rattle.iop_exec.specs.Row.{after_write_back}
use Rattle.iop_exec.specs.declared.registers.Registers.{Registers}
use Rattle.iop_exec.proofs.WritingBack.{position-after_write_back}
use Rattle.iop_exec.proofs.cpu.Cpu.move_on.Goals as goal

pub returns : goal.returns
returns c =
    let old = c.args.self.now in
    let p = position_of old in
    c.standing_at.ensures
    ∙ ap (cpu_of c.write_back.new.self) (c.advance.ensures
    ∙ ap next_position c.of-position.ensures)
    ∙ ap (standing_at (next_position p)) (c.write_back.ensures p
    ∙ ap (λ (r : Registers). after_write_back (cpu_of r p)) c.of-registers.ensures)
    ∙ ap (λ p. standing_at (next_position p) (after_write_back old)) (sym (position-after_write_back old))
