use Rattle.std.proofs.Common.{ap, ◌∙◌, subst}
use Rattle.iop_exec.specs.Processors.{cpu_of, registers_of}
use Rattle.iop_exec.specs.Row.{row}
use Rattle.iop_exec.specs.Stepping.{DoesUpToCall}
use Rattle.iop_exec.specs.declared.cpu.Cpu.{Cpu}
use Rattle.iop_exec.specs.declared.registers.Registers.{Registers}
use Rattle.iop_exec.proofs.UpToCalls.{does_behind, does_all}
use Rattle.iop_exec.proofs.execution.step.Goals as goal

pub returns-in-Service : goal.returns-in-Service
returns-in-Service g c =
    let memory = g.B.Bus.bytes c.args.bus.now in
    let same = ap (λ (r : Registers). cpu_of r c.of-position.result) c.of-regs.ensures
    ∙ ap (cpu_of (registers_of c.args.cpu.now)) c.of-position.ensures in
    rw (c.move_on.ensures, c.standing_at.ensures)
    (does_behind g.B.Bus.bytes g.B.Bus.stores (row memory c.args.cpu.now) _ c.in-Service.field-0
    c.args.cpu.now _ _ _ c.in-Service.is
    (subst (λ (cpu : Cpu). DoesUpToCall g.B.Bus.bytes g.B.Bus.stores (row memory cpu)
    c.step_apart-event.result cpu c.args.bus.now
    (cpu_of c.step_apart-event.new.regs c.step_apart-event.new.position)
    c.step_apart-event.new.bus) same c.step_apart-event.ensures))

pub returns-in_default : goal.returns-in_default
returns-in_default g c =
    let memory = g.B.Bus.bytes c.args.bus.now in
    let same = ap (λ (r : Registers). cpu_of r c.of-position.result) c.of-regs.ensures
    ∙ ap (cpu_of (registers_of c.args.cpu.now)) c.of-position.ensures in
    rw c.standing_at.ensures
    (does_all g.B.Bus.bytes g.B.Bus.stores (row memory c.args.cpu.now) _
    c.args.cpu.now _ _ _ c.in_default.not-Service
    (subst (λ (cpu : Cpu). DoesUpToCall g.B.Bus.bytes g.B.Bus.stores (row memory cpu)
    c.step_apart-event.result cpu c.args.bus.now
    (cpu_of c.step_apart-event.new.regs c.step_apart-event.new.position)
    c.step_apart-event.new.bus) same c.step_apart-event.ensures))
