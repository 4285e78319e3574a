use Rattle.iop_exec.specs.Arithmetic.{left_load, right_load}
use Rattle.iop_exec.specs.Processors.{cpu_of}
use Rattle.iop_exec.specs.Row.{effect_of}
use Rattle.iop_exec.proofs.UpToCalls.{loads_over_do}
use Rattle.iop_exec.proofs.execution.execute.Goals as goal

pub returns-in-Lwl : goal.returns-in-Lwl
unfolding effect_of
returns-in-Lwl g c =
    let p = c.args.position.now in
    rw c.in-Lwl.is (loads_over_do g.B.Bus.bytes g.B.Bus.stores left_load (cpu_of c.args.regs.now p)
    _ c.in-Lwl.rt c.in-Lwl.rs c.in-Lwl.imm _ _ _ _ _ c.place-in-Lwl.ensures (c.latest.ensures p)
    c.upper_part.ensures c.load-in-Lwl.ensures)

pub returns-in-Lwr : goal.returns-in-Lwr
unfolding effect_of
returns-in-Lwr g c =
    let p = c.args.position.now in
    rw c.in-Lwr.is (loads_over_do g.B.Bus.bytes g.B.Bus.stores right_load (cpu_of c.args.regs.now p)
    _ c.in-Lwr.rt c.in-Lwr.rs c.in-Lwr.imm _ _ _ _ _ c.place-in-Lwr.ensures (c.latest-in-Lwr.ensures p)
    c.lower_part.ensures c.load-in-Lwr.ensures)
