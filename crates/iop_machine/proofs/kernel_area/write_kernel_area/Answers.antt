use Rattle.std.proofs.Common.{length, ap, ◌∙◌, arith}
use Rattle.iop_base.proofs.Giving.{gives_then}
use Rattle.iop_base.proofs.Memory.{length-with_bytes}
use Rattle.iop_stubs.specs.Stubs.{Memory}
use Rattle.iop_machine.specs.KernelArea.{kernel_area}
use Rattle.iop_machine.proofs.Area.{length-kernel_area, area_stored}
use Rattle.iop_machine.proofs.kernel_area.write_kernel_area.Goals as goal

pub returns-clause-memory : goal.returns-clause-memory
returns-clause-memory g c =
    area_stored c.args.guest.now c.clear.new.guest c.store.new.guest c.store-2.new.guest
    c.store-3.new.guest c.store-4.new.guest c.deref.result.now c.deref-2.result.now
    c.deref-3.result.now c.deref-4.result.now c.clear.ensures.memory
    c.store.ensures.memory (c.deref.ensures.0 ∙ c.tables-later_tables.ensures)
    c.store-2.ensures.memory (c.deref-2.ensures.0 ∙ c.tables-first_tables.ensures)
    c.store-3.ensures.memory (c.deref-3.ensures.0 ∙ c.returns.ensures)
    c.store-4.ensures.memory (c.deref-4.ensures.0 ∙ c.services.ensures)

pub returns-clause-lines : goal.returns-clause-lines
returns-clause-lines g c =
    gives_then c.clear.ensures.lines
    (gives_then c.store.ensures.lines
    (gives_then c.store-2.ensures.lines
    (gives_then c.store-3.ensures.lines c.store-4.ensures.lines)))

pub returns-clause-same_size : goal.returns-clause-same_size
returns-clause-same_size g c =
    ap (λ (m : Memory). length m.ram) (returns-clause-memory g c)
    ∙ length-with_bytes c.args.guest.now.ram 0 kernel_area
    (omega (arith, length-kernel_area, c.clear.ensures.has_area))
