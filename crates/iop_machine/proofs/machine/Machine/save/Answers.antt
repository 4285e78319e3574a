use Rattle.std.proofs.Common.{◌≡◌, true, ap, sym, ◌∙◌, subst, rules}
use Rattle.iop_kernel.specs.Standing.{Holds}
use Rattle.iop_kernel.specs.declared.kernel.Kernel.{Kernel as Program}
use Rattle.iop_ready.specs.KernelReady.{KernelReady, KernelStands}
use Rattle.iop_saved_machine.specs.Back.{MachineState, parts_of}
use Rattle.iop_saved_machine.specs.Lent.{state_lent}
use Rattle.iop_saved_machine.specs.Parts.{written_machine}
use Rattle.iop_machine.proofs.SavedMachines.{sent, sent_by, sends_as, on_ok, lent_state, lent_snap}
use Rattle.iop_machine.proofs.machine.Machine.save.Goals as goal

pub returns-clause-written : goal.returns-clause-written
returns-clause-written g c = λ w h.
    let k = w.iop.kernel in
    let holds = subst (λ (p : Program KernelReady). Holds KernelStands p k)
    (sym c.lent.ensures.kernel) h.iop.kernel.holds in
    let wrote = c.save.ensures.written k holds in
    let name = sym (sent_by wrote) in
    let sink = c.new.ensures.same_sink in
    sends_as c.save.result (lent_snap c.args.self.now.iop w.iop h.iop (λ k. state_lent k c.lent.result)
    c.lent.ensures.state) c.new.ensures.told (search (rules, name, sink)) (sent wrote)

pub returns-clause-fits : goal.returns-clause-fits
returns-clause-fits g c =
    on_ok c.save.result (λ fits w h.
    let k = w.iop.kernel in
    let holds = subst (λ (p : Program KernelReady). Holds KernelStands p k)
    (sym c.lent.ensures.kernel) h.iop.kernel.holds in
    subst (λ (m : MachineState). written_machine.fits (parts_of m) ≡ true)
    (lent_state c.args.self.now.iop w.iop h.iop (λ k. state_lent k c.lent.result)
    c.lent.ensures.state) (fits k holds)) c.save.ensures.fits
