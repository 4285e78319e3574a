use Rattle.iop_saved_machine.proofs.Lending.{ram_fits}
use Rattle.iop_saved_machine.proofs.lent.LentMachine.save_ram.Goals as goal

pub returns-clause-fits : goal.returns-clause-fits
returns-clause-fits g c = ram_fits c.args.self.now.guest.now.ram c.ram_of.ensures.bytes
