use Rattle.iop_saved_machine.proofs.Readings.{core_reads}
use Rattle.iop_saved_machine.proofs.machine.restore_core.Goals as goal

pub returns : goal.returns
returns g c =
    core_reads g.R.Ready.stands c.restore_kernel.result c.args.decoder.now
    c.restore_kernel.new.decoder c.restore_kernel.ensures
