use Rattle.iop_saved_machine.proofs.Readings.{libraries_read, libraries_are_back}
use Rattle.iop_saved_machine.proofs.tables.restore_registry.Goals as goal

pub returns-clause-read : goal.returns-clause-read
returns-clause-read c =
    libraries_read c.in_ok-registry.registry c.in_ok-registry.ensures c.args.decoder.now
    c.restore_libraries.new.decoder c.restore_libraries.result c.restore_libraries.ensures

pub returns-clause-back : goal.returns-clause-back
returns-clause-back c =
    libraries_are_back c.in_ok-registry.registry c.in_ok-registry.ensures c.args.decoder.now
    c.restore_libraries.new.decoder c.restore_libraries.result c.restore_libraries.ensures
