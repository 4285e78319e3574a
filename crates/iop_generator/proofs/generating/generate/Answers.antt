use Rattle.iop_generator.proofs.Units.{builds-source}
use Rattle.iop_generator.proofs.generating.generate.Goals as goal

pub returns-in_err-unit-clause-builds : goal.returns-in_err-unit-clause-builds
returns-in_err-unit-clause-builds c = builds-source c.args.workers c.requires.any c.requires.countable
