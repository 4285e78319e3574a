use Rattle.iop_machine.proofs.WordsOfModules.{words_are_of_modules}
use Rattle.iop_machine.proofs.laws.words_are_of_modules.Goals as goal

pub returns : goal.returns
returns c = words_are_of_modules
