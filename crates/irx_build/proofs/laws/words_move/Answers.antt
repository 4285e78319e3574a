use Rattle.irx_build.proofs.Moved as moved
use Rattle.irx_build.proofs.laws.words_move.Goals as goal

pub returns : goal.returns
returns c = moved.words_move
