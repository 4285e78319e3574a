use Rattle.std.proofs.Common.{◌≡◌, ◌++◌, ◌-◌, ◌*◌, take, replicate}
use Rattle.iop_kernel.specs.Boards.{bytes_of_words}
use Rattle.iop_kernel.specs.declared.words.TheConstants.{MOST_WORDS}
use Rattle.iop_kernel.proofs.words.store_words.Given as goal

abbrev pub invariant-loop-index : goal.invariant-loop-index
invariant-loop-index g l =
    l.bytes ≡ bytes_of_words (take l.index l.words) ++ replicate (4 * MOST_WORDS - 4 * l.index) 0
