use Rattle.iop_stubs.proofs.WordSets.{tested_in}
use Rattle.iop_stubs.proofs.word_set.WordSet.has.Goals as goal

pub returns : goal.returns
returns c =
    tested_in c.args.self.now.bits.items c.args.word c.index.result.now c.requires c.index.ensures
