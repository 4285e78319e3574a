use Rattle.std.proofs.Common.{◌%◌, true, w64, arith}
use Rattle.iop_base.proofs.Bits.{inserted}
use Rattle.iop_stubs.proofs.WordSets.{changes}
use Rattle.iop_stubs.proofs.word_set.WordSet.insert.Goals as goal

pub returns : goal.returns
returns c =
    let was = c.index_mut.result.now in
    changes c.args.self.now.bits.items c.args.word was c.requires c.index_mut.ensures.value _ true
    (inserted w64 was (c.args.word % 64) (omega arith))
