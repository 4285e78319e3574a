use Rattle.std.proofs.Common.{◌%◌, ◌^◌, ◌<◌, false, w64, arith, rules}
use Rattle.iop_base.proofs.Bits.{removed}
use Rattle.iop_stubs.proofs.WordSets.{changes}
use Rattle.iop_stubs.proofs.word_set.WordSet.remove.Goals as goal

pub returns : goal.returns
returns c =
    let was = c.index_mut.result.now in
    let fits : was < 2 ^ 64 = search rules in
    changes c.args.self.now.bits.items c.args.word was c.requires c.index_mut.ensures.value _ false
    (removed w64 was fits (c.args.word % 64) (omega arith))
