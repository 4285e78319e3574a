use Rattle.std.proofs.Common.{◌<◌, ◌*◌, length, ◌∙◌, arith}
use Rattle.iop_kernel.specs.declared.words.TheConstants.{MOST_WORDS}
use Rattle.iop_kernel.proofs.Readings.WordBytes.{word_put}
use Rattle.iop_kernel.proofs.words.store_words.Goals as goal

pub loop-index-preserved : goal.loop-index-preserved
loop-index-preserved g c =
    let words = c.args.words.now in
    let i = c.loop-index.index in
    let below : i < length words = omega (arith, c.loop-index-test.true) in
    c.put_word.ensures
    ∙ word_put words c.loop-index.bytes (4 * MOST_WORDS) i below c.loop-index.invariant
