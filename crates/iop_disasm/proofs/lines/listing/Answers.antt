use Rattle.std.proofs.Common.{arith}
use Rattle.iop_disasm.proofs.ListingLemmas.{listing_short}
use Rattle.iop_disasm.proofs.lines.listing.Goals as goal

pub returns-then-not-send_line : goal.returns-then-not-send_line
returns-then-not-send_line g c =
    let short = rw c.if-not-send_line.true at c.send_line.ensures in
    listing_short c.args.ram.now c.args.from c.loop-n.n c.args.words _ _ _ _
    c.loop-n-test.true (omega arith) c.loop-n.invariant short
