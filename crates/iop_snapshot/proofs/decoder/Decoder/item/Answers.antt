use Rattle.std.proofs.Common.{arith}
use Rattle.iop_snapshot.proofs.Filling.{read_short, read_whole}
use Rattle.iop_snapshot.proofs.Spelling.{fits_item-numbers_in}
use Rattle.iop_snapshot.proofs.decoder.Decoder.item.Goals as goal

pub returns-then-not-have_room-clause-read : goal.returns-then-not-have_room-clause-read
returns-then-not-have_room-clause-read c =
    let short = read_short c.args.widths.now c.self.inside.rest.now (omega arith) in cc

pub returns-clause-read : goal.returns-clause-read
returns-clause-read c =
    let f = c.fill-self-inside in
    let whole = read_whole c.args.widths.now c.self.inside.rest.now f.new.values f.result.now
    (omega arith) f.ensures.numbers f.ensures.behind in cc

pub returns-clause-fits : goal.returns-clause-fits
returns-clause-fits c =
    rw c.fill-self-inside.ensures.numbers
    (fits_item-numbers_in c.args.widths.now c.self.inside.rest.now c.self.invariant)
