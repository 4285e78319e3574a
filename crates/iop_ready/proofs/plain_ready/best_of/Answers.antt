use Rattle.iop_ready.proofs.Searching.{best_of-more, best_of-all}
use Rattle.iop_ready.proofs.plain_ready.best_of.Goals as goal

pub loop-entry-preserved : goal.loop-entry-preserved
loop-entry-preserved c =
    best_of-more _ _ _ _ _ c.loop-entry-test.true c.entry-item.is c.loop-entry.invariant
    c.better.ensures

pub returns : goal.returns
returns c = best_of-all _ _ _ c.loop-entry-test.false c.loop-entry.invariant
