use Rattle.std.proofs.Common.{◌-◌, List}
use Rattle.iop_snapshot.specs.Writing.{place_of}
use Rattle.iop_snapshot.proofs.Saving.{Saved}
use Rattle.iop_snapshot.proofs.save.save_items.Given as goal

abbrev pub invariant-loop : goal.invariant-loop
invariant-loop g l =
    (xs : List g.row.X.Denot) → g.I.SaveItems.ahead l.fn.items xs
    → Saved g.I.SaveItems.form xs (g.I.SaveItems.ahead l.items) (l.fn.count - l.counter)
    (place_of g.S.Sink.told l.fn.encoder) (place_of g.S.Sink.told l.encoder)
