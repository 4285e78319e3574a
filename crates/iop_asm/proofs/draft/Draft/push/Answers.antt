use Rattle.iop_asm.specs.CellFields.{cell}
use Rattle.iop_asm.proofs.DraftLemmas.{IsDraft-labels, IsDraft-text, IsDraft-data}
use Rattle.iop_asm.proofs.draft.Draft.push.Goals as goal

pub returns-in_ok-push-in-Text : goal.returns-in_ok-push-in-Text
returns-in_ok-push-in-Text c = λ d h.
    let n = c.in_ok-numbered.ensures in
    let held = record c.args.self.now { labels = c.numbered.new.self } in
    rw c.in-Text.is (IsDraft-text held d
    (IsDraft-labels c.args.self.now d h c.numbered.new.self n.kept.names d.labels (n.kept.places d.labels h.labels))
    c.in_ok-numbered.numbered (cell c.args.cell) n.cell c.push.new.self
    c.in_ok-push-in-Text.ensures.items)

pub returns-in_ok-push-in-Data : goal.returns-in_ok-push-in-Data
returns-in_ok-push-in-Data c = λ d h.
    let n = c.in_ok-numbered.ensures in
    let held = record c.args.self.now { labels = c.numbered.new.self } in
    rw c.in-Data.is (IsDraft-data held d
    (IsDraft-labels c.args.self.now d h c.numbered.new.self n.kept.names d.labels (n.kept.places d.labels h.labels))
    c.in_ok-numbered.numbered (cell c.args.cell) n.cell c.push-in-Data.new.self
    c.in_ok-push-in-Data.ensures.items)
