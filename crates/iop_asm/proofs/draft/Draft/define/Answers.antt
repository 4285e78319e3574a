use Rattle.iop_asm.proofs.DraftLemmas.{IsDraft-labels}
use Rattle.iop_asm.proofs.draft.Draft.define.Goals as goal

pub returns : goal.returns
returns c = λ d h unplaced.
    rw (← c.next_place-place.ensures d h)
    (IsDraft-labels c.args.self.now d h c.place.new.self c.in_ok-place.ensures.kept _
    (c.in_ok-place.ensures.stands d.labels h.labels unplaced))
