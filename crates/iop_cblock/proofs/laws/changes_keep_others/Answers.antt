use Rattle.iop_cblock.proofs.Reading.{list_at-unlinked}
use Rattle.iop_cblock.proofs.Keeping.{keeps_others}
use Rattle.iop_cblock.proofs.laws.changes_keep_others.Goals as goal

pub returns : goal.returns
returns c = record { put = keeps_others; taken = λ node s k. list_at-unlinked node k s }
