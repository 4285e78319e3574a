use Rattle.iop_intr.proofs.Finding.{all_idle}
use Rattle.iop_intr.proofs.irqs.Irqs.new.Goals as goal

pub returns : goal.returns
returns c = all_idle _ c.new.ensures c.new-2.ensures c.new-3.ensures
