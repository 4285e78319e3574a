use Rattle.iop_thread.proofs.InOrder.{placed_in_order}
use Rattle.iop_thread.proofs.OnlyPlaced.{restored_only}
use Rattle.iop_thread.proofs.RestoringThreads.{restored_in_order}
use Rattle.iop_thread.proofs.laws.threads_are_restored.Goals as goal

pub returns : goal.returns
returns c = record { placed = placed_in_order; again = restored_in_order; only = restored_only }
