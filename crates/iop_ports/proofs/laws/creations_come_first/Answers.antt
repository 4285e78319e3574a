use Rattle.iop_ports.proofs.KeepLemmas.{asks_none, asks_then_sends}
use Rattle.iop_ports.proofs.laws.creations_come_first.Goals as goal

pub returns : goal.returns
returns c = record { none = asks_none; first = asks_then_sends }
