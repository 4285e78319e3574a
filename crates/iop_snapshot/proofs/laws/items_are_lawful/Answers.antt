use Rattle.iop_snapshot.proofs.Combining.{item_lawful, bytes_lawful}
use Rattle.iop_snapshot.proofs.laws.items_are_lawful.Goals as goal

pub returns : goal.returns
returns c = record { items = item_lawful; raw = bytes_lawful }
