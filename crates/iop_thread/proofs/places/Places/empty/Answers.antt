use Rattle.iop_thread.proofs.PlaceLists.{has_none}
use Rattle.iop_thread.proofs.places.Places.empty.Goals as goal

pub returns : goal.returns
returns c = rw (c.clear.ensures, c.new-2.ensures) (has_none _ _ c.in_ok-places.ensures)
