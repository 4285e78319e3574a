-- Parts that are written one behind the other.
use Rattle.iop_snapshot.proofs.Sending.{writes_then, writes_exit}

-- the last of them, and one at which a `?` returns
pub ruleset writing = (writes_then, writes_exit)
