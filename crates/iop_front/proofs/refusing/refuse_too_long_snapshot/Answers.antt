use Rattle.std.specs.Fmt.{digits}
use Rattle.iop_front.proofs.refusing.refuse_too_long_snapshot.Goals as goal

pub returns-clause-sent : goal.returns-clause-sent
unfolding digits
returns-clause-sent g c = (c.send_named.result, c.send_named.ensures)
