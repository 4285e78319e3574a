use Rattle.std.proofs.Common.{arith}
use Rattle.iop_mbx.proofs.Reading.{waiters_of-in, with_waiters-in}
use Rattle.iop_mbx.proofs.mailboxes.Mailboxes.wait.Goals as goal

pub returns : goal.returns
returns c = grind (arith, waiters_of-in, with_waiters-in)
