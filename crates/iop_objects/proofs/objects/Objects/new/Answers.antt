use Rattle.std.proofs.Common.{arith}
use Rattle.iop_objects.proofs.Tables.{IsTable-first}
use Rattle.iop_objects.proofs.objects.Objects.new.Goals as goal

pub invariant_of-result : goal.invariant_of-result
invariant_of-result g c = (
  rw (c.in_ok-live.ensures.items, c.in_ok-free.ensures, c.in_ok-waiters.ensures) IsTable-first,
  omega (arith, c.in_ok-live.ensures.exact),
)
