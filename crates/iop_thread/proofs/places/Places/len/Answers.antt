use Rattle.std.proofs.Common.{ap, length, arith}
use Rattle.iop_thread.proofs.PlaceLists.{taken-le}
use Rattle.iop_thread.proofs.places.Places.len.Goals as goal

pub returns-clause-few : goal.returns-clause-few
returns-clause-few c = omega (
  arith,
  c.count.ensures,
  taken-le c.deref.result.now,
  ap length c.deref.ensures.value,
  c.self.invariant,
)
