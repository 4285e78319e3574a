use Rattle.std.proofs.Common.{◌<◌, ◌^◌, w64, rules, arith}
use Rattle.std.proofs.lemmas.Nat.Bits.{bit_at-trailing_zeros}
use Rattle.iop_base.proofs.Bits.{has-none, least_is}
use Rattle.iop_intr.proofs.line_set.LineSet.first.Goals as goal

pub returns-then-self-eq0-clause-lowest : goal.returns-then-self-eq0-clause-lowest
returns-then-self-eq0-clause-lowest c n =
    rw (← c.self.view_is, c.if-self-eq0.true) (has-none n)

pub returns : goal.returns
returns c =
    let fits : c.self.inside.bits < 2 ^ 64 = search rules in
    let some : 0 < c.self.inside.bits = omega (arith, c.if-self-eq0.false) in
    record {
      lowest = rw (← c.self.view_is) (least_is w64 c.self.inside.bits fits some);
      below = (bit_at-trailing_zeros w64 c.self.inside.bits some fits).0;
    }
