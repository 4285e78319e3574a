use Rattle.std.proofs.Common.{arith, take}
use Rattle.std.proofs.lemmas.List.{length-drop}
use Rattle.iop_ports.proofs.SinkLemmas.{taken_more, rest_is, front_of, fails_at}
use Rattle.iop_ports.proofs.sending.send.Goals as goal

pub loop-at-preserved : goal.loop-at-preserved
loop-at-preserved g c =
    let piece = c.args.piece.now in
    let at = c.loop-at.at in
    let rest = rest_is at piece in
    let within = rw rest at c.in-Ok.ensures.within in
    let taken = rw rest at c.in-Ok.ensures.taken in record {
      within = omega (arith, length-drop at piece, within);
      taken = taken_more _ _ _ at c.in-Ok.n piece c.loop-at.invariant.taken taken;
    }

pub returns-in-Err : goal.returns-in-Err
returns-in-Err g c =
    let part = take c.loop-at.at c.args.piece.now in record {
      part = part;
      is_front = front_of c.loop-at.at c.args.piece.now (omega arith);
      fails = fails_at part c.loop-at.invariant.taken c.in-Err.ensures.fails;
    }
