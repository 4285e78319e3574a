use Rattle.std.proofs.Common.{refl}
use Rattle.iop_snapshot.specs.Writing.{written}
use Rattle.iop_snapshot.proofs.encoder.Encoder.bytes.Goals as goal

pub returns-then-send : goal.returns-then-send
returns-then-send g c = written (record { sends = c.if-send.ensures; name = refl })

pub returns-else-send : goal.returns-else-send
returns-else-send g c = written (record { sends = c.if-send.ensures; name = refl })
