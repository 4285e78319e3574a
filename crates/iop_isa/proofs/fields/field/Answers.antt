use Rattle.std.proofs.lemmas.Nat.{and_mask, one_shl}
use Rattle.iop_isa.proofs.fields.field.Goals as goal

pub returns : goal.returns
returns c = rw (one_shl c.args.bits 32 c.requires.bits) (and_mask _ c.args.bits)
