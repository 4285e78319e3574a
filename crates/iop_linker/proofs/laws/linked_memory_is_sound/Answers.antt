use Rattle.iop_linker.proofs.Soundness.{linking_sound}
use Rattle.iop_linker.proofs.laws.linked_memory_is_sound.Goals as goal

pub returns : goal.returns
returns c = linking_sound
