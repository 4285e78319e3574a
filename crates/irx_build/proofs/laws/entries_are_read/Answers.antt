use Rattle.irx_build.proofs.ReadEntries.{entries_of-bytes}
use Rattle.irx_build.proofs.laws.entries_are_read.Goals as goal

pub returns : goal.returns
returns c = entries_of-bytes
