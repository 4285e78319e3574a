use Rattle.iop_sysclib.proofs.JoinedStrings.{strings_are_joined}
use Rattle.iop_sysclib.proofs.laws.strings_are_joined.Goals as goal

pub returns : goal.returns
returns c = strings_are_joined
