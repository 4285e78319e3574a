use Rattle.irx_build.proofs.Accepting.{not_refused}
use Rattle.irx_build.proofs.Built.{files_parsed}
use Rattle.irx_build.proofs.laws.files_are_parsed.Goals as goal

pub returns : goal.returns
returns c unit fit none = files_parsed unit fit (not_refused unit none)
