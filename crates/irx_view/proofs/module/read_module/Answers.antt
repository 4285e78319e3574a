use Rattle.std.proofs.Common.{sym}
use Rattle.irx_view.proofs.ModuleLemmas.{image_within}
use Rattle.irx_view.proofs.module.read_module.Goals as goal

pub returns-clause-short : goal.returns-clause-short
returns-clause-short c = image_within c.args.file.now c.in_ok-irx.irx (sym c.in_ok-irx.ensures.parts)
