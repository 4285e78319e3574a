use Rattle.std.proofs.Common.{rules, sym, ◌∙◌}
use Rattle.iop_generator.proofs.Parts.{source-parts}
use Rattle.iop_generator.proofs.source.source.Goals as goal

pub returns : goal.returns
returns c = search rules ∙ sym (source-parts c.args.workers)
