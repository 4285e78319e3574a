use Rattle.std.proofs.Common.{◌∙◌, sym, rules, tests}
use Rattle.std.proofs.lemmas.Iterator.{YieldsList-from_slice}
use Rattle.std.proofs.lemmas.Iterator.Search.{all_from_yields_List}
use Rattle.std.proofs.lemmas.List.Folds.{list_all-map}
use Rattle.iop_asm.specs.Operands.{operand_fits}
use Rattle.iop_asm.specs.Values.{argument}
use Rattle.iop_asm.proofs.fitting.all_fit.Goals as goal

pub returns : goal.returns
returns c =
    let read = c.args.read.now in
    all_from_yields_List (λ a. operand_fits (argument a)) _ _ c.all.result c.all.ensures.ran
    (YieldsList-from_slice read cc) (λ x b q k. search (rules, tests))
    ∙ sym (list_all-map operand_fits argument read)
