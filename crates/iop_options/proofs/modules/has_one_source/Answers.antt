use Rattle.std.proofs.Common.{◌∙◌, ◌&&◌, nat_le, map, sym}
use Rattle.std.proofs.lemmas.List.{length-map}
use Rattle.std.proofs.lemmas.List.Folds.{list_all-map}
use Rattle.std.specs.Option.{option_copied}
use Rattle.iop_options.specs.Commands.{has_one_source}
use Rattle.iop_options.specs.Values.{is_short_name}
use Rattle.iop_script.specs.declared.statements.TheConstants.{MOST_MODULES}
use Rattle.iop_options.proofs.modules.has_one_source.Goals as goal

pub returns-in-None-None : goal.returns-in-None-None
returns-in-None-None c =
    let words = c.args.words.now in
    let count = length-map words (λ word. word.now) in
    let each = list_all-map is_short_name (λ word. word.now) words in
    c.are_modules.ensures
    ∙ (λ i. nat_le 1 (sym count i) && nat_le (sym count i) MOST_MODULES && sym each i)
    ∙ (λ i. has_one_source (sym c.in-None-None.is-0 i) (option_copied (sym c.in-None-None.is-1 i))
    (map (λ word. word.now) words))
