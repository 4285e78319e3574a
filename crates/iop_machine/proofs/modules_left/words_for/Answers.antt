use Rattle.std.proofs.Common.{ap, ◌∙◌}
use Rattle.std.specs.Prelude.{unwrap_or}
use Rattle.iop_script.specs.Scripts.{words_of_number}
use Rattle.iop_machine.proofs.ModulesTaken.{first_of}
use Rattle.iop_machine.proofs.modules_left.words_for.Goals as goal

pub returns : goal.returns
returns c =
    c.words_of_number.ensures
    ∙ ap (unwrap_or (words_of_number c.args.args.now c.args.number)) c.words_of_name.ensures
    ∙ first_of (words_of_number c.args.args.now c.args.number) _ _
