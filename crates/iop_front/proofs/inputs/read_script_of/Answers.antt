use Rattle.std.proofs.Common.{option_map, string_bytes, ap, sym, ◌∙◌, subst}
use Rattle.iop_options.specs.Commands.{Command}
use Rattle.iop_front.specs.Inputs.{seen, HasScript}
use Rattle.iop_front.proofs.ScriptLemmas.{no_script}
use Rattle.iop_front.proofs.inputs.read_script_of.Goals as goal

pub returns-in-None-clause-read : goal.returns-in-None-clause-read
returns-in-None-clause-read g c =
    let now = seen g.F.Files.told g.F.Files.faults c.args.files.now in
    let none = ap (option_map string_bytes) c.in-None.is in
    subst (λ script. HasScript script c.no_script.result now now)
    (sym none ∙ ap (λ (o : Command). o.script) c.options.view_is)
    (no_script c.no_script.result now c.no_script.ensures.script)
