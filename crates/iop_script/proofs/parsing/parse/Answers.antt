use Rattle.std.proofs.Common.{◌≡◌, ◌∙◌, Ok, ap}
use Rattle.std.specs.Option.{option_copied}
use Rattle.iop_script.specs.Reading.{next_number, read_lines, script_of}
use Rattle.iop_script.specs.Texts.{line_feed, parts_behind}
use Rattle.iop_script.proofs.LineLemmas.{no_lines}
use Rattle.iop_script.proofs.ScriptLaws.{script_of-can_run}
use Rattle.iop_script.proofs.parsing.parse.Goals as goal

pub returns-clause-runs : goal.returns-clause-runs
returns-clause-runs c =
    let version = c.in-Some.version in
    let read : script_of c.args.bytes.now ≡ Ok c.loop-left.script =
    c.loop-left.invariant
    ∙ ap (λ left. read_lines version (next_number c.loop-left.number) c.loop-left.script
    (parts_behind line_feed (option_copied left))) c.in_default-left.is
    ∙ no_lines version (next_number c.loop-left.number) c.loop-left.script in
    script_of-can_run c.args.bytes.now c.loop-left.script read
