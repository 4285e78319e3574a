use Rattle.std.proofs.Common.{take, arith}
use Rattle.std.proofs.lemmas.List.{length-take}
use Rattle.std.proofs.lemmas.Result.{err_from_is_err_and}
use Rattle.iop_front.specs.Inputs.{seen}
use Rattle.iop_front.specs.Named.{AsScript}
use Rattle.iop_front.proofs.ScriptLemmas.{stops_by_fault, script_read}
use Rattle.iop_front.proofs.inputs.read_script.Goals as goal

pub returns-in_err-parse-clause-read : goal.returns-in_err-parse-clause-read
returns-in_err-parse-clause-read g c =
    let seen_by = seen g.F.Files.told g.F.Files.faults in
    let buffer = c.read_whole.new.buffer in
    let read = c.in_ok-len.ensures in
    let made = c.from_residual-in_err-parse in
    let p = err_from_is_err_and made.result made.ensures.1 in
    rw (p.1, p.2) (stops_by_fault c.args.name.now (take c.in_ok-len.len buffer)
    (seen_by c.args.files.now) (seen_by c.read_whole.new.files)
    (omega (arith, length-take c.in_ok-len.len buffer, read.short)) (read.read AsScript)
    c.in_err-parse.field-0.0 c.in_err-parse.ensures.script)

pub returns-clause-read : goal.returns-clause-read
returns-clause-read g c =
    let seen_by = seen g.F.Files.told g.F.Files.faults in
    let buffer = c.read_whole.new.buffer in
    let read = c.in_ok-len.ensures in
    script_read c.args.name.now (take c.in_ok-len.len buffer)
    (seen_by c.args.files.now) (seen_by c.read_whole.new.files)
    (omega (arith, length-take c.in_ok-len.len buffer, read.short)) (read.read AsScript)
    c.in_ok-parse.field-0 c.in_ok-parse.ensures.script

pub returns-clause-short : goal.returns-clause-short
returns-clause-short g c =
    let buffer = c.read_whole.new.buffer in
    c.short_texts_give_short_scripts.ensures (take c.in_ok-len.len buffer) c.in_ok-parse.field-0
    (omega (arith, length-take c.in_ok-len.len buffer, c.in_ok-len.ensures.short))
    c.in_ok-parse.ensures.script
