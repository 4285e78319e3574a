use Rattle.std.proofs.Common.{[], option_to_list, refl, subst}
use Rattle.std.proofs.lemmas.Result.{err_from_is_err_and}
use Rattle.iop_front.specs.Inputs.{seen, HasStopped, HasTaken}
use Rattle.iop_front.specs.Named.{AsModule, kind_by, inputs_of}
use Rattle.iop_front.proofs.ScriptLemmas.{inputs_read, stops_behind_script}
use Rattle.iop_front.proofs.TakingLemmas.{takes_none, stops_short, stops_before}
use Rattle.iop_front.proofs.inputs.read_inputs.Goals as goal

pub returns-in_err-buffer-clause-read : goal.returns-in_err-buffer-clause-read
returns-in_err-buffer-clause-read g c =
    let now = seen g.F.Files.told g.F.Files.faults c.args.files.now in
    let command = c.args.options.now in
    let p = err_from_is_err_and c.from_residual.result c.from_residual.ensures.1 in
    rw (p.1, p.2) (stops_short (kind_by command.script) (inputs_of command) []
    (inputs_of command) [] now now refl (takes_none (kind_by command.script) now))

pub returns-in_err-script-clause-read : goal.returns-in_err-script-clause-read
returns-in_err-script-clause-read g c =
    let seen_by = seen g.F.Files.told g.F.Files.faults in
    let command = c.args.options.now in
    let made = c.from_residual-in_err-script in
    let p = err_from_is_err_and made.result made.ensures.1 in
    rw (p.1, p.2) (stops_before (kind_by command.script) (option_to_list command.script)
    command.modules (seen_by c.args.files.now) (seen_by c.read_script_of.new.files)
    c.in_err-script.field-0.0 c.in_err-script.ensures.read)

pub returns-in_err-modules-clause-read : goal.returns-in_err-modules-clause-read
returns-in_err-modules-clause-read g c =
    let seen_by = seen g.F.Files.told g.F.Files.faults in
    let command = c.args.options.now in
    let made = c.from_residual-in_err-modules in
    let p = err_from_is_err_and made.result made.ensures.1 in
    let mid = seen_by c.read_script_of.new.files in
    let new = seen_by c.read_modules.new.files in
    rw (p.1, p.2) (stops_behind_script command c.in_ok-script.script (seen_by c.args.files.now) mid
    new c.in_ok-script.ensures.read c.in_err-modules.field-0.0
    (subst (λ names. HasStopped AsModule names c.in_err-modules.field-0.0 mid new)
    c.of.ensures c.in_err-modules.ensures.read))

pub returns-clause-read : goal.returns-clause-read
returns-clause-read g c =
    let seen_by = seen g.F.Files.told g.F.Files.faults in
    let mid = seen_by c.read_script_of.new.files in
    let new = seen_by c.read_modules.new.files in
    let modules = c.in_ok-modules.modules.items in
    inputs_read c.args.options.now c.in_ok-script.script (seen_by c.args.files.now) mid new
    c.in_ok-script.ensures.read modules
    (subst (λ names. HasTaken AsModule names modules mid new) c.of.ensures
    c.in_ok-modules.ensures.read)
