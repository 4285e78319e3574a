use Rattle.std.proofs.Common.{◌≡◌, refl}
use Rattle.std.proofs.lemmas.Result.{err_from_is_err_and}
use Rattle.iop_saved_machine.specs.Parts.{parts_form, read_machine}
use Rattle.iop_saved_machine.proofs.Whole.{fails, rest_fails}
use Rattle.iop_saved_machine.proofs.machine.restore_parts.Goals as goal

pub returns-in_err-rest-clause-read : goal.returns-in_err-rest-clause-read
returns-in_err-rest-clause-read g c =
    let before = c.args.decoder.now in
    let fault = c.in_err-rest.field-0.0 in
    let residual = c.from_residual-in_err-rest in
    let given = err_from_is_err_and residual.result residual.ensures.1 in
    let same : given.0 ≡ fault = given.2 in
    let (p, core, holds, back, read) = c.in_ok-core.ensures in
    fails _ residual.result given.0 fault (read_machine.read before) same given.1
    (rest_fails before c.restore_head.new.decoder c.restore_core.new.decoder c.in-Some.size p
    fault c.in-Some.ensures.read read c.in_err-rest.ensures.read)

pub returns-clause-read : goal.returns-clause-read
unfolding parts_form
returns-clause-read g c =
    let (p, core, holds, back, read) = c.in_ok-core.ensures in (
      c.in-Some.size,
      p,
      core,
      holds,
      back,
      c.in_ok-rest.ensures.back,
      rw (c.in-Some.ensures.read, read, c.in_ok-rest.ensures.read) refl,
    )
