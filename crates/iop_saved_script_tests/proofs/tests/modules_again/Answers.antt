use Rattle.std.proofs.Common.{arith}
use Rattle.iop_saved_script.specs.Forms.{list_of, file_form}
use Rattle.iop_saved_script_tests.proofs.Again.{read_fits}
use Rattle.iop_saved_script_tests.proofs.tests.modules_again.Goals as goal

pub save_modules-requires-clause-few : goal.save_modules-requires-clause-few
save_modules-requires-clause-few c =
    let modules = c.in_ok-modules.modules.items in
    let fits = read_fits (list_of file_form) c.new.result c.args.bytes.now
    c.restore_modules.new.decoder modules
    c.forms_are_lawful.ensures.files c.new.ensures (λ i. omega (arith, c.type_inv.bytes i))
    c.in_ok-modules.ensures in
    rw (c.deref.ensures.value) (c.fitting_is_short.ensures.files modules fits).0

pub save_modules-requires-clause-bytes : goal.save_modules-requires-clause-bytes
save_modules-requires-clause-bytes c =
    let modules = c.in_ok-modules.modules.items in
    let fits = read_fits (list_of file_form) c.new.result c.args.bytes.now
    c.restore_modules.new.decoder modules
    c.forms_are_lawful.ensures.files c.new.ensures (λ i. omega (arith, c.type_inv.bytes i))
    c.in_ok-modules.ensures in
    rw (c.deref.ensures.value) (c.fitting_is_short.ensures.files modules fits).1
