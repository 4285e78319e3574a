use Rattle.std.proofs.Common.{arith}
use Rattle.iop_saved_script.specs.Forms.{list_of, args_form}
use Rattle.iop_saved_script_tests.proofs.Again.{read_fits}
use Rattle.iop_saved_script_tests.proofs.tests.args_again.Goals as goal

pub save_args-requires-clause-few : goal.save_args-requires-clause-few
save_args-requires-clause-few c =
    let args = c.in_ok-args.args.items in
    let fits = read_fits (list_of args_form) c.new.result c.args.bytes.now
    c.restore_args.new.decoder args
    c.forms_are_lawful.ensures.args c.new.ensures (λ i. omega (arith, c.type_inv.bytes i))
    c.in_ok-args.ensures in
    rw (c.deref.ensures.value) (c.fitting_is_short.ensures.args args fits).0

pub save_args-requires-clause-words : goal.save_args-requires-clause-words
save_args-requires-clause-words c =
    let args = c.in_ok-args.args.items in
    let fits = read_fits (list_of args_form) c.new.result c.args.bytes.now
    c.restore_args.new.decoder args
    c.forms_are_lawful.ensures.args c.new.ensures (λ i. omega (arith, c.type_inv.bytes i))
    c.in_ok-args.ensures in
    rw (c.deref.ensures.value) (c.fitting_is_short.ensures.args args fits).1
