use Rattle.std.proofs.Common.{arith}
use Rattle.iop_saved_script.specs.Forms.{list_of, named_form}
use Rattle.iop_saved_script_tests.proofs.Again.{read_fits}
use Rattle.iop_saved_script_tests.proofs.tests.named_again.Goals as goal

pub save_named-requires-clause-few : goal.save_named-requires-clause-few
save_named-requires-clause-few c =
    let named = c.in_ok-named.named.items in
    let fits = read_fits (list_of named_form) c.new.result c.args.bytes.now
    c.restore_named.new.decoder named
    c.forms_are_lawful.ensures.named c.new.ensures (λ i. omega (arith, c.type_inv.bytes i))
    c.in_ok-named.ensures in
    rw (c.deref.ensures.value) (c.fitting_is_short.ensures.named named fits).0

pub save_named-requires-clause-words : goal.save_named-requires-clause-words
save_named-requires-clause-words c =
    let named = c.in_ok-named.named.items in
    let fits = read_fits (list_of named_form) c.new.result c.args.bytes.now
    c.restore_named.new.decoder named
    c.forms_are_lawful.ensures.named c.new.ensures (λ i. omega (arith, c.type_inv.bytes i))
    c.in_ok-named.ensures in
    rw (c.deref.ensures.value) (c.fitting_is_short.ensures.named named fits).1
