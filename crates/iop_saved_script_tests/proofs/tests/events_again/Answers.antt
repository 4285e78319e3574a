use Rattle.std.proofs.Common.{arith}
use Rattle.iop_saved_script.specs.Forms.{list_of, event_form}
use Rattle.iop_saved_script_tests.proofs.Again.{read_fits}
use Rattle.iop_saved_script_tests.proofs.tests.events_again.Goals as goal

pub save_events-requires : goal.save_events-requires
save_events-requires c =
    let events = c.in_ok-events.events.items in
    let fits = read_fits (list_of event_form) c.new.result c.args.bytes.now
    c.restore_events.new.decoder events
    c.forms_are_lawful.ensures.events c.new.ensures (λ i. omega (arith, c.type_inv.bytes i))
    c.in_ok-events.ensures in
    record {
      few = rw (c.deref.ensures.value) (c.fitting_is_short.ensures.events events fits);
    }
