use Rattle.iop_objects.specs.Objects.{no_objects}
use Rattle.iop_saved_objects.specs.EventFlags.{event_flag_form, put_event_flag}
use Rattle.iop_saved_kernel.specs.ThreadLists.{priority_among}
use Rattle.iop_saved_kernel.proofs.Results.{list_restores}
use Rattle.iop_saved_kernel.proofs.objects.restore_event_flags.Goals as goal

pub returns : goal.returns
returns c =
    list_restores (put_event_flag (priority_among c.args.priorities.now.threads.items)) event_flag_form
    no_objects c.in_ok-event_flags.event_flags c.in_ok-event_flags.ensures c.restore_event_flags.result c.args.decoder.now
    c.restore_event_flags.new.decoder c.restore_event_flags.ensures
