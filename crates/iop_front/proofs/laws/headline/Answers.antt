use Rattle.iop_front.proofs.Restored.{headline}
use Rattle.iop_front.proofs.laws.headline.Goals as goal

pub returns : goal.returns
returns c = headline (record {
  events_change_their_lines = c.events_change_their_lines.ensures;
  next_coming_is_least = c.next_coming_is_least.ensures;
  restored_machines_are_machines = c.restored_machines_are_machines.ensures;
  running_threads_were_taken = c.running_threads_were_taken.ensures;
  runs_are_awake = c.runs_are_awake.ensures;
  runs_are_computed = c.runs_are_computed.ensures;
  runs_are_counted = c.runs_are_counted.ensures;
  runs_are_delivered = c.runs_are_delivered.ensures;
  runs_are_on_time = c.runs_are_on_time.ensures;
  runs_are_strict = c.runs_are_strict.ensures;
  runs_begin_as_machines = c.runs_begin_as_machines.ensures;
  runs_end = c.runs_end.ensures;
  runs_keep_events = c.runs_keep_events.ensures;
  runs_stay_machines = c.runs_stay_machines.ensures;
  runs_stay_sound = c.runs_stay_sound.ensures;
  runs_switch_by_dispatch = c.runs_switch_by_dispatch.ensures;
  runs_tell_stubs = c.runs_tell_stubs.ensures;
  steps_keep_objects = c.steps_keep_objects.ensures;
  steps_take_their_events = c.steps_take_their_events.ensures;
  stubs_are_followed = c.stubs_are_followed.ensures;
  stubs_leave_with_their_line = c.stubs_leave_with_their_line.ensures;
})
