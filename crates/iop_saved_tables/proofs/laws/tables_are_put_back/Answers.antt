use Rattle.std.proofs.Common.{refl}
use Rattle.iop_registry.specs.Restoring as registry
use Rattle.iop_snapshot.proofs.Putting.{puts_each}
use Rattle.iop_stubs.specs.Restoring.{stub_may_follow, with_last_stub, stubs_put_back}
use Rattle.iop_sysmem.specs.Restoring as blocks
use Rattle.iop_time.specs.Restoring.{alarm_may_follow, delay_may_follow, with_last_alarm, with_last_delay, alarms_put_back, delays_put_back}
use Rattle.iop_time.specs.Timers.{Timers}
use Rattle.iop_time.specs.declared.alarm.Alarm.{Alarm}
use Rattle.iop_time.specs.declared.delay.Delay.{Delay}
use Rattle.iop_saved_tables.proofs.laws.tables_are_put_back.Goals as goal

pub returns : goal.returns
returns c = record {
  alarms = puts_each
      (λ (timers : Timers) (alarm : Alarm). alarm_may_follow timers.alarms timers.delays alarm)
      with_last_alarm alarms_put_back (λ s. refl) (λ s x xs. refl);
  delays = puts_each
      (λ (timers : Timers) (delay : Delay). delay_may_follow timers.alarms timers.delays delay)
      with_last_delay delays_put_back (λ s. refl) (λ s x xs. refl);
  blocks = puts_each blocks.may_follow blocks.with_last blocks.with_all (λ s. refl)
      (λ s x xs. refl);
  libraries = puts_each registry.may_follow registry.with_last registry.with_all (λ s. refl)
      (λ s x xs. refl);
  stubs = puts_each stub_may_follow with_last_stub stubs_put_back (λ s. refl) (λ s x xs. refl);
}
