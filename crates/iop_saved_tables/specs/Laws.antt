-- What the laws of the forms say.
use Rattle.iop_registry.specs.Restoring as registry
use Rattle.iop_registry.specs.declared.registry.Entry.{Entry}
use Rattle.iop_snapshot.specs.Forms.{IsLawful, series}
use Rattle.iop_snapshot.specs.Putting.{put_all, next_form}
use Rattle.iop_stubs.specs.Restoring.{stubs_put_back}
use Rattle.iop_stubs.specs.Stubs.{Memory}
use Rattle.iop_stubs.specs.declared.live_stub.Stub.{Stub}
use Rattle.iop_sysmem.specs.BlockMap.{BlockMap}
use Rattle.iop_sysmem.specs.Restoring as blocks
use Rattle.iop_sysmem.specs.declared.block.Block.{Block}
use Rattle.iop_sysmem.specs.declared.blocks.TheConstants.{KERNEL}
use Rattle.iop_time.specs.Restoring.{alarms_put_back, delays_put_back}
use Rattle.iop_time.specs.Timers.{Timers}
use Rattle.iop_time.specs.declared.alarm.Alarm.{Alarm}
use Rattle.iop_time.specs.declared.delay.Delay.{Delay}
use Rattle.std.specs.Prelude.{◌≡◌, ◌<◌, ℕ, Some, List, [], ◌∷◌, ◌++◌, length}
use Rattle.iop_saved_tables.specs.Lines.{lines_form}
use Rattle.iop_saved_tables.specs.Records.{alarm_form, delay_form, library_form, stub_form, next_stub}
use Rattle.iop_saved_tables.specs.Tables.{Opened, put_alarm, put_delay, put_block, put_library, put_stub, put_used, unopened, used_form}

-- what was spelled is read, whatever follows, and what was read is what is spelled
pub record FormsAreLawful : Type 0 where
  pub alarms : (timers : Timers)
      → IsLawful (series alarm_form (next_form put_alarm alarm_form timers))
  pub delays : (timers : Timers)
      → IsLawful (series delay_form (next_form put_delay delay_form timers))
  pub lines : IsLawful lines_form
  pub blocks : (map : BlockMap) → IsLawful (used_form map)
  pub libraries : (libraries : List Entry)
      → IsLawful (series library_form (next_form put_library library_form libraries))
  pub stubs : IsLawful (series stub_form next_stub)

-- to put records back one after the other is what each table's crate says of it: so all that stands
-- in a table comes back, as its law says
pub record TablesArePutBack : Type 0 where
  pub alarms : (timers : Timers) (alarms : List Alarm)
      → put_all put_alarm timers alarms ≡ alarms_put_back timers alarms
  pub delays : (timers : Timers) (delays : List Delay)
      → put_all put_delay timers delays ≡ delays_put_back timers delays
  pub blocks : (map : BlockMap) (used : List Block)
      → put_all put_block map used ≡ blocks.with_all map used
  pub libraries : (old new : List Entry)
      → put_all put_library old new ≡ registry.with_all old new
  pub stubs : (memory : Memory) (stubs : List Stub)
      → put_all put_stub memory stubs ≡ stubs_put_back memory stubs

-- these alarms stand behind those that stood, and the delays are as they were
pub record AlarmsStandBehind (old : Timers) (put : List Alarm) (new : Timers) : Type 0 where
  pub alarms : new.alarms ≡ old.alarms ++ put
  pub delays : new.delays ≡ old.delays

-- these delays stand behind those that stood, and the alarms are as they were
pub record DelaysStandBehind (old : Timers) (put : List Delay) (new : Timers) : Type 0 where
  pub delays : new.delays ≡ old.delays ++ put
  pub alarms : new.alarms ≡ old.alarms

-- what was put back one after the other is what stands behind that which stood there: so a file
-- that was read is the file that the restored machine would write
pub record TablesTellWhatWasPut : Type 0 where
  pub alarms : (old new : Timers) (alarms : List Alarm) → put_all put_alarm old alarms ≡ Some new
      → AlarmsStandBehind old alarms new
  pub delays : (old new : Timers) (delays : List Delay) → put_all put_delay old delays ≡ Some new
      → DelaysStandBehind old delays new
  -- into a map of the kernel's block alone, which comes first of those that are put back
  pub blocks : (size : ℕ) (used : List Block) (opened : Opened)
      → put_all put_used (unopened (record { size = size; used = KERNEL ∷ [] })) used ≡ Some opened
      → 0 < length used → opened.map ≡ record { size = size; used = used }
  pub libraries : (old new libraries : List Entry)
      → put_all put_library old libraries ≡ Some new → new ≡ old ++ libraries
  pub stubs : (old new : Memory) (stubs : List Stub) → put_all put_stub old stubs ≡ Some new
      → new ≡ record old { live = old.live ++ stubs }
