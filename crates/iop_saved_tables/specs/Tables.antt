-- How records are put back into their tables: this project's own profile.
use Rattle.std.specs.Prelude.{nat_lt, Bool, true, false, ◌==◌, ◌&&◌, if◌then◌else◌, Option, Some, None, option_map, List, length}
use Rattle.iop_registry.specs.Restoring as registry
use Rattle.iop_registry.specs.declared.registry.Entry.{Entry}
use Rattle.iop_stubs.specs.Restoring.{stub_may_follow, with_last_stub}
use Rattle.iop_stubs.specs.Stubs.{Memory}
use Rattle.iop_stubs.specs.declared.live_stub.Stub.{Stub}
use Rattle.iop_sysmem.specs.BlockMap.{BlockMap}
use Rattle.iop_sysmem.specs.Restoring as blocks
use Rattle.iop_sysmem.specs.declared.block.Block.{Block}
use Rattle.iop_sysmem.specs.declared.blocks.TheConstants.{KERNEL}
use Rattle.iop_time.specs.Restoring.{alarm_may_follow, delay_may_follow, with_last_alarm, with_last_delay}
use Rattle.iop_time.specs.Timers.{Timers}
use Rattle.iop_time.specs.declared.alarm.Alarm.{Alarm}
use Rattle.iop_time.specs.declared.delay.Delay.{Delay}
use Rattle.iop_snapshot.specs.Forms.{Form, tested, series}
use Rattle.iop_snapshot.specs.Putting.{next_form}
use Rattle.iop_saved_tables.specs.Records.{block_form}

abbrev pub put_alarm : Timers → Alarm → Option Timers
put_alarm timers alarm =
    if alarm_may_follow timers.alarms timers.delays alarm
    then Some (with_last_alarm timers alarm)
    else None

abbrev pub put_delay : Timers → Delay → Option Timers
put_delay timers delay =
    if delay_may_follow timers.alarms timers.delays delay
    then Some (with_last_delay timers delay)
    else None

abbrev pub put_block : BlockMap → Block → Option BlockMap
put_block map block =
    if blocks.may_follow map block then Some (blocks.with_last map block) else None

-- a stub is live in memory whose RAM has its words
abbrev pub put_stub : Memory → Stub → Option Memory
put_stub memory stub =
    if stub_may_follow memory stub then Some (with_last_stub memory stub) else None

abbrev pub put_library : List Entry → Entry → Option (List Entry)
put_library entries entry =
    if registry.may_follow entries entry then Some (registry.with_last entries entry) else None

-- blocks that are put back, of which the kernel's comes first: whether it has come, and the map,
-- in which it is from the beginning
pub record Opened : Type 0 where
  pub has_kernel : Bool
  pub map : BlockMap

-- whether it is the kernel's block
abbrev pub is_kernels : Block → Bool
is_kernels block = block.start == KERNEL.start && block.size == KERNEL.size

abbrev pub with_map : Opened → BlockMap → Opened
with_map opened map = record opened { map = map }

abbrev pub put_used : Opened → Block → Option Opened
put_used opened block =
    if opened.has_kernel then option_map (with_map opened) (put_block opened.map block)
    else if is_kernels block then Some (record opened { has_kernel = true })
    else None

-- nothing has come yet
abbrev pub unopened : BlockMap → Opened
unopened map = record { has_kernel = false; map = map }

-- the blocks that are used, at least the kernel's
abbrev pub used_form : BlockMap → Form (List Block)
used_form map =
    tested (series block_form (next_form put_used block_form (unopened map)))
    (λ used. nat_lt 0 (length used))
