-- How alarms, delays, blocks, libraries and stubs are spelled: this project's own profile.
use Rattle.std.specs.Prelude.{ℕ, nat_lt, Option, Some, List, [], ◌∷◌, ◌++◌, length, take, drop, slice_index}
use Rattle.iop_registry.specs.declared.registry.Entry.{Entry}
use Rattle.iop_stubs.specs.declared.live_stub.Stub.{Stub}
use Rattle.iop_stubs.specs.declared.live_stub.TheConstants.Stub.{MOST_LIVE}
use Rattle.iop_sysmem.specs.declared.block.Block.{Block}
use Rattle.iop_time.specs.declared.alarm.Alarm.{Alarm}
use Rattle.iop_time.specs.declared.delay.Delay.{Delay}
use Rattle.iop_snapshot.specs.Forms.{Form, item, seen_as, tested}
use Rattle.iop_snapshot.specs.declared.widths.TheConstants.{ALARM, DELAY, USED_RANGE, LIBRARY, STUB}

abbrev pub alarm_numbers : Alarm → List ℕ
alarm_numbers a = a.number ∷ a.moment ∷ a.handler ∷ a.arg ∷ a.gp ∷ []

abbrev pub alarm_of : List ℕ → Option Alarm
alarm_of ns = Some (record {
  number = slice_index ns 0;
  moment = slice_index ns 1;
  handler = slice_index ns 2;
  arg = slice_index ns 3;
  gp = slice_index ns 4;
})

unfoldable pub alarm_form : Form Alarm
alarm_form = seen_as (item ALARM) alarm_of alarm_numbers

abbrev pub delay_numbers : Delay → List ℕ
delay_numbers d = d.number ∷ d.moment ∷ d.thread ∷ []

abbrev pub delay_of : List ℕ → Option Delay
delay_of ns = Some (record {
  number = slice_index ns 0;
  moment = slice_index ns 1;
  thread = slice_index ns 2;
})

unfoldable pub delay_form : Form Delay
delay_form = seen_as (item DELAY) delay_of delay_numbers

abbrev pub block_numbers : Block → List ℕ
block_numbers b = b.start ∷ b.size ∷ []

abbrev pub block_of : List ℕ → Option Block
block_of ns = Some (record { start = slice_index ns 0; size = slice_index ns 1 })

unfoldable pub block_form : Form Block
block_form = seen_as (item USED_RANGE) block_of block_numbers

-- the bytes of a library's name, and what is behind them
abbrev pub library_numbers : Entry → List ℕ
library_numbers e = e.name ++ e.major ∷ e.table ∷ []

abbrev pub library_of : List ℕ → Option Entry
library_of ns = Some (record {
  name = take 8 ns;
  major = slice_index ns 8;
  table = slice_index ns 9;
})

unfoldable pub library_form : Form Entry
library_form = seen_as (item LIBRARY) library_of library_numbers

abbrev pub stub_numbers : Stub → List ℕ
stub_numbers s = s.at ∷ (s.name ++ s.major ∷ s.index ∷ s.target ∷ [])

abbrev pub stub_of : List ℕ → Option Stub
stub_of ns = Some (record {
  at = slice_index ns 0;
  name = take 8 (drop 1 ns);
  major = slice_index ns 9;
  index = slice_index ns 10;
  target = slice_index ns 11;
})

unfoldable pub stub_form : Form Stub
stub_form = seen_as (item STUB) stub_of stub_numbers

-- the next stub behind others, of which so many can be live
abbrev pub next_stub : List Stub → Form Stub
next_stub before = tested stub_form (λ _. nat_lt (length before) MOST_LIVE)
