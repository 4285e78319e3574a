-- What stores do to the machine.
use Rattle.std.specs.Prelude.{◌≡◌, ℕ, Option, Some, None, List, [], length, replicate}
use Rattle.iop_base.specs.Numbers.{width_bytes, bytes_of}
use Rattle.iop_base.specs.Piece.{Piece}
use Rattle.iop_base.specs.Output.{Output, Gives}
use Rattle.iop_base.specs.declared.width.Width.{Width}
use Rattle.iop_stubs.specs.Stubs.{Memory, access_place, after_store, range_place, store_lines}
use Rattle.iop_exec.specs.declared.cpu.Cpu.{Cpu}
use Rattle.iop_exec.specs.declared.cpu.Event.{Event}
use Rattle.iop_exec.specs.declared.cpu.Event.TheVariants.{Plain, Service, Fault}
use Rattle.iop_exec.specs.Row.{Row, Goes, Serves, Faults, Storing}
use Rattle.iop_machine.specs.declared.guest_bus.GuestBus.{GuestBus}
use Rattle.iop_machine.specs.Iop.{Iop, Transition}

-- bytes are stored at a physical place, if there is one: a live stub of which a byte is stored into
-- is told and no longer live
abbrev pub stores_at : Iop → Option ℕ → List ℕ → Transition Iop
stores_at s place bytes = record {
  state = record s { memory = after_store s.memory place bytes };
  pieces = store_lines s.kernel.clock s.memory place (length bytes);
  bound = [];
}

-- bytes are stored by the kernel at an address; nothing happens where they do not lie in RAM
abbrev pub stores_bytes : Iop → ℕ → List ℕ → Transition Iop
stores_bytes s at bytes = stores_at s (range_place s.memory at (length bytes)) bytes

abbrev pub fills : Iop → (at len : ℕ) → Transition Iop
fills s at len = stores_bytes s at (replicate len 0)

-- the low bytes of a number are stored at an address
abbrev pub stores_number : Iop → ℕ → Width → ℕ → Transition Iop
stores_number s at width value =
    stores_at s (access_place s.memory at width) (bytes_of (width_bytes width) value)

module _ {L : Type 0} where
  abbrev pub ram_of : GuestBus L → List ℕ
  ram_of bus = bus.guest.now.ram

  -- a store takes one bus to another
  pub record Stores (seen : L → Output) (old : GuestBus L) (at : ℕ) (width : Width) (value : ℕ)
      (new : GuestBus L) : Type 0 where
    pub memory : new.guest.now ≡ after_store old.guest.now (access_place old.guest.now at width)
        (bytes_of (width_bytes width) value)
    pub lines : Gives (seen old.lines.now) (seen new.lines.now)
        (store_lines old.clock old.guest.now (access_place old.guest.now at width)
        (width_bytes width))
    pub guest_name : new.guest.ghost_name ≡ old.guest.ghost_name
    pub lines_name : new.lines.ghost_name ≡ old.lines.ghost_name

-- memory after the store that an instruction makes, if it makes one, and its lines
abbrev pub memory_after : Memory → Option Storing → Memory
memory_after memory None = memory
memory_after memory (Some s) =
    after_store memory (access_place memory s.at s.width) (bytes_of (width_bytes s.width) s.value)

abbrev pub lines_after : ℕ → Memory → Option Storing → List Piece
lines_after clock memory None = []
lines_after clock memory (Some s) =
    store_lines clock memory (access_place memory s.at s.width) (width_bytes s.width)

-- the execution of an instruction, by its row: up to the call of a service
abbrev pub Performs : Row → Event → ℕ → Cpu → Memory → Output → Cpu → Memory → Output → Type 0
Performs (Goes after storing) event clock cpu memory seen cpu' memory' seen' =
    (event ≡ Plain) × (cpu' ≡ after) × (memory' ≡ memory_after memory storing)
    × Gives seen seen' (lines_after clock memory storing)
Performs (Serves code) event clock cpu memory seen cpu' memory' seen' =
    (event ≡ Service code) × (cpu' ≡ cpu) × (memory' ≡ memory) × Gives seen seen' []
Performs (Faults kind) event clock cpu memory seen cpu' memory' seen' =
    (event ≡ Fault kind) × (cpu' ≡ cpu) × (memory' ≡ memory) × Gives seen seen' []
