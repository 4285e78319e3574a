-- The execution of an instruction over the bus, as over memory and what takes the lines.
use Rattle.std.proofs.Common.{◌≡◌, Some, None, refl, sym, subst}
use Rattle.iop_base.specs.Output.{Output}
use Rattle.iop_base.proofs.Giving.{gives_none}
use Rattle.iop_exec.specs.declared.cpu.Cpu.{Cpu}
use Rattle.iop_exec.specs.declared.cpu.Event.{Event}
use Rattle.iop_exec.specs.Row.{Row, Goes, Serves, Faults}
use Rattle.iop_exec.specs.Stepping.{DoesUpToCall}
use Rattle.iop_stubs.specs.Stubs.{Memory}
use Rattle.iop_machine.specs.declared.guest_bus.GuestBus.{GuestBus}
use Rattle.iop_machine.specs.Storing.{Stores, Performs, ram_of}

module _ {L : Type 0} (seen : L → Output) where
  -- the borrows of the bus stay, and this is done over its memory and what takes the lines
  pub record OverBus (row : Row) (event : Event) (cpu cpu' : Cpu) (old new : GuestBus L)
      : Type 0 where
    pub guest : new.guest.ghost_name ≡ old.guest.ghost_name
    pub lines : new.lines.ghost_name ≡ old.lines.ghost_name
    pub done : Performs row event old.clock cpu old.guest.now (seen old.lines.now) cpu'
        new.guest.now (seen new.lines.now)

  -- where the bus stays as it is
  stays : (row : Row) (event : Event) (cpu cpu' : Cpu) (old new : GuestBus L) → new ≡ old
      → Performs row event old.clock cpu old.guest.now (seen old.lines.now) cpu' old.guest.now
      (seen old.lines.now) → OverBus row event cpu cpu' old new
  stays row event cpu cpu' old new e done =
      subst (OverBus row event cpu cpu' old) (sym e)
      (record { guest = refl; lines = refl; done = done })

  -- what an instruction does over the bus
  pub over_bus : (row : Row) (event : Event) (cpu cpu' : Cpu) (old new : GuestBus L)
      → DoesUpToCall ram_of (Stores seen) row event cpu old cpu' new
      → OverBus row event cpu cpu' old new
  over_bus (Goes after None) event cpu cpu' old new h =
      stays (Goes after None) event cpu cpu' old new h.2
      (h.0, h.1, refl, gives_none (seen old.lines.now))
  over_bus (Goes after (Some s)) event cpu cpu' old new h = record {
    guest = h.2.guest_name;
    lines = h.2.lines_name;
    done = (h.0, h.1, h.2.memory, h.2.lines);
  }
  over_bus (Serves code) event cpu cpu' old new h =
      stays (Serves code) event cpu cpu' old new h.2
      (h.0, h.1, refl, gives_none (seen old.lines.now))
  over_bus (Faults kind) event cpu cpu' old new h =
      stays (Faults kind) event cpu cpu' old new h.2
      (h.0, h.1, refl, gives_none (seen old.lines.now))

  -- and what it does over memory and what takes the lines
  pub performed : (row : Row) (event : Event) (cpu cpu' : Cpu) (old new : GuestBus L)
      (memory : Memory) (told : Output)
      → DoesUpToCall ram_of (Stores seen) row event cpu old cpu' new → memory ≡ new.guest.now
      → told ≡ seen new.lines.now
      → Performs row event old.clock cpu old.guest.now (seen old.lines.now) cpu' memory told
  performed row event cpu cpu' old new memory told h e f =
      rw (e, f) (over_bus row event cpu cpu' old new h).done
