-- What the laws on live stubs say.
use Rattle.std.specs.Prelude.{◌≡◌, ℕ, ◌+◌, ◌/◌, ◌*◌, ◌^◌, true, ◌⊎◌, false, if◌then◌else◌, Some, None, List, length, Contains}
use Rattle.iop_base.specs.Numbers.{wrapped}
use Rattle.iop_base.specs.Piece.{Piece}
use Rattle.iop_base.specs.Places.{IsRamSize, phys}
use Rattle.iop_base.specs.declared.guest_fault.GuestFault.TheVariants.{BranchInSlot}
use Rattle.iop_exec.specs.Row.{Row, Goes, Faults, after_write_back, row}
use Rattle.iop_exec.specs.declared.cpu.Cpu.{Cpu}
use Rattle.iop_script.specs.declared.raise.Raise.{Raise}
use Rattle.iop_stubs.specs.Binding.{IsSound}
use Rattle.iop_stubs.specs.Stubs.{Memory, stub_line}
use Rattle.iop_stubs.specs.declared.live_stub.Stub.{Stub}
use Rattle.iop_machine.specs.Iop.{Iop, silent}
use Rattle.iop_machine.specs.Laws.{IsMachine}
use Rattle.iop_machine.specs.Looking.{takes_events}
use Rattle.iop_machine.specs.Modules.{ModulesLeft}
use Rattle.iop_machine.specs.Services.{faults_with}
use Rattle.iop_machine.specs.Stepping.{step, steps, executes}
use Rattle.iop_machine.specs.World.{World, booted, beginning}

-- the address that a stub's jump at an address goes to: the target of its function, in the segment
-- of the stub
abbrev pub stub_target : ℕ → Stub → ℕ
stub_target at stub = wrapped (at + 4) / 2 ^ 28 * 2 ^ 28 + stub.target

-- the processor in the delay slot of a stub's jump: what was pending at the stub is written
abbrev pub in_stub_slot : Cpu → Stub → Cpu
in_stub_slot c stub =
    record (after_write_back c) { pc = c.next; next = stub_target c.pc stub; in_slot = true }

-- what a live stub does: in a delay slot it faults; else its jump is taken after the instruction
-- behind it
abbrev pub stub_row : Cpu → Stub → Row
stub_row c stub =
    if c.in_slot then Faults BranchInSlot else Goes (in_stub_slot c stub) None

-- a live stub that is executed goes to its function: after it and the instruction in its delay slot
abbrev pub StubsReachTheirFunctions : Type 0
StubsReachTheirFunctions =
    (memory : Memory) (stub : Stub) (c : Cpu) → IsSound memory → Contains memory.live stub
    → phys (length memory.ram) c.pc ≡ Some stub.at → row memory.ram c ≡ stub_row c stub

-- a stub that was live before a step, or that the step binds, is live after it, or its line is one
-- of the step's pieces
abbrev pub StubsLeaveWithTheirLine : Type 0
StubsLeaveWithTheirLine =
    (w : World) (stub : Stub) → IsMachine w
    → Contains w.iop.memory.live stub ⊎ Contains (step w).bound stub
    → Contains (step w).state.iop.memory.live stub
    ⊎ Contains (step w).pieces (stub_line w.iop.kernel.clock stub)

-- a stub that is live after some steps was live before them, or was bound in them
abbrev pub RunsKeepStubs : Type 0
RunsKeepStubs =
    (w : World) (k : ℕ) (stub : Stub) → IsMachine w
    → Contains (steps k w).state.iop.memory.live stub
    → Contains w.iop.memory.live stub ⊎ Contains (steps k w).bound stub

-- the line of a stub is one of these pieces, at some moment
pub record IsTold (stub : Stub) (pieces : List Piece) : Type 0 where
  pub moment : ℕ
  pub line : Contains pieces (stub_line moment stub)

-- a stub that was live before some steps, or that they bind, is live after them, or they have told
-- that it was stored into
abbrev pub RunsTellStubs : Type 0
RunsTellStubs =
    (w : World) (k : ℕ) (stub : Stub) → IsMachine w
    → Contains w.iop.memory.live stub ⊎ Contains (steps k w).bound stub
    → Contains (steps k w).state.iop.memory.live stub ⊎ IsTold stub (steps k w).pieces

-- after a live stub, which is not executed in a delay slot, the instruction behind it is executed
abbrev pub behind_stub : Iop → Stub → Iop
behind_stub s stub = record s {
  kernel = record s.kernel { clock = s.kernel.clock + 1 };
  cpu = in_stub_slot s.cpu stub;
}

-- the state in which its second word is executed, once the events that are due are taken
abbrev pub in_slot_of : World → Stub → Iop
in_slot_of w stub = behind_stub (takes_events w.iop) stub

-- the processor at a stub's function, with the registers that it had at the stub, into which what
-- was pending there is written
abbrev pub at_function : Cpu → Stub → Cpu
at_function c stub =
    let target = stub_target c.pc stub in
    record (after_write_back c) { pc = target; next = wrapped (target + 4); in_slot = false }

-- an instruction was executed that left this processor
abbrev pub behind_slot : Iop → Cpu → Iop
behind_slot s cpu =
    record s { kernel = record s.kernel { clock = s.kernel.clock + 1 }; cpu = cpu }

-- first the stub's second word, and after it the one at the target of its function: each of the two
-- steps takes the events that are due and executes one instruction, which changes the processor
-- alone. No service is called, nothing is delivered or dispatched, and nothing is told
pub record IsFollowed (w : World) (stub : Stub) : Type 0 where
  pub slot : step w ≡ silent (booted (in_slot_of w stub))
  pub between : executes (booted (in_slot_of w stub)) ≡ true
  pub target : step (booted (in_slot_of w stub))
      ≡ silent (booted (behind_slot (takes_events (in_slot_of w stub))
      (at_function w.iop.cpu stub)))

-- what the next step does where it executes a live stub
pub record ExecutesStub (w : World) (stub : Stub) : Type 0 where
  pub goes : w.iop.cpu.in_slot ≡ false → IsFollowed w stub
  -- in a delay slot it faults, and nothing else changes
  pub faults : w.iop.cpu.in_slot ≡ true
      → step w ≡ silent (booted (faults_with (takes_events w.iop) BranchInSlot))

-- in each state that a run reaches, and for each stub that is live in it
abbrev pub StubsAreFollowed : Type 0
StubsAreFollowed =
    (size : ℕ) (modules : ModulesLeft) (events : List Raise) (k : ℕ) (stub : Stub) → IsRamSize size
    → let w = (steps k (beginning size modules events)).state in
    executes w ≡ true → Contains w.iop.memory.live stub
    → phys (length w.iop.memory.ram) w.iop.cpu.pc ≡ Some stub.at → ExecutesStub w stub
