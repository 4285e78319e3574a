-- What one instruction of a burst does. Its processor and its clock are kept apart from the machine
-- meanwhile.
use Rattle.std.proofs.Common.{◌≡◌, ℕ, suc, ◌+◌, ◌-◌, ◌<◌, ◌^◌, true, false, Some, None, [], length, refl, ap, sym, ◌∙◌, subst, arith}
use Rattle.iop_base.specs.Numbers.{width_bytes}
use Rattle.iop_base.specs.Output.{Output, Gives}
use Rattle.iop_base.proofs.Giving.{gives_none}
use Rattle.iop_base.proofs.Lists.{length-bytes_of}
use Rattle.iop_exec.specs.declared.cpu.Cpu.{Cpu}
use Rattle.iop_exec.specs.declared.cpu.Event.{Event}
use Rattle.iop_exec.specs.declared.cpu.Event.TheVariants.{Plain, Service, Fault}
use Rattle.iop_exec.specs.Row.{Row, Goes, Serves, Faults, row}
use Rattle.iop_exec.specs.declared.position.Position.{Position}
use Rattle.iop_exec.specs.declared.registers.Registers.{Registers}
use Rattle.iop_exec.specs.Processors.{cpu_of, position_of, registers_of}
use Rattle.iop_kernel.specs.System.{is_active}
use Rattle.iop_kernel.proofs.Placing.Basics.{clock_place}
use Rattle.iop_kernel.specs.Standing.{HasNumber}
use Rattle.iop_stubs.specs.Stubs.{access_place, Memory, store_lines}
use Rattle.iop_time.specs.Timers.{Timers}
use Rattle.iop_machine.specs.Advancing.{Reached, Advances}
use Rattle.iop_machine.specs.Iop.{Iop, Transition, Takes, silent, with_state}
use Rattle.iop_machine.specs.Looking.{moved}
use Rattle.iop_machine.specs.Running.{Runs, RunsFor}
use Rattle.iop_machine.specs.Services.{faults_with, concludes}
use Rattle.iop_machine.specs.Standing.{Stands, StandsBooted}
use Rattle.iop_machine.specs.Stepping.{performs, steps}
use Rattle.iop_machine.specs.Storing.{Performs}
use Rattle.iop_machine.specs.World.{World, booted}
use Rattle.iop_machine.specs.declared.iop.Iop.{Iop as Program}
use Rattle.iop_machine.proofs.Storing.{length-memory_after}
use Rattle.iop_machine.proofs.Reaching.{reached_none, reached_more, advanced}
use Rattle.iop_machine.proofs.Stepping.{IsNext, next_executes}
use Rattle.iop_machine.proofs.StandingLemmas.{takes_with, takes_as, silent_then}

-- the machine with this processor and this memory at a moment
abbrev pub after : Iop → Cpu → Memory → ℕ → Iop
after s cpu memory clock =
    record s { cpu = cpu; memory = memory; kernel = record s.kernel { clock = clock } }

-- the same of the program's
abbrev pub held : Program → Cpu → Memory → ℕ → Program
held m cpu memory clock =
    record m { cpu = cpu; guest = memory; kernel = record m.kernel { clock = clock } }

-- one stands for the other
pub stands_after : {m : Program} {s : Iop} (cpu : Cpu) (memory : Memory) (clock : ℕ) → Stands m s
    → Stands (held m cpu memory clock) (after s cpu memory clock)
stands_after {m} {s} cpu memory clock h = record {
  kernel = record {
    holds = record {
      clock = refl;
      interrupts = h.kernel.holds.interrupts;
      dispatching = h.kernel.holds.dispatching;
      handler = h.kernel.holds.handler;
      cause = h.kernel.holds.cause;
      threads = h.kernel.holds.threads;
      semaphores = h.kernel.holds.semaphores;
      event_flags = h.kernel.holds.event_flags;
      mailboxes = h.kernel.holds.mailboxes;
      variable_pools = h.kernel.holds.variable_pools;
      fixed_pools = h.kernel.holds.fixed_pools;
      timers = h.kernel.holds.timers;
      irqs = h.kernel.holds.irqs;
    };
    placed = clock_place s.kernel clock h.kernel.placed;
  };
  rest = ap (λ (x : Iop). record x {
    cpu = cpu;
    memory = memory;
    kernel = record s.kernel { clock = clock };
  }) h.rest;
}

-- so the machine is as large as it was
pub size_kept : {m new : Program} {s : Iop} (cpu : Cpu) (clock : ℕ) → Stands m s
    → Stands new (after s cpu s.memory clock) → m.blocks.size ≡ length m.guest.ram
    → new.blocks.size ≡ length new.guest.ram
size_kept cpu clock h g e =
    sym (ap (λ (s : Iop). s.blocks.size) g.rest) ∙ ap (λ (s : Iop). s.blocks.size) h.rest ∙ e
    ∙ sym (ap (λ (s : Iop). length s.memory.ram) h.rest)
    ∙ ap (λ (s : Iop). length s.memory.ram) g.rest

-- and has as many numbers left
pub number_kept : {m new : Program} {s : Iop} (cpu : Cpu) (clock : ℕ) → Stands m s
    → Stands new (after s cpu s.memory clock) → HasNumber m.kernel → HasNumber new.kernel
number_kept cpu clock h g some =
    subst (λ (timers : Timers). timers.next < 2 ^ 64 - 1)
    (sym h.kernel.holds.timers ∙ g.kernel.holds.timers) some

-- what executes does so over another memory
runs_with : (s : Iop) (memory : Memory) → Runs s → Runs (record s { memory = memory })
runs_with s memory h = record {
  over = h.over;
  events = h.events;
  delivery = h.delivery;
  dispatch = h.dispatch;
  active = h.active;
}

-- after a plain instruction nothing is to be done before those that are left
keeps_running : (s : Iop) (cpu : Cpu) (memory : Memory) (left : ℕ) → 0 < left - 1
    → RunsFor s left → RunsFor (after s cpu memory (s.kernel.clock + 1)) (left - 1)
keeps_running s cpu memory left some h = record {
  now = runs_with (moved s cpu (s.kernel.clock + 1)) memory
      (h.ahead cpu (s.kernel.clock + 1) (omega arith) (omega (arith, some)));
  ahead = λ next moment late lt. runs_with (moved s next moment) memory
      (h.ahead next moment (omega (arith, late)) (omega (arith, some, lt)));
}

module _ (s : Iop) (cpu' : Cpu) (memory' : Memory) (b c : Output) where
  -- as the instruction leaves the processor and memory
  abbrev settled : Iop
  settled = record s { cpu = cpu'; memory = memory' }

  -- what was given and what is still to be done, by the instruction's event, for a transition
  abbrev Performed : Event → Transition Iop → Type 0
  Performed Plain t =
      (after s cpu' memory' (s.kernel.clock + 1) ≡ t.state) × Gives b c t.pieces
  Performed (Fault kind) t = Gives b c [] × (concludes settled (Fault kind) ≡ t)
  Performed (Service code) t = Gives b c [] × (concludes settled (Service code) ≡ t)

  performed_by : (event : Event) (r : Row)
      → Performs r event s.kernel.clock s.cpu s.memory b cpu' memory' c
      → Performed event (performs s r)
  performed_by event (Goes next None) h =
      subst (λ (e : Event). Performed e (performs s (Goes next None))) (sym h.0) (
        ap (λ x. after s x memory' (s.kernel.clock + 1)) h.1
            ∙ ap (λ x. after s next x (s.kernel.clock + 1)) h.2,
        h.3,
      )
  performed_by event (Goes next (Some storing)) h =
      subst (λ (e : Event). Performed e (performs s (Goes next (Some storing)))) (sym h.0) (
        ap (λ x. after s x memory' (s.kernel.clock + 1)) h.1
            ∙ ap (λ x. after s next x (s.kernel.clock + 1)) h.2,
        subst (λ n. Gives b c (store_lines s.kernel.clock s.memory
            (access_place s.memory storing.at storing.width) n))
            (sym (length-bytes_of (width_bytes storing.width) storing.value)) h.3,
      )
  performed_by event (Serves code) h =
      subst (λ (e : Event). Performed e (performs s (Serves code))) (sym h.0) (
        h.3,
        ap (λ x. concludes (record settled { cpu = x }) (Service code)) h.1
            ∙ ap (λ x. concludes (record s { memory = x }) (Service code)) h.2,
      )
  performed_by event (Faults kind) h =
      subst (λ (e : Event). Performed e (performs s (Faults kind))) (sym h.0) (
        h.3,
        ap (λ x. silent (faults_with (record settled { cpu = x }) kind)) h.1
            ∙ ap (λ x. silent (faults_with (record s { memory = x }) kind)) h.2,
      )

  -- where it is not plain it is still to be concluded
  is_left : (event : Event) (t : Transition Iop) → (event ≡ Plain → ⊥) → Performed event t
      → Gives b c [] × (concludes settled event ≡ t)
  is_left Plain t other h = absurd (other refl)
  is_left (Fault kind) t other h = h
  is_left (Service code) t other h = h

-- an instruction leaves memory as long as it was
pub length-performed : (r : Row) (event : Event) (clock : ℕ) (cpu cpu' : Cpu)
    (memory memory' : Memory) (b c : Output) → Performs r event clock cpu memory b cpu' memory' c
    → length memory'.ram ≡ length memory.ram
length-performed (Goes after storing) event clock cpu cpu' memory memory' b c h =
    ap (λ (m : Memory). length m.ram) h.2 ∙ length-memory_after memory storing
length-performed _ event clock cpu cpu' memory memory' b c h = ap (λ (m : Memory). length m.ram) h.2

-- the burst, of which so many instructions are left, stands before an instruction
pub record Bursts (w : World) (budget left : ℕ) (m : Program) (a b : Output) : Type 0 where
  pub taken : ℕ
  pub reached : Reached StandsBooted w budget taken left m a b
  pub runs : RunsFor (steps taken w).state.iop left

-- the start, where its processor and its clock are the machine's own
pub bursts_first : (m : Program) (registers : Registers) (position : Position) (clock budget : ℕ)
    (a : Output) → registers ≡ registers_of m.cpu → position ≡ position_of m.cpu
    → clock ≡ m.kernel.clock → a.failed ≡ false → (s : Iop) → Stands m s → RunsFor s budget
    → Bursts (booted s) budget budget (held m (cpu_of registers position) m.guest clock) a a
unfolding steps
bursts_first m registers position clock budget a r p e well s h runs =
    rw (r, p, e) (record {
      taken = 0;
      reached = reached_none (booted s) budget m a a (refl, h) (gives_none a) well;
      runs = runs;
    })

-- the machine itself, whose memory is now this, stands for a state in which something executes
pub burst_runs : {first : Program} {budget left clock : ℕ} {cpu : Cpu} {a b : Output} (m : Program)
    (memory : Memory) → (s : Iop) × Stands first s × RunsFor s budget
    → ((s : Iop) → Stands first s → RunsFor s budget
    → Bursts (booted s) budget left (held m cpu m.guest clock) a b)
    → (s : Iop) × Stands (held m m.cpu memory m.kernel.clock) s × (is_active s.kernel ≡ true)
burst_runs m memory r bursts =
    let before = bursts r.0 r.1 r.2 in (
      _,
      stands_after m.cpu memory m.kernel.clock before.reached.state.1,
      before.runs.now.active,
    )

-- an instruction of the burst, and what it left of the processor, of memory and of what takes the
-- lines
pub record Turn (w : World) (budget left : ℕ) (m : Program) (a b : Output) (event : Event)
    (cpu' : Cpu) (memory' : Memory) (c : Output) : Type 0 where
  pub bursts : Bursts w budget left m a b
  pub some : 0 < left
  pub done : Performs (row m.guest.ram m.cpu) event m.kernel.clock m.cpu m.guest b cpu' memory' c

pub turn_of : {w : World} {budget left : ℕ} {m : Program} {a b c : Output} {event : Event}
    {cpu' : Cpu} {memory' : Memory} → Bursts w budget left m a b → 0 < left
    → Performs (row m.guest.ram m.cpu) event m.kernel.clock m.cpu m.guest b cpu' memory' c
    → Turn w budget left m a b event cpu' memory' c
turn_of bursts some done = record { bursts = bursts; some = some; done = done }

module _ {w : World} {budget left : ℕ} {m : Program} {a b c : Output} {event : Event} {cpu' : Cpu}
    {memory' : Memory} (turn : Turn w budget left m a b event cpu' memory' c) where
  abbrev pub before : Iop
  before = (steps turn.bursts.taken w).state.iop

  -- what the instruction is
  abbrev executed : Transition Iop
  executed = performs before (row before.memory.ram before.cpu)

  stands : Stands m before
  stands = turn.bursts.reached.state.1

  performs_now : Performs (row before.memory.ram before.cpu) event before.kernel.clock before.cpu
      before.memory b cpu' memory' c
  performs_now =
      let s = subst (λ (s : Iop). Performs (row s.memory.ram s.cpu) event m.kernel.clock s.cpu
      s.memory b cpu' memory' c) (sym stands.rest) turn.done in
      subst (λ n. Performs (row before.memory.ram before.cpu) event n before.cpu before.memory b
      cpu' memory' c) (sym stands.kernel.holds.clock) s

  performed : Performed before cpu' memory' b c event executed
  performed =
      performed_by before cpu' memory' b c event (row before.memory.ram before.cpu) performs_now

  performed_plain : event ≡ Plain → Performed before cpu' memory' b c Plain executed
  performed_plain e =
      subst (λ (x : Event). Performed before cpu' memory' b c x executed) e performed

  -- it is the next step
  next : IsNext true left (steps turn.bursts.taken w).state (with_state booted executed)
  next =
      subst (λ (v : World). IsNext true left v (with_state booted executed))
      (sym turn.bursts.reached.state.0) (next_executes before left turn.bursts.runs.now turn.some)

  -- the burst with a transition that is the instruction's
  burst_with : {new : Program} {d : Output}
      → Takes Stands executed new b d
      → Advances StandsBooted w budget turn.bursts.taken (left - 1) new a d
  burst_with {new} {d} h =
      let some = turn.some in
      advanced turn.bursts.reached (left - 1) (omega (arith, some)) next
      (takes_with h StandsBooted booted new (λ g. (refl, g)))

  -- a plain instruction
  pub plain_advances : {new : Program} → event ≡ Plain
      → ((s : Iop) → Stands m s → Stands new (after s cpu' memory' (m.kernel.clock + 1)))
      → Advances StandsBooted w budget turn.bursts.taken (left - 1) new a c
  plain_advances {new} e to =
      let plain = performed_plain e in
      burst_with (record {
        state = subst (Stands new)
            (ap (λ n. after before cpu' memory' (n + 1)) (sym stands.kernel.holds.clock) ∙ plain.0)
            (to before stands);
        gives = plain.1;
      })

  -- after which the burst goes on
  pub plain_goes_on : {new : Program} → 0 < left - 1 → event ≡ Plain → c.failed ≡ false
      → ((s : Iop) → Stands m s → Stands new (after s cpu' memory' (m.kernel.clock + 1)))
      → Bursts w budget (left - 1) new a c
  unfolding steps
  plain_goes_on more e well to = record {
    taken = suc turn.bursts.taken;
    reached = reached_more (plain_advances e to) well;
    runs = subst (λ (v : Iop). RunsFor v (left - 1))
        ((performed_plain e).0 ∙ sym (ap (λ (d : Transition World). d.state.iop) next.step_is))
        (keeps_running before cpu' memory' left more turn.bursts.runs);
  }

  module _ {now : Program}
      (to : (s : Iop) → Stands m s → Stands now (after s cpu' memory' m.kernel.clock)) where
    now_stands : Stands now (settled before cpu' memory' b c)
    now_stands =
        subst (λ n. Stands now (after before cpu' memory' n)) (sym stands.kernel.holds.clock)
        (to before stands)

    -- an instruction that is not plain
    pub conclude_advances : {new : Program} {d : Output} → (event ≡ Plain → ⊥)
        → ((s : Iop) → Stands now s → Takes Stands (concludes s event) new c d)
        → Advances StandsBooted w budget turn.bursts.taken (left - 1) new a d
    conclude_advances other does =
        let rest = is_left before cpu' memory' b c event _ other performed in
        burst_with (takes_as (silent_then rest.0 (does _ now_stands)) rest.1)
