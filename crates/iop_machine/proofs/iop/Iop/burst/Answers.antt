use Rattle.std.proofs.Common.{◌+◌, sym, ◌∙◌, arith}
use Rattle.iop_exec.specs.Processors.{cpu_of}
use Rattle.iop_exec.specs.Row.{row}
use Rattle.iop_machine.proofs.Bursting.{stands_after, size_kept, number_kept, length-performed, bursts_first, burst_runs, turn_of, plain_advances, plain_goes_on, conclude_advances}
use Rattle.iop_machine.proofs.iop.Iop.burst.Goals as goal

pub instructions-init : goal.instructions-init
instructions-init g c =
    let h = c.requires.runs.1.kernel in
    let now = c.now-clock.ensures.moment c.requires.runs.0.kernel h ∙ h.holds.clock in
    record {
      time = omega (arith, c.requires.time, now);
      later = omega (arith, now);
      some = c.requires.some;
      few = omega arith;
      number = c.requires.number;
      same_size = c.requires.same_size;
      bursts = bursts_first c.args.self.now c.of-registers.result c.of-position.result
          c.now-clock.result c.args.budget _ c.of-registers.ensures c.of-position.ensures now
          c.requires.well;
    }

pub instructions-preserved : goal.instructions-preserved
instructions-preserved g c =
    let i = c.instructions.invariant in
    record {
      time = omega arith;
      later = omega arith;
      some = omega arith;
      few = omega arith;
      number = i.number;
      same_size = i.same_size ∙ sym (length-performed _ _ _ _ _ _ _ _ _ c.perform.ensures);
      bursts = λ s h r. plain_goes_on (turn_of (i.bursts s h r) i.some c.perform.ensures)
          (omega arith) c.in-Plain.is (sym c.failed.ensures ∙ c.if-failed.false)
          (λ t k. stands_after (cpu_of c.perform.new.registers c.perform.new.position)
          c.perform.new.guest (c.instructions.clock + 1) k);
    }

pub take_over-requires-clause-sound : goal.take_over-requires-clause-sound
take_over-requires-clause-sound g c =
    let r = burst_runs c.instructions.self c.perform.new.guest c.requires.runs
    c.instructions.invariant.bursts in (r.0, r.1)

pub returns-then-left-eq0-clause-advances : goal.returns-then-left-eq0-clause-advances
returns-then-left-eq0-clause-advances g c = λ s h r.
    let i = c.instructions.invariant in
    let turn = turn_of (i.bursts s h r) i.some c.perform.ensures in (
      _,
      plain_advances turn c.in-Plain.is (λ t k. c.take_over.ensures _
          (stands_after c.instructions.self.cpu c.perform.new.guest
          c.instructions.self.kernel.clock k)),
    )

pub take_over-requires-in_default-clause-sound : goal.take_over-requires-in_default-clause-sound
take_over-requires-in_default-clause-sound g c =
    let r = burst_runs c.instructions.self c.perform.new.guest c.requires.runs
    c.instructions.invariant.bursts in (r.0, r.1)

pub conclude-requires-clause-runs : goal.conclude-requires-clause-runs
conclude-requires-clause-runs g c =
    let r = burst_runs c.instructions.self c.perform.new.guest c.requires.runs
    c.instructions.invariant.bursts in
    (_, c.take_over-in_default.ensures r.0 r.1, r.2)

pub conclude-requires-clause-time : goal.conclude-requires-clause-time
conclude-requires-clause-time g c =
    let r = burst_runs c.instructions.self c.perform.new.guest c.requires.runs
    c.instructions.invariant.bursts in
    let clock = (c.take_over-in_default.ensures r.0 r.1).kernel.holds.clock in
    let i = c.instructions.invariant in omega (arith, clock, i.time, i.some)

pub conclude-requires-clause-number : goal.conclude-requires-clause-number
conclude-requires-clause-number g c =
    let r = burst_runs c.instructions.self c.perform.new.guest c.requires.runs
    c.instructions.invariant.bursts in
    number_kept (cpu_of c.perform.new.registers c.perform.new.position) c.instructions.clock r.1
    (c.take_over-in_default.ensures r.0 r.1)
    c.instructions.invariant.number

pub conclude-requires-clause-same_size : goal.conclude-requires-clause-same_size
conclude-requires-clause-same_size g c =
    let r = burst_runs c.instructions.self c.perform.new.guest c.requires.runs
    c.instructions.invariant.bursts in
    size_kept (cpu_of c.perform.new.registers c.perform.new.position) c.instructions.clock r.1
    (c.take_over-in_default.ensures r.0 r.1)
    (c.instructions.invariant.same_size
    ∙ sym (length-performed (row c.instructions.self.guest.ram
    (cpu_of c.instructions.registers c.instructions.position)) _ _ _ _ _ _ _ _
    c.perform.ensures))

pub returns-in_default-clause-advances : goal.returns-in_default-clause-advances
returns-in_default-clause-advances g c = λ s h r.
    let i = c.instructions.invariant in
    let turn = turn_of (i.bursts s h r) i.some c.perform.ensures in (
      _,
      conclude_advances turn {now = c.take_over-in_default.new.self}
          (λ t k. c.take_over-in_default.ensures _
          (stands_after c.instructions.self.cpu c.perform.new.guest
          c.instructions.self.kernel.clock k))
          c.in_default.not-Plain c.conclude.ensures,
    )
