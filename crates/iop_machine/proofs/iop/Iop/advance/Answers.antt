use Rattle.std.proofs.Common.{sym, ◌∙◌, arith}
use Rattle.iop_machine.proofs.Acting.{now, stands_now, machine_now, settled_waits, settled_waits_less, settled_stops, settled_runs, settled_bursts, clock_behind, size_behind, number_behind, executing_less}
use Rattle.iop_machine.proofs.iop.Iop.advance.Goals as goal

pub wait-requires : goal.wait-requires
wait-requires g c =
    let r = c.requires.machine in
    let settled = (c.if-settle_first.ensures.settles r.0 c.args.budget r.1).1 in
    record {
      idle = (
        now settled,
        stands_now settled,
        machine_now settled r.2,
        settled.delivery,
        sym (c.active.ensures _ (stands_now settled).kernel) ∙ c.if-not-active.true,
      );
    }

pub returns-then-not-active-clause-progresses : goal.returns-then-not-active-clause-progresses
returns-then-not-active-clause-progresses g c = λ s h.
    let settled = (c.if-settle_first.ensures.settles s c.args.budget h).1 in (
      _,
      settled_waits settled
          (sym (c.active.ensures _ (stands_now settled).kernel) ∙ c.if-not-active.true)
          (c.wait.ensures.waits (now settled) (stands_now settled)),
    )

pub returns-then-not-active-clause-less : goal.returns-then-not-active-clause-less
returns-then-not-active-clause-less g c =
    let r = c.requires.machine in
    let settled = (c.if-settle_first.ensures.settles r.0 c.args.budget r.1).1 in
    settled_waits_less settled
    (sym (c.active.ensures _ (stands_now settled).kernel) ∙ c.if-not-active.true)
    (c.wait.ensures.waits (now settled) (stands_now settled)) r.2 r.1 _

pub returns-then-budget-eq0-clause-progresses : goal.returns-then-budget-eq0-clause-progresses
returns-then-budget-eq0-clause-progresses g c = λ s h.
    let settled = (c.if-settle_first.ensures.settles s c.args.budget h).1 in (
      _,
      settled_stops settled
          (sym (c.active.ensures _ (stands_now settled).kernel) ∙ c.if-not-active.false)
          c.if-budget-eq0.true,
    )

pub take_events-requires : goal.take_events-requires
take_events-requires g c =
    let r = c.requires.machine in
    let settled = (c.if-settle_first.ensures.settles r.0 c.args.budget r.1).1 in
    record { sound = (_, stands_now settled) }

pub instructions_ahead-most-requires-clause-sound
    : goal.instructions_ahead-most-requires-clause-sound
instructions_ahead-most-requires-clause-sound g c =
    let r = c.requires.machine in
    let settled = (c.if-settle_first.ensures.settles r.0 c.args.budget r.1).1 in
    (_, c.take_events.ensures _ (stands_now settled))

pub instructions_ahead-most-requires-clause-time : goal.instructions_ahead-most-requires-clause-time
instructions_ahead-most-requires-clause-time g c =
    let r = c.requires.machine in
    let settled = (c.if-settle_first.ensures.settles r.0 c.args.budget r.1).1 in
    let same = clock_behind settled (c.take_events.ensures _ (stands_now settled)) r.1 in
    omega (arith, c.requires.time, same)

pub burst-rest-requires-clause-runs : goal.burst-rest-requires-clause-runs
burst-rest-requires-clause-runs g c =
    let r = c.requires.machine in
    let settled = (c.if-settle_first.ensures.settles r.0 c.args.budget r.1).1 in
    let behind = c.take_events.ensures _ (stands_now settled) in (
      _,
      behind,
      c.instructions_ahead-most.ensures.ahead _ behind
          (settled_runs settled (sym (c.active.ensures _ (stands_now settled).kernel)
          ∙ c.if-not-active.false)),
    )

pub burst-rest-requires-clause-number : goal.burst-rest-requires-clause-number
burst-rest-requires-clause-number g c =
    let r = c.requires.machine in
    let settled = (c.if-settle_first.ensures.settles r.0 c.args.budget r.1).1 in
    number_behind settled (c.take_events.ensures _ (stands_now settled)) r.2 r.1
    (omega (
      arith,
      c.instructions_ahead-most.ensures.some,
      c.instructions_ahead-most.ensures.within,
    ))
    c.requires.time

pub burst-rest-requires-clause-time : goal.burst-rest-requires-clause-time
burst-rest-requires-clause-time g c =
    let r = c.requires.machine in
    let settled = (c.if-settle_first.ensures.settles r.0 c.args.budget r.1).1 in
    let same = clock_behind settled (c.take_events.ensures _ (stands_now settled)) r.1 in
    omega (arith, c.requires.time, same, c.instructions_ahead-most.ensures.within)

pub burst-rest-requires-clause-same_size : goal.burst-rest-requires-clause-same_size
burst-rest-requires-clause-same_size g c =
    let r = c.requires.machine in
    let settled = (c.if-settle_first.ensures.settles r.0 c.args.budget r.1).1 in
    size_behind settled (c.take_events.ensures _ (stands_now settled)) r.2

pub burst-rest-requires-clause-well : goal.burst-rest-requires-clause-well
burst-rest-requires-clause-well g c =
    let r = c.requires.machine in
    (c.if-settle_first.ensures.settles r.0 c.args.budget r.1).1.reached.well

pub returns-clause-progresses : goal.returns-clause-progresses
returns-clause-progresses g c = λ s h.
    let settled = (c.if-settle_first.ensures.settles s c.args.budget h).1 in
    let behind = c.take_events.ensures _ (stands_now settled) in
    let runs = settled_runs settled (sym (c.active.ensures _ (stands_now settled).kernel)
    ∙ c.if-not-active.false) in (
      _,
      settled_bursts settled c.instructions_ahead-most.ensures.within
          (c.burst-rest.ensures.advances _ behind
          (c.instructions_ahead-most.ensures.ahead _ behind runs)).1,
    )

pub returns-clause-less : goal.returns-clause-less
returns-clause-less g c =
    let r = c.requires.machine in
    executing_less r.2 r.1 (returns-clause-progresses g c r.0 r.1).1
    (omega (arith, c.instructions_ahead-most.ensures.within, c.burst-rest.ensures.fewer)) _
