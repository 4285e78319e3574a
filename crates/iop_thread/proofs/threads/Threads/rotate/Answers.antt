use Rattle.std.proofs.Common.{◌≡◌, ◌∙◌, ap, refl, sym, subst}
use Rattle.iop_thread.specs.declared.state.State.{State}
use Rattle.iop_thread.specs.declared.state.State.TheVariants.{Running}
use Rattle.iop_thread.specs.Operations.{rotates, rotates_ready}
use Rattle.iop_thread.specs.Standing.{Holds}
use Rattle.iop_thread.specs.States.{is_ready}
use Rattle.iop_thread.specs.ThreadTable.{first_ready, leaves}
use Rattle.iop_thread.proofs.ChoosingThreads.{rotates_holds}
use Rattle.iop_thread.proofs.FindingThreads.{running_thread_runs}
use Rattle.iop_thread.proofs.Handling.{enters_stopped}
use Rattle.iop_thread.proofs.Placed.{keeps_places}
use Rattle.iop_thread.proofs.Settling.{in_place, can_enter, stands_as}
use Rattle.iop_thread.proofs.threads.Threads.rotate.Goals as goal
use Rattle.iop_thread.proofs.threads.Threads.rotate.Goals.{in_default-via-in-Some+else-eq, in_default-via-in_default}

pub put_last-requires : goal.put_last-requires
put_last-requires g c =
    let (s, h) = c.requires.sound in
    let found = c.in-Some.found in
    let t = found.thread in
    let (is, there) = c.in-Some.ensures s h in
    let at = in_place g.R.Ready.stands c.args.self.now s h found there in
    let runs = (running_thread_runs s h.placed t is).is in
    let can = can_enter g.R.Ready.stands c.args.self.now s h found there (ap is_ready runs) t refl in (
      h.place,
      leaves s t Running,
      subst (λ (state : State). Holds g.R.Ready.stands h.place c.leave.new.self (leaves s t state)) runs
          (c.leave.ensures h.place s h.holds at),
      enters_stopped h.place s found.slot t can,
    )

pub returns-in-Some : goal.returns-in-Some
returns-in-Some g c = λ s h.
    let found = c.in-Some.found in
    let t = found.thread in
    let (is, there) = c.in-Some.ensures s h in
    let at = in_place g.R.Ready.stands c.args.self.now s h found there in
    let runs = (running_thread_runs s h.placed t is).is in
    let can = can_enter g.R.Ready.stands c.args.self.now s h found there (ap is_ready runs) t refl in
    let left = subst (λ (state : State). Holds g.R.Ready.stands h.place c.leave.new.self
    (leaves s t state)) runs (c.leave.ensures h.place s h.holds at) in
    let same = sym c.eq.ensures ∙ c.if-eq.true in
    stands_as g.R.Ready.stands h.place c.put_last.new.self _
    (c.put_last.ensures h.place (leaves s t Running) left (enters_stopped h.place s found.slot t can))
    (rotates s c.args.priority c.args.registers.now) (rw (is, same) refl)
    ((keeps_places s h.placed).rotates c.args.priority c.args.registers.now tt)

pub returns-in_default : goal.returns-in_default
returns-in_default g c = λ s h.
    let p = c.args.priority in
    let registers = c.args.registers.now in
    let did : rotates s p registers ≡ rotates_ready s (first_ready s p) =
    elim c.in_default.branch [
      | in_default-via-in-Some+else-eq w ↦
          rw ((w.in-Some.ensures s h).0, sym w.eq.ensures ∙ w.if-eq.false) refl
      | in_default-via-in_default w ↦ rw (w.in_default.ensures s h) refl
    ] in
    stands_as g.R.Ready.stands h.place (record c.args.self.now { ready = c.rotate.new.self })
    (rotates_ready s (first_ready s p))
    (rotates_holds g.R.Ready.stands h.place c.args.self.now s h.holds p c.rotate.new.self
    (c.rotate.ensures _ h.holds.ready))
    (rotates s p registers) did ((keeps_places s h.placed).rotates p registers tt)
