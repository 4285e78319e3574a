-- A machine whose run ended with its budget comes back from its snapshot, and what is put back stands
-- for it.
use Rattle.std.proofs.Common.{◌≡◌, ◌<◌, true, false, Option, Some, None, [], length, append-nil, refl, ap, sym, ◌∙◌, arith}
use Rattle.std.proofs.lemmas.Bool.{and_from, le-leb, lt-ltb}
use Rattle.iop_base.specs.declared.stop.Stop.{Stop}
use Rattle.iop_machine.specs.Iop.{Iop, core_of}
use Rattle.iop_machine.specs.Laws.{IsMachine}
use Rattle.iop_machine.specs.Loader.{loader_may_go_on}
use Rattle.iop_machine.specs.Restoring.{machine_in, may_go_on, snap, state_of}
use Rattle.iop_machine.specs.Standing.{StandsForWorld}
use Rattle.iop_machine.specs.Stepping.{executes, steps}
use Rattle.iop_machine.specs.World.{World}
use Rattle.iop_machine.specs.declared.machine.Machine.{Machine}
use Rattle.iop_machine.specs.declared.snapshots.TheConstants.{SAVABLE_MOMENTS}
use Rattle.iop_machine.proofs.KeepingMachine.{steps_keep_machine}
use Rattle.iop_machine.proofs.RestoredMachines.{goes_back, machine_read}
use Rattle.iop_saved_checks.specs.Kernels.{agrees}
use Rattle.iop_saved_checks.specs.Laws.{CoresInRunsAgree}
use Rattle.iop_saved_machine.specs.Back.{MachineState, machine_form, parts_of}
use Rattle.iop_saved_machine.specs.Laws.{MachinesAreLawful, MachinesAreRead, MachinesComeBack, machine_in_order}
use Rattle.iop_saved_machine.specs.Parts.{written_machine}
use Rattle.iop_snapshot.specs.Forms.{Form, IsLawful, read_whole}
use Rattle.iop_thread.specs.Ordering.{TablesStandInOrder}
use Rattle.iop_resumable_runs.specs.Laws.{CanBeResumed, RunsStayResumable, SnapshotsComeBack, resumed_of}
use Rattle.iop_resumable_runs.specs.Resumable.{IsResumable}
use Rattle.iop_resumable_runs.proofs.GoingOn.{agrees_in_order, events_pass, left_passes}
use Rattle.iop_resumable_runs.proofs.Resuming.{resumable_machines_are_read}
use Rattle.iop_resumable_runs.proofs.Settled.{budget_executes, settled, executing_booted}
use Rattle.iop_resumable_runs.proofs.Headers.{headers_pass}
use Rattle.iop_resumable_runs.proofs.Words.{words_pass}

-- what was spelled, all of it, is read
whole_reads : {X : Type 0} (form : Form X) → IsLawful form → (x : X) → form.fits x ≡ true
    → read_whole form (form.spell x) ≡ Some x
unfolding read_whole
whole_reads form law x fits =
    let read : form.read (form.spell x) ≡ Some (x, []) =
    ap form.read (sym (append-nil (form.spell x))) ∙ law.reads_spelled x [] fits in
    rw read refl

module _ (lawful : MachinesAreLawful) (come : MachinesComeBack) (reads : MachinesAreRead)
    (agree : CoresInRunsAgree) (w : World) (machine : IsMachine w) (h : IsResumable w)
    (e : executes w ≡ true) (early : w.iop.kernel.clock < SAVABLE_MOMENTS)
    (fits : written_machine.fits (parts_of (state_of w.iop)) ≡ true) where
  abbrev m : MachineState
  m = state_of w.iop

  resumed : CanBeResumed w.iop
  resumed = resumable_machines_are_read w machine h (omega (arith, early))

  read : read_whole machine_form (snap w.iop) ≡ Some (parts_of m)
  read =
      ap (read_whole machine_form) (sym (lawful.same (parts_of m)))
      ∙ whole_reads machine_form lawful.lawful (parts_of m)
      (reads.fits m resumed.back resumed.steady fits)

  agreed : agrees w.iop.memory w.iop.kernel ≡ true
  agreed = agree w.iop.memory (core_of w.iop) resumed.back.core (record {
    core = machine.sound.core;
    places = machine.sound.places;
    pools = machine.sound.pools;
    settled = settled w e;
    made = h.made;
  })

  -- its loader can go on
  loads : loader_may_go_on m ≡ true
  loads =
      and_from _ _ (and_from _ _
      (headers_pass (length w.iop.memory.ram) w.iop.libraries h.headers) h.begun)
      (h.loader (executing_booted w e))

  goes_on : may_go_on (machine_in_order m) ≡ true
  goes_on =
      and_from _ _ (and_from _ _ (and_from _ _ (and_from _ _ (and_from _ _ (and_from _ _
      (agrees_in_order w.iop.memory w.iop.kernel ∙ agreed) (le-leb _ _ machine.numbers))
      (events_pass w.iop.events machine.events)) (left_passes w.iop.modules h.modules))
      (lt-ltb _ _ early)) (words_pass m.loading h.words)) loads

  comes_back : machine_in (snap w.iop) ≡ Some (machine_in_order m)
  comes_back =
      machine_read (snap w.iop) (parts_of m) (machine_in_order m) read (come m resumed.back)
      ∙ goes_back (machine_in_order m) goes_on

-- what stands for the machine with its ready threads in order stands for it
stands_again : TablesStandInOrder → (made : Machine) (w : World) → IsMachine w
    → w.is_new ≡ false → w.iop.over ≡ None → StandsForWorld made (resumed_of w.iop)
    → StandsForWorld made w
stands_again order made w machine new over h =
    let s = w.iop in
    let holds = h.iop.kernel.holds in
    record {
      is_new = new ∙ h.is_new;
      iop = record {
        kernel = record {
          holds = record {
            clock = holds.clock;
            interrupts = holds.interrupts;
            dispatching = holds.dispatching;
            handler = holds.handler;
            cause = holds.cause;
            threads = (order.either made.iop.kernel.threads s.kernel.threads).0 holds.threads;
            semaphores = holds.semaphores;
            event_flags = holds.event_flags;
            mailboxes = holds.mailboxes;
            variable_pools = holds.variable_pools;
            fixed_pools = holds.fixed_pools;
            timers = holds.timers;
            irqs = holds.irqs;
          };
          placed = machine.sound.core.placed;
        };
        rest = ap (λ (o : Option Stop). record s { over = o }) over
            ∙ ap (λ (x : Iop). record x { kernel = s.kernel }) h.iop.rest;
      };
    }

pub snapshots_come_back : MachinesAreLawful → MachinesComeBack → MachinesAreRead
    → CoresInRunsAgree → TablesStandInOrder → RunsStayResumable → SnapshotsComeBack
snapshots_come_back lawful come reads agree order stay = record {
  back = λ w n k machine h ends over early fits.
      let now = (steps k w).state in
      comes_back lawful come reads agree now (steps_keep_machine w k machine)
      (stay w k machine h) (budget_executes now _ over ends.now) early fits;
  same = λ made w n k machine ends over stands.
      let now = (steps k w).state in
      stands_again order made now (steps_keep_machine w k machine)
      (executing_booted now (budget_executes now _ over ends.now)) over stands;
}
