-- What a step makes of the objects for which threads wait: they stay, or they are what the service
-- that it calls has left of them.
use Rattle.std.proofs.Common.{◌≡◌, ℕ, Option, Some, None, [], refl, ap, sym, ◌∙◌}
use Rattle.iop_base.specs.declared.guest_fault.GuestFault.{GuestFault}
use Rattle.iop_event.specs.EventFlags.{EventFlags}
use Rattle.iop_exec.specs.Laws.{IsSteady, cpu_after}
use Rattle.iop_exec.specs.Row.{Row, Goes, Serves, Faults, behind_syscall, row}
use Rattle.iop_exec.proofs.RowKeeps.{rows_stay_steady}
use Rattle.iop_kernel_laws.specs.Histories.{Called, called}
use Rattle.iop_kernel.specs.Kinds.{Table, of_kind}
use Rattle.iop_kernel.specs.Laws.{IsCore}
use Rattle.iop_kernel.specs.Serving.{services}
use Rattle.iop_kernel.specs.System.{Kernel, System, Served}
use Rattle.iop_kernel.specs.declared.after.After.{After}
use Rattle.iop_kernel.specs.declared.after.After.TheVariants.{Resume, Switch, ModuleReturned, Fault}
use Rattle.iop_kernel_laws.proofs.Keeping.Outcomes.{services_alone}
use Rattle.iop_kernel_laws.proofs.Order.First.{deliveries_are_in_order}
use Rattle.iop_mbx.specs.Mailboxes.{Mailboxes}
use Rattle.iop_pools.specs.FixedPools.{FixedPools}
use Rattle.iop_pools.specs.VariablePools.{VariablePools}
use Rattle.iop_sema.specs.Semaphores.{Semaphores}
use Rattle.iop_thread.specs.declared.kind.Kind.{Kind}
use Rattle.iop_machine.specs.Histories.{call_at, call_by, call_in}
use Rattle.iop_machine.specs.Iop.{Iop, core_of}
use Rattle.iop_machine.specs.Looking.{takes_events, next_coming}
use Rattle.iop_machine.specs.Services.{calls, calls_by, serves, calling}
use Rattle.iop_machine.specs.Stepping.{Turn, takes_turn, is_execution, step, executes, performs, waits_by}
use Rattle.iop_machine.specs.World.{World}
use Rattle.iop_machine.proofs.LoadingLands.{boots_leave, returns_leave}
use Rattle.iop_machine.proofs.LookingLemmas.{taken_kernel}
use Rattle.iop_machine.proofs.Moving.{moves_with, takes_core}
use Rattle.iop_machine.proofs.LinesAside.{dispatch_kernel}
use Rattle.iop_machine.proofs.Stepping.{IsTurn, stopped, unbooted, delivery, dispatch, execution, waiting, turn_is}

-- the objects of all kinds
abbrev pub AllObjects : Type 0
AllObjects = Semaphores × EventFlags × Mailboxes × VariablePools × FixedPools

abbrev pub objects : Kernel → AllObjects
objects k = (k.semaphores, k.event_flags, k.mailboxes, k.variable_pools, k.fixed_pools)

-- those of one kind
abbrev pub objects_in : (kind : Kind) → AllObjects → Table kind
objects_in kind (semaphores, flags, boxes, vpls, fpls) = of_kind kind semaphores flags boxes vpls fpls

-- what a step leaves of the objects, by the call that it makes
pub data ObjectsGo (s : Iop) (new : Kernel) : Option Called → Type 0 where
  stay : objects new ≡ objects s.kernel → ObjectsGo s new None
  served : (code : ℕ) → (let v = takes_events s in IsCore (calling v).core)
      → (let v = takes_events s in
      objects new ≡ objects (services (calling v) code).left.state.core.kernel)
      → ObjectsGo s new (called (calling (takes_events s)) code)

-- the events that are due change interrupt lines alone
pub taken_objects : (s : Iop) → objects (takes_events s).kernel ≡ objects s.kernel
taken_objects s = ap objects (taken_kernel s)

-- what becomes of a caller changes nothing of what its service left
calls_by_same : (s : Iop) (d : Served) (after : After)
    → ((kind : GuestFault) → after ≡ Fault kind
    → (d.left.state ≡ calling s) × (d.pieces ≡ []))
    → objects (calls_by s d after).state.kernel ≡ objects d.left.state.core.kernel
calls_by_same s d Resume alone = refl
calls_by_same s d Switch alone = refl
calls_by_same s d (ModuleReturned value) alone =
    let now = (serves s d).state in ap objects (returns_leave now now.begun value).kernel
calls_by_same s d (Fault kind) alone =
    sym (ap (λ (x : System). objects x.core.kernel) (alone kind refl).0)

-- the clock goes on to a moment, if one comes
waits_same : (s : Iop) (o : Option ℕ) → objects (waits_by s o).state.kernel ≡ objects s.kernel
waits_same s None = refl
waits_same s (Some moment) = refl

-- an instruction of the thread that runs, or of a handler
performs_objects : (s : Iop) → (let v = takes_events s in IsCore (core_of v)) → (r : Row)
    → (let v = takes_events s in IsSteady v.cpu → IsSteady (cpu_after v.cpu r))
    → let v = takes_events s in ObjectsGo s (performs v r).state.kernel (call_at v r)
unfolding calls
performs_objects s core (Goes after None) moved = stay (taken_objects s)
performs_objects s core (Goes after (Some storing)) moved = stay (taken_objects s)
performs_objects s core (Serves code) moved =
    let v = takes_events s in
    let d = services (calling v) code in
    served code (moves_with v (behind_syscall v.cpu) moved core)
    (calls_by_same v d d.left.after (services_alone (calling v) code))
performs_objects s core (Faults kind) moved = stay (taken_objects s)

-- a turn, by the call that it makes
turn_objects : (w : World) {t : Turn} → IsCore (core_of w.iop) → IsTurn w t
    → ObjectsGo w.iop (takes_turn w t).state.iop.kernel
    (call_by (takes_events w.iop) (is_execution t))
turn_objects w core (stopped stop over) = stay refl
turn_objects w core (unbooted over new) = stay (ap objects (boots_leave w.iop).kernel)
turn_objects w core (delivery d goes is) =
    let keeps = deliveries_are_in_order.delivered (core_of (takes_events w.iop)) d
    (takes_core w.iop core) is in
    stay (ap objects keeps.kernel ∙ taken_objects w.iop)
turn_objects w core (dispatch d goes none is) =
    stay (ap objects (dispatch_kernel (core_of (takes_events w.iop)) d is)
    ∙ taken_objects w.iop)
turn_objects w core (execution goes looks) =
    let v = takes_events w.iop in
    performs_objects w.iop (takes_core w.iop core) (row v.memory.ram v.cpu)
    (rows_stay_steady v.memory.ram v.cpu)
turn_objects w core (waiting goes looks) =
    let v = takes_events w.iop in stay (waits_same v (next_coming v) ∙ taken_objects w.iop)

-- so each step
pub step_objects : (w : World) → IsCore (core_of w.iop)
    → ObjectsGo w.iop (step w).state.iop.kernel (call_in w)
unfolding step executes call_in
step_objects w core = turn_objects w core (turn_is w)
