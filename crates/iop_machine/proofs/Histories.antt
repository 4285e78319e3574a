-- The history of a run tells what has become of the kernel's objects.
use Rattle.std.proofs.Common.{◌≡◌, ℕ, zero, suc, Option, List, [], refl, sym, arith, subst}
use Rattle.std.proofs.lemmas.List.{append-nil}
use Rattle.iop_base.specs.Places.{IsRamSize}
use Rattle.iop_kernel_laws.specs.Histories.{Called, called}
use Rattle.iop_kernel.specs.Laws.{IsCore}
use Rattle.iop_kernel.specs.Serving.{services}
use Rattle.iop_kernel.specs.System.{Kernel, System, beginning as kernel_beginning}
use Rattle.iop_kernel.specs.WaiterPlaces.{HavePlacesFor, HavePlaces}
use Rattle.iop_kernel_laws.proofs.Histories.CountedHistories.{IsHistory, history_grows}
use Rattle.iop_kernel_laws.proofs.Histories.Counts.{services_count}
use Rattle.iop_kernel_laws.proofs.Histories.DeliveredHistories.{IsDeliveryHistory, delivery_history_grows}
use Rattle.iop_kernel_laws.proofs.Histories.Messages.{services_deliver}
use Rattle.iop_kernel_laws.proofs.Histories.Telling.{longer}
use Rattle.iop_script.specs.declared.raise.Raise.{Raise}
use Rattle.iop_thread.specs.declared.kind.Kind.TheVariants.{Semaphore, Mailbox}
use Rattle.iop_machine.specs.Histories.{calls_in}
use Rattle.iop_machine.specs.Iop.{Iop}
use Rattle.iop_machine.specs.Laws.{RunsAreCounted, RunsAreDelivered}
use Rattle.iop_machine.specs.Looking.{takes_events}
use Rattle.iop_machine.specs.Modules.{ModulesLeft}
use Rattle.iop_machine.specs.Services.{calling}
use Rattle.iop_machine.specs.Stepping.{step, steps}
use Rattle.iop_machine.specs.World.{World, beginning}
use Rattle.iop_machine.proofs.Landing.{runs_stay_sound}
use Rattle.iop_machine.proofs.ObjectSteps.{AllObjects, objects, ObjectsGo, stay, served, taken_objects, step_objects}
use Rattle.iop_machine.proofs.ObjectsHold.{calling_holds}

-- a history tells what has become of the objects
record Tells (all : AllObjects) (history : List Called) : Type 0 where
  semaphores : IsHistory all.0 history
  mailboxes : IsDeliveryHistory all.2 history

-- at first there is none
nothing_told : Tells (objects kernel_beginning) []
nothing_told = record {
  semaphores = record {
    counted = λ id x live. absurd (cc live);
    fresh = λ id above. (refl, refl);
  };
  mailboxes = record {
    delivered = λ id x live. absurd (cc live);
    fresh = λ id above. (refl, refl);
  };
}

-- a history tells the same of the same objects
told_so : {old new : AllObjects} (history : List Called) → new ≡ old → Tells old history
    → Tells new history
told_so history same = subst (λ (all : AllObjects). Tells all history) (sym same)

-- with a call more, if there is one, it tells what has become of them then
abbrev Grows : (old new : Kernel) → Option Called → Type 0
Grows old new call =
    (history : List Called) → Tells (objects old) history
    → Tells (objects new) (longer history call)

-- a service of the kernel
serves_grow : (s : System) (code : ℕ) → IsCore s.core → HavePlaces s.memory s.core.kernel
    → Grows s.core.kernel (services s code).left.state.core.kernel (called s code)
serves_grow s code core places history h = record {
  semaphores =
      history_grows history (called s code) s.core.kernel.semaphores
      (services s code).left.state.core.kernel.semaphores
      (core.placed.objects Semaphore).sound.given
      (services_count s code (omega (arith, core.steady.registers))) h.semaphores;
  mailboxes =
      delivery_history_grows history (called s code) s.core.kernel.mailboxes
      (services s code).left.state.core.kernel.mailboxes
      (core.placed.objects Mailbox).sound.given
      (services_deliver s code (omega (arith, core.steady.registers)) core.overdue places)
      h.mailboxes;
}

-- what a step makes of the objects
goes_grow : (s : Iop) (new : Kernel) → HavePlaces s.memory s.kernel → {call : Option Called}
    → ObjectsGo s new call → Grows s.kernel new call
goes_grow s new places (stay same) history h =
    subst (Tells (objects new)) (sym (append-nil history)) (told_so history same h)
goes_grow s new places (served code core same) history h =
    let system = calling (takes_events s) in
    told_so (longer history (called system code)) same
    (serves_grow system code core (calling_holds (HavePlacesFor s.memory) s new places) history
    (told_so history (taken_objects s) h))

-- over whole runs
module _ (size : ℕ) (modules : ModulesLeft) (events : List Raise) (sized : IsRamSize size) where
  abbrev first : World
  first = beginning size modules events

  runs_tell : (k : ℕ) → Tells (objects (steps k first).state.iop.kernel) (calls_in k first)
  unfolding calls_in steps
  runs_tell zero = nothing_told
  runs_tell (suc k) =
      let w = (steps k first).state in
      let sound = runs_stay_sound size modules events k sized in
      goes_grow w.iop (step w).state.iop.kernel sound.places (step_objects w sound.core)
      (calls_in k first) (runs_tell k)

pub runs_are_counted : RunsAreCounted
runs_are_counted =
    λ size modules events k sized. (runs_tell size modules events sized k).semaphores.counted

pub runs_are_delivered : RunsAreDelivered
runs_are_delivered =
    λ size modules events k sized. (runs_tell size modules events sized k).mailboxes.delivered
