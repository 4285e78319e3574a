-- What holds of each machine of a run passes the test of machines that are put back.
use Rattle.std.proofs.Common.{◌≡◌, ℕ, ◌<◌, ◌≤◌, true, List, [], ◌∷◌, refl, arith}
use Rattle.std.specs.Prelude.{All}
use Rattle.std.specs.List.{list_all}
use Rattle.std.proofs.lemmas.Bool.{and_from, le-leb, lt-ltb}
use Rattle.std.proofs.lemmas.List.Elements.{All-head, All-tail}
use Rattle.iop_base.proofs.Searching.{AllPairs-head, AllPairs-tail}
use Rattle.iop_intr.specs.declared.irqs.TheConstants.{IRQ_LINES}
use Rattle.iop_kernel.specs.System.{Kernel}
use Rattle.iop_machine.specs.Events.{CanCome}
use Rattle.iop_machine.specs.Modules.{CanBeLeft, HasRoom, Module, ModulesLeft, modules_of}
use Rattle.iop_machine.specs.Restoring.{has_room, may_be_left, may_come_behind}
use Rattle.iop_saved_checks.specs.Kernels.{agrees, all_objects_agree}
use Rattle.iop_saved_checks.specs.Made.{threads_can_be, pools_are_inside}
use Rattle.iop_saved_checks.specs.Objects.{objects_agree}
use Rattle.iop_saved_checks.specs.Threads.{threads_agree, delays_agree}
use Rattle.iop_script.specs.declared.raise.Raise.{Raise}
use Rattle.iop_stubs.specs.Stubs.{Memory}
use Rattle.iop_thread.specs.Ordering.{in_order}
use Rattle.iop_time.specs.declared.ticks.TheConstants.{NEVER}

-- events that can come
come_behind : (last : ℕ) (events : List Raise) → CanCome events → All (λ e. last ≤ e.at) events
    → may_come_behind last events ≡ true
come_behind last [] come later = refl
come_behind last (e ∷ es) come later =
    let order = λ (x y : Raise). x.at ≤ y.at in
    and_from _ _ (and_from _ _
    (and_from _ _ (le-leb last e.at (All-head (λ (e : Raise). last ≤ e.at) e es later))
    (lt-ltb e.at NEVER (All-head (λ (e : Raise). e.at < NEVER) e es come.ticks)))
    (lt-ltb e.line IRQ_LINES (All-head (λ (e : Raise). e.line < IRQ_LINES) e es come.lines)))
    (come_behind e.at es
    (record {
      order = AllPairs-tail order e es come.order;
      ticks = All-tail (λ (e : Raise). e.at < NEVER) e es come.ticks;
      lines = All-tail (λ (e : Raise). e.line < IRQ_LINES) e es come.lines;
    })
    (AllPairs-head order e es come.order))

pub events_pass : (events : List Raise) → CanCome events → may_come_behind 0 events ≡ true
events_pass events come = come_behind 0 events come (λ k d below. omega arith)

-- modules that can be left
room_passes : (m : Module) → HasRoom m → has_room m ≡ true
room_passes m room =
    and_from _ _ (and_from _ _ (le-leb _ _ room.file) (le-leb _ _ room.words))
    (le-leb _ _ room.strings)

rooms_pass : (ms : List Module) → All HasRoom ms → list_all has_room ms ≡ true
rooms_pass [] rooms = refl
rooms_pass (m ∷ ms) rooms =
    and_from _ _ (room_passes m (All-head HasRoom m ms rooms))
    (rooms_pass ms (All-tail HasRoom m ms rooms))

pub left_passes : (left : ModulesLeft) → CanBeLeft left → may_be_left left ≡ true
left_passes left can =
    and_from _ _ (and_from _ _ (le-leb _ _ can.some) (le-leb _ _ can.few))
    (rooms_pass (modules_of left) can.room)

-- whether tables agree does not ask in which order threads are ready
pub agrees_in_order : (memory : Memory) (k : Kernel)
    → agrees memory (record k { threads = in_order k.threads }) ≡ agrees memory k
unfolding agrees threads_agree delays_agree all_objects_agree objects_agree threads_can_be pools_are_inside
agrees_in_order memory k = refl
