-- Whether an object agrees with the threads and with memory: this project's own profile.
use Rattle.std.specs.Prelude.{ℕ, Bool, ◌&&◌, List, map}
use Rattle.std.specs.List.{list_all}
use Rattle.iop_kernel.specs.Kinds.{Table}
use Rattle.iop_objects.specs.Objects.{Objects, state_of, waiters_of}
use Rattle.iop_objects.specs.declared.waiter.Waiter.{Waiter}
use Rattle.iop_queues.specs.declared.queued.Queued.{Queued}
use Rattle.iop_stubs.specs.Stubs.{Memory}
use Rattle.iop_thread.specs.ThreadTable.{ThreadTable}
use Rattle.iop_thread.specs.declared.kind.Kind.{Kind}
use Rattle.iop_saved_checks.specs.Idle.{is_idle_where}
use Rattle.iop_saved_checks.specs.Places.{has_place}
use Rattle.iop_saved_checks.specs.Waiters.{are_waiters}

-- the ids of the live objects
abbrev pub ids_of : {A W : Type 0} → Objects A W → List ℕ
ids_of s = map (λ o. o.id) s.live

-- whether those that wait for the object of an id do so by their states, and have places for what
-- they are told, and whether there is nothing to be had for them
abbrev pub object_agrees : {W : Type 0} → ThreadTable → Kind → (has_place : W → Bool)
    → (waiters : List (Queued (Waiter W))) → (idle : Bool) → (id : ℕ) → Bool
object_agrees threads kind has_place waiters idle id =
    are_waiters threads kind id has_place waiters && idle

-- the same of the object that a table has
abbrev pub agrees_in : Memory → ThreadTable → (kind : Kind) → Table kind → ℕ → Bool
agrees_in memory threads kind s id =
    object_agrees threads kind (has_place kind memory) (waiters_of s id)
    (is_idle_where kind (state_of s id) (waiters_of s id)) id

unfoldable pub objects_agree : Memory → ThreadTable → (kind : Kind) → Table kind → Bool
objects_agree memory threads kind s = list_all (agrees_in memory threads kind s) (ids_of s)
