-- How semaphores are spelled, and put back. This project's own profile.
use Rattle.std.specs.Prelude.{ℕ, ⊤, if◌then◌else◌, Option, Some, None, List, [], ◌∷◌, slice_index, map}
use Rattle.iop_objects.specs.Objects.{Object, waits}
use Rattle.iop_objects.specs.Restoring.{may_wait, with_last}
use Rattle.iop_objects.specs.declared.waiter.Waiter.{Waiter}
use Rattle.iop_queues.specs.declared.queued.Queued.{Queued}
use Rattle.iop_sema.specs.Restoring.{may_follow}
use Rattle.iop_sema.specs.Semaphores.{Semaphores}
use Rattle.iop_sema.specs.declared.semaphore.Semaphore.{Semaphore}
use Rattle.iop_snapshot.specs.Forms.{Form, item, seen_as}
use Rattle.iop_snapshot.specs.declared.widths.TheConstants.{SEMAPHORE}
use Rattle.iop_saved_objects.specs.Lists.{with_list, put_with_list}
use Rattle.iop_saved_objects.specs.Waiters.{plain_form, saved_waiters, put_waiter}
use Rattle.iop_saved_objects.specs.declared.head.Head.{Head}

-- a semaphore, and the threads that wait for it, in order of their arrival
abbrev pub SavedSemaphore : Type 0
SavedSemaphore = Head Semaphore × List (Waiter ⊤)

abbrev pub saved_semaphore : Object Semaphore ⊤ → SavedSemaphore
saved_semaphore o = (record { id = o.id; state = o.state }, saved_waiters o.waiters)

abbrev pub saved_semaphores : Semaphores → List SavedSemaphore
saved_semaphores s = map saved_semaphore s.live

abbrev pub semaphore_numbers : Head Semaphore → List ℕ
semaphore_numbers head =
    let x = head.state in head.id ∷ x.attr ∷ x.option ∷ x.initial ∷ x.max ∷ x.count ∷ []

abbrev pub semaphore_of : List ℕ → Option (Head Semaphore)
semaphore_of ns = Some (record {
  id = slice_index ns 0;
  state = record {
    attr = slice_index ns 1;
    option = slice_index ns 2;
    initial = slice_index ns 3;
    max = slice_index ns 4;
    count = slice_index ns 5;
  };
})

unfoldable pub semaphore_head : Form (Head Semaphore)
semaphore_head = seen_as (item SEMAPHORE) semaphore_of semaphore_numbers

unfoldable pub semaphore_form : Form SavedSemaphore
semaphore_form = with_list semaphore_head plain_form

-- a semaphore for which no thread waits is put back behind all others
abbrev pub put_head : Semaphores → Head Semaphore → Option Semaphores
put_head s head =
    if may_follow s head.id head.state then Some (with_last s head.id head.state) else None

-- a thread waits for the semaphore of an id again, behind all others
abbrev pub put_queued : ℕ → Semaphores → Queued (Waiter ⊤) → Option Semaphores
put_queued id s queued = if may_wait s id then Some (waits s id queued) else None

-- with the priority that it has
abbrev pub put_thread : (priorities : ℕ → Option ℕ) → Head Semaphore → Semaphores → Waiter ⊤
    → Option Semaphores
put_thread priorities head = put_waiter (put_queued head.id) priorities

-- a semaphore is put back with those that waited for it, where threads have these priorities
abbrev pub put_semaphore : (priorities : ℕ → Option ℕ) → Semaphores → SavedSemaphore
    → Option Semaphores
put_semaphore priorities s saved = put_with_list put_head (put_thread priorities) s saved
