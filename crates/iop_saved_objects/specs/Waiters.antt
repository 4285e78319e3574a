-- How the threads that wait for an object are spelled, and put back: each without its priority,
-- which is that of the thread. This project's own profile.
use Rattle.std.specs.Prelude.{◌≡◌, ℕ, ⊤, Option, Some, option_and_then, List, [], ◌∷◌, slice_index, map, All}
use Rattle.iop_event.specs.declared.wanted.Wanted.{Wanted}
use Rattle.iop_objects.specs.declared.waiter.Waiter.{Waiter}
use Rattle.iop_queues.specs.declared.queued.Queued.{Queued}
use Rattle.iop_snapshot.specs.Forms.{Form, item, seen_as}
use Rattle.iop_snapshot.specs.declared.widths.TheConstants.{THREAD_ID, EVENT_FLAG_WAITER, MAILBOX_WAITER}

-- one of which nothing more is to tell
abbrev pub plain_numbers : Waiter ⊤ → List ℕ
plain_numbers waiter = waiter.thread ∷ []

abbrev pub plain_of : List ℕ → Option (Waiter ⊤)
plain_of ns = Some (record { thread = slice_index ns 0; wants = tt })

unfoldable pub plain_form : Form (Waiter ⊤)
plain_form = seen_as (item THREAD_ID) plain_of plain_numbers

-- one that waits for bits of an event flag
abbrev pub flag_numbers : Waiter Wanted → List ℕ
flag_numbers waiter =
    waiter.thread ∷ waiter.wants.bits ∷ waiter.wants.mode ∷ waiter.wants.place ∷ []

abbrev pub flag_of : List ℕ → Option (Waiter Wanted)
flag_of ns = Some (record {
  thread = slice_index ns 0;
  wants = record {
    bits = slice_index ns 1;
    mode = slice_index ns 2;
    place = slice_index ns 3;
  };
})

unfoldable pub flag_form : Form (Waiter Wanted)
flag_form = seen_as (item EVENT_FLAG_WAITER) flag_of flag_numbers

-- one that asks for one number: where a message goes, or how many bytes of a variable pool, of
-- which `VARIABLE_POOL_WAITER` has the same widths
abbrev pub asking_numbers : Waiter ℕ → List ℕ
asking_numbers waiter = waiter.thread ∷ waiter.wants ∷ []

abbrev pub asking_of : List ℕ → Option (Waiter ℕ)
asking_of ns = Some (record { thread = slice_index ns 0; wants = slice_index ns 1 })

unfoldable pub asking_form : Form (Waiter ℕ)
asking_form = seen_as (item MAILBOX_WAITER) asking_of asking_numbers

module _ {W : Type 0} where
  -- those that wait, as they are spelled
  abbrev pub saved_waiters : List (Queued (Waiter W)) → List (Waiter W)
  saved_waiters waiters = map (λ queued. queued.item) waiters

  -- a thread waits again, with its priority; none where it is not live
  abbrev pub put_waiter : {T : Type 0} → (T → Queued (Waiter W) → Option T)
      → (priorities : ℕ → Option ℕ) → T → Waiter W → Option T
  put_waiter put priorities table waiter =
      option_and_then (λ priority. put table (record { priority = priority; item = waiter }))
      (priorities waiter.thread)

  -- each of them waits with the priority of its thread
  abbrev pub HavePriorities : (priorities : ℕ → Option ℕ) → List (Queued (Waiter W)) → Type 0
  HavePriorities priorities waiters =
      All (λ queued. priorities queued.item.thread ≡ Some queued.priority) waiters
