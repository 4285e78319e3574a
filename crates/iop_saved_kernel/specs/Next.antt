-- How what is given out next is spelled: the ids of threads and objects, and the number of an alarm
-- or a delay. This project's own profile.
use Rattle.std.specs.Prelude.{ℕ, Option, Some, List, [], ◌∷◌, slice_index}
use Rattle.iop_kernel.specs.System.{Kernel}
use Rattle.iop_snapshot.specs.Forms.{Form, item, seen_as}
use Rattle.iop_snapshot.specs.declared.widths.TheConstants.{NEXT}
use Rattle.iop_saved_kernel.specs.declared.next.Next.{Next}

abbrev pub next_numbers : Next → List ℕ
next_numbers n =
    n.thread ∷ n.semaphore ∷ n.event_flag ∷ n.mailbox ∷ n.variable_pool ∷ n.fixed_pool
    ∷ n.timer ∷ []

abbrev pub next_of : List ℕ → Option Next
next_of numbers = Some (record {
  thread = slice_index numbers 0;
  semaphore = slice_index numbers 1;
  event_flag = slice_index numbers 2;
  mailbox = slice_index numbers 3;
  variable_pool = slice_index numbers 4;
  fixed_pool = slice_index numbers 5;
  timer = slice_index numbers 6;
})

unfoldable pub next_form : Form Next
next_form = seen_as (item NEXT) next_of next_numbers

-- what a kernel gives out next
abbrev pub next_in : Kernel → Next
next_in k = record {
  thread = k.threads.next;
  semaphore = k.semaphores.next;
  event_flag = k.event_flags.next;
  mailbox = k.mailboxes.next;
  variable_pool = k.variable_pools.next;
  fixed_pool = k.fixed_pools.next;
  timer = k.timers.next;
}
