-- Operations that are refused leave all as it was.
use Rattle.std.proofs.Common.{◌≡◌, ℕ, true, false, Option, Some, None, refl, arith}
use Rattle.std.specs.Prelude.{Ok, Err}
use Rattle.iop_base.specs.declared.code.Code.{Code}
use Rattle.iop_base.specs.declared.code.TheConstants.Code.{SEMAPHORE_ZERO}
use Rattle.iop_event.specs.EventFlags as flags
use Rattle.iop_event.specs.EventFlags.{EventFlags}
use Rattle.iop_event.specs.declared.event_flag.EventFlag.{EventFlag}
use Rattle.iop_mbx.specs.Mailboxes as mailboxes
use Rattle.iop_mbx.specs.Mailboxes.{Mailbox, Mailboxes, next_message, takes_waiter, takes_waiter_of, waiter_for}
use Rattle.iop_objects.specs.Objects.{state_of, waiters_of, takes}
use Rattle.iop_queues.specs.Queue.{Choice, chooses}
use Rattle.iop_objects.specs.declared.waiter.Waiter.{Waiter}
use Rattle.iop_sema.specs.Semaphores as semaphores
use Rattle.iop_sema.specs.Semaphores.{Semaphores}
use Rattle.iop_sema.specs.declared.semaphore.Semaphore.{Semaphore}
use Rattle.iop_thread.specs.Operations.{takes_wakeup, takes_wakeup_it}
use Rattle.iop_thread.specs.ThreadTable.{ThreadTable, running_thread}
use Rattle.iop_thread.specs.declared.thread.Thread.{Thread}
use Rattle.iop_kernel.specs.Waits.{is_code}

-- by the thread that runs
no_wakeup_for : (s : ThreadTable) (t : Option Thread)
    → (takes_wakeup_it s t).0 ≡ false → (takes_wakeup_it s t).1 ≡ s
no_wakeup_for s None e = refl
no_wakeup_for s (Some t) e = grind (arith, e)

-- a thread that has no wakeup takes none
pub no_wakeup : (s : ThreadTable) → (takes_wakeup s).0 ≡ false → (takes_wakeup s).1 ≡ s
no_wakeup s e = no_wakeup_for s (running_thread s) e

-- by what is known of a semaphore
zero_for : (s : Semaphores) (id : ℕ) (o : Option Semaphore)
    → is_code (semaphores.takes_it s id o).0 SEMAPHORE_ZERO ≡ true
    → (semaphores.takes_it s id o).1 ≡ s
zero_for s id None e = refl
zero_for s id (Some x) e = grind (arith, e)

-- a take which answers that the count is 0 leaves the semaphores as they were
pub take_is_zero : (s : Semaphores) (id : ℕ)
    → is_code (semaphores.takes s id).0 SEMAPHORE_ZERO ≡ true → (semaphores.takes s id).1 ≡ s
take_is_zero s id e = zero_for s id (state_of s id) e

-- by what is known of an event flag
test_refused_for : (s : EventFlags) (id bits mode : ℕ) (o : Option EventFlag) (code : Code)
    → Err code ≡ (flags.tests_it s id bits mode o).0
    → flags.tests_it s id bits mode o ≡ (Err code, s)
test_refused_for s id bits mode None code e = grind (arith, e)
test_refused_for s id bits mode (Some x) code e = grind (arith, e)

-- a refused test leaves the event flags as they were
pub test_refused : (s : EventFlags) (id bits mode : ℕ) (code : Code)
    → Err code ≡ (flags.tests s id bits mode).0 → flags.tests s id bits mode ≡ (Err code, s)
test_refused s id bits mode code e = test_refused_for s id bits mode (state_of s id) code e

-- by what is chosen: a thread that was looked for in vain leaves all as it was
no_waiter_by : (s : Mailboxes) (id : ℕ) (o : Option (Choice (Waiter ℕ)))
    → None ≡ (takes s id o).0 → (takes s id o).1 ≡ s
no_waiter_by s id None e = refl
no_waiter_by s id (Some c) e = cc

-- by the mailbox of the id, and what was taken out of it
no_waiter_for : (s : Mailboxes) (id : ℕ) (x : Option Mailbox)
    (taken : Option (Waiter ℕ) × Mailboxes)
    → (None ≡ taken.0 → taken.1 ≡ s) → Ok None ≡ (waiter_for s x taken).0
    → (waiter_for s x taken).1 ≡ s
no_waiter_for s id None (waiter, left) f e = cc
no_waiter_for s id (Some x) (waiter, left) f e = let none : None ≡ waiter = cc in f none

-- where no thread waits the mailboxes stay as they were
pub no_waiter : (s : Mailboxes) (id : ℕ) → Ok None ≡ (takes_waiter_of s id).0
    → (takes_waiter_of s id).1 ≡ s
no_waiter s id e =
    no_waiter_for s id (state_of s id) (takes_waiter s id)
    (no_waiter_by s id (chooses (mailboxes.is_by_priority s id) (waiters_of s id))) e

-- by the message that is next
get_refused_by : (s : Mailboxes) (id : ℕ) (x : Mailbox) (o : Option (Choice ℕ)) (code : Code)
    → Err code ≡ (mailboxes.gets_by s id x o).0 → (mailboxes.gets_by s id x o).1 ≡ s
get_refused_by s id x None code e = refl
get_refused_by s id x (Some choice) code e = cc

-- by the mailbox of the id
get_refused_for : (s : Mailboxes) (id : ℕ) (o : Option Mailbox) (code : Code)
    → Err code ≡ (mailboxes.gets_it s id o).0 → (mailboxes.gets_it s id o).1 ≡ s
get_refused_for s id None code e = refl
get_refused_for s id (Some x) code e = get_refused_by s id x (next_message x) code e

-- where no message is received the mailboxes stay as they were
pub get_refused : (s : Mailboxes) (id : ℕ) (code : Code) → Err code ≡ (mailboxes.gets s id).0
    → (mailboxes.gets s id).1 ≡ s
get_refused s id code e = get_refused_for s id (state_of s id) code e
