-- The statuses of threads and of what they wait for, read where they were written.
use Rattle.std.proofs.Common.{◌≡◌, ℕ, ◌+◌, ◌*◌, ◌<◌, ◌≤◌, Option, Some, None, option_map, unwrap_or, List, [], ◌∷◌, ◌++◌, length, get_or, refl, ap, sym, ◌∙◌, subst, arith}
use Rattle.iop_base.specs.Numbers.{number_at, wrapped}
use Rattle.iop_objects.specs.Objects as objects
use Rattle.iop_thread.specs.States.{wait_in, state_number, kind_number, object_of}
use Rattle.iop_thread.specs.ThreadTable.{thread_of}
use Rattle.iop_thread.specs.declared.kind.Kind.{Kind}
use Rattle.iop_thread.specs.declared.kind.Kind.TheVariants.{Semaphore, EventFlag, Mailbox, VariablePool, FixedPool}
use Rattle.iop_thread.specs.declared.state.State.{State}
use Rattle.iop_thread.specs.declared.state.State.TheVariants.{Dormant, Running, Ready, Waiting, Suspended, WaitingSuspended}
use Rattle.iop_thread.specs.declared.thread.Thread.{Thread}
use Rattle.iop_thread.specs.declared.wait.Wait.{Wait}
use Rattle.iop_thread.specs.declared.wait.Wait.TheVariants.{Sleep, Delay, Object}
use Rattle.iop_kernel.specs.Boards.{Board, board_of}
use Rattle.iop_kernel.specs.EventFlags.{flag_words, serves_thevent}
use Rattle.iop_kernel.specs.FixedPools.{fpl_words, serves_thfpool}
use Rattle.iop_kernel.specs.Kinds.{Live, table}
use Rattle.iop_kernel.specs.Mailboxes.{mailbox_words, serves_thmsgbx}
use Rattle.iop_kernel.specs.NamedThreads.{named}
use Rattle.iop_kernel.specs.ObjectServices.{refer_status}
use Rattle.iop_kernel.specs.Semaphores.{semaphore_words, serves_thsemap}
use Rattle.iop_kernel_laws.specs.PoolLaws.{HasVariablePoolStatus, VariablePoolStatusIsRead, HasFixedPoolStatus, FixedPoolStatusIsRead}
use Rattle.iop_kernel_laws.specs.StatusLaws.{HasStatus, StatusIsRead, HasSemaphoreStatus, SemaphoreStatusIsRead, HasFlagStatus, FlagStatusIsRead, HasMailboxStatus, MailboxStatusIsRead}
use Rattle.iop_kernel.specs.System.{System, Served, argument, caller, words_place}
use Rattle.iop_kernel.specs.Thbase.{serves_thbase}
use Rattle.iop_kernel.specs.VariablePools.{vpl_words, serves_thvpool}
use Rattle.iop_kernel.specs.ThreadStatus.{wait_words, status_words, refer_thread_status}
use Rattle.iop_kernel.specs.declared.event_flags.TheConstants.{FLAG_STATUS_WORDS}
use Rattle.iop_kernel.specs.declared.fixed_pools.TheConstants.{FPL_STATUS_WORDS}
use Rattle.iop_kernel.specs.declared.mailboxes.TheConstants.{MAILBOX_STATUS_WORDS}
use Rattle.iop_kernel.specs.declared.semaphores.TheConstants.{SEMAPHORE_STATUS_WORDS}
use Rattle.iop_kernel.specs.declared.thread_status.TheConstants.{STATUS_WORDS}
use Rattle.iop_kernel.specs.declared.variable_pools.TheConstants.{VPL_STATUS_WORDS}
use Rattle.iop_kernel.proofs.Bodies.ThreadStatus.{refers_named}
use Rattle.iop_kernel.proofs.Keeping.Memory.{words_inside, length-status_bytes}
use Rattle.iop_kernel.proofs.Readings.WordBytes.{length-bytes_of_words, written, word_at, first_at}

-- the words of a wait are its kind and the id of the object that it is for; another one is behind
wait_is : (o : Option Wait) (word : ℕ) → let words = wait_words o ++ word ∷ [] in
    (get_or words 0 0 ≡ unwrap_or (option_map kind_number o) 0)
    × (get_or words 1 0 ≡ unwrap_or (option_map object_of o) 0) × (get_or words 2 0 ≡ word)
wait_is None word = (refl, refl, refl)
wait_is (Some wait) word = (refl, refl, refl)

-- the number of a state is a word
state_is_word : (state : State) → wrapped (state_number state) ≡ state_number state
state_is_word Dormant = refl
state_is_word Running = refl
state_is_word (Ready registers) = refl
state_is_word (Waiting wait registers) = refl
state_is_word (Suspended registers) = refl
state_is_word (WaitingSuspended wait registers) = refl

-- so is that of a wait
kind_is_word : (o : Option Wait) → let number = unwrap_or (option_map kind_number o) 0 in
    wrapped number ≡ number
kind_is_word None = refl
kind_is_word (Some Sleep) = refl
kind_is_word (Some Delay) = refl
kind_is_word (Some (Object Semaphore id)) = refl
kind_is_word (Some (Object EventFlag id)) = refl
kind_is_word (Some (Object Mailbox id)) = refl
kind_is_word (Some (Object VariablePool id)) = refl
kind_is_word (Some (Object FixedPool id)) = refl

-- the words of a thread's status
status_stands : (memory : List ℕ) (place : ℕ) (t : Thread) → place + 48 ≤ length memory
    → HasStatus (written memory place (status_words t)) place t
status_stands memory place t fits =
    let words = status_words t in
    let twelve : length words ≡ 12 =
    omega (arith, length-status_bytes t, length-bytes_of_words words) in
    let room : place + 4 * length words ≤ length memory = omega (arith, fits, twelve) in
    let wait = wait_is (wait_in t.state) t.wakeups in
    let at : (k : ℕ) → k < 12 → number_at (written memory place words) (place + 4 * k) 4
    ≡ wrapped (get_or words k 0) =
    λ k below. word_at memory place words room k (omega (arith, below, twelve)) in
    record {
      attr = first_at memory place words room (omega (arith, twelve));
      option = at 1 (omega arith);
      status = at 2 (omega arith) ∙ state_is_word t.state;
      entry = at 3 (omega arith);
      stack = at 4 (omega arith);
      stack_size = at 5 (omega arith);
      gp = at 6 (omega arith);
      first_priority = at 7 (omega arith);
      priority = at 8 (omega arith);
      wait_kind = at 9 (omega arith) ∙ ap wrapped wait.0 ∙ kind_is_word (wait_in t.state);
      wait_id = at 10 (omega arith) ∙ ap wrapped wait.1;
      wakeups = at 11 (omega arith) ∙ ap wrapped wait.2;
    }

-- the status that is written of the thread that is named
named_status : (s : System) (id at place one : ℕ) (t : Thread)
    → words_place s.memory at STATUS_WORDS ≡ Some place → named (caller s.core) id ≡ Some one
    → thread_of s.core.kernel.threads.live one ≡ Some t
    → HasStatus (refer_thread_status s id at).left.state.memory.ram place t
named_status s id at place one t stands names lives =
    subst (λ (d : Served). HasStatus d.left.state.memory.ram place t)
    (refers_named s place t id at one (sym stands) (sym names) (sym lives))
    (status_stands s.memory.ram place t (words_inside s.memory at STATUS_WORDS place stands))

pub status_is_read : StatusIsRead
unfolding serves_thbase
status_is_read s = named_status s (argument s.core 0) (argument s.core 1)

-- the status that is written of the object of an id has each word at its place
module _ (kind : Kind) (words : Live kind → List ℕ) (count : ℕ)
    (many : (o : Live kind) → length (words o) ≡ count) (some : 0 < count)
    (Has : List ℕ → ℕ → Live kind → Type 0)
    (stands : (ram : List ℕ) (place : ℕ) (o : Live kind)
    → number_at ram place 4 ≡ wrapped (get_or (words o) 0 0)
    → ((k : ℕ) → k < count → number_at ram (place + 4 * k) 4 ≡ wrapped (get_or (words o) k 0))
    → Has ram place o) where
  object_status : (b : Board) (id at place : ℕ) (o : Live kind)
      → words_place b.memory at count ≡ Some place
      → objects.object_of (table kind b.core.kernel).live id ≡ Some o
      → Has (refer_status kind words b count id at).left.state.memory.ram place o
  object_status b id at place o there lives =
      let all = many o in
      let inside = words_inside b.memory at count place there in
      let fits : place + 4 * length (words o) ≤ length b.memory.ram = omega (arith, all, inside) in
      rw (there, lives) (stands (written b.memory.ram place (words o)) place o
      (first_at b.memory.ram place (words o) fits (omega (arith, all, some)))
      (λ k below. word_at b.memory.ram place (words o) fits k (omega (arith, all, below))))

-- so it is of a semaphore
pub semaphore_status_is_read : SemaphoreStatusIsRead
unfolding serves_thsemap
semaphore_status_is_read b =
    object_status Semaphore semaphore_words SEMAPHORE_STATUS_WORDS (λ o. refl) (omega arith)
    HasSemaphoreStatus (λ ram place o first at. record {
      attr = first;
      option = at 1 (omega arith);
      initial = at 2 (omega arith);
      max = at 3 (omega arith);
      current = at 4 (omega arith);
      waiting = at 5 (omega arith);
    }) b (argument b.core 0) (argument b.core 1)

-- of an event flag
pub flag_status_is_read : FlagStatusIsRead
unfolding serves_thevent
flag_status_is_read b =
    object_status EventFlag flag_words FLAG_STATUS_WORDS (λ o. refl) (omega arith)
    HasFlagStatus (λ ram place o first at. record {
      attr = first;
      option = at 1 (omega arith);
      first_bits = at 2 (omega arith);
      current_bits = at 3 (omega arith);
      waiting = at 4 (omega arith);
    }) b (argument b.core 0) (argument b.core 1)

-- of a mailbox
pub mailbox_status_is_read : MailboxStatusIsRead
unfolding serves_thmsgbx
mailbox_status_is_read b =
    object_status Mailbox mailbox_words MAILBOX_STATUS_WORDS (λ o. refl) (omega arith)
    HasMailboxStatus (λ ram place o first at. record {
      attr = first;
      option = at 1 (omega arith);
      waiting = at 2 (omega arith);
      messages = at 3 (omega arith);
      next = at 4 (omega arith);
    }) b (argument b.core 0) (argument b.core 1)

-- of a variable pool
pub vpl_status_is_read : VariablePoolStatusIsRead
unfolding serves_thvpool
vpl_status_is_read s =
    object_status VariablePool vpl_words VPL_STATUS_WORDS (λ o. refl) (omega arith)
    HasVariablePoolStatus (λ ram place o first at. record {
      attr = first;
      option = at 1 (omega arith);
      size = at 2 (omega arith);
      free = at 3 (omega arith);
      greatest = at 4 (omega arith);
      waiting = at 5 (omega arith);
    }) (board_of s) (argument s.core 0) (argument s.core 1)

-- and of a fixed one
pub fpl_status_is_read : FixedPoolStatusIsRead
unfolding serves_thfpool
fpl_status_is_read s =
    object_status FixedPool fpl_words FPL_STATUS_WORDS (λ o. refl) (omega arith)
    HasFixedPoolStatus (λ ram place o first at. record {
      attr = first;
      option = at 1 (omega arith);
      size = at 2 (omega arith);
      blocks = at 3 (omega arith);
      free = at 4 (omega arith);
      waiting = at 5 (omega arith);
    }) (board_of s) (argument s.core 0) (argument s.core 1)
