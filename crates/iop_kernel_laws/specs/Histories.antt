-- Calls of services, as the history of a run has them (ps2sdk: thsemap.h, thmsgbx.h). Messages are
-- told as words: a number as the word that it leaves, so that nothing has to be known of registers.
use Rattle.std.specs.Prelude.{◌≡◌, ℕ, ◌+◌, ◌≤◌, ◌==◌, Bool, true, false, ◌&&◌, not, if◌then◌else◌, Option, Some, None, List, [], ◌∷◌, ◌++◌, length, map, sum_by, flat_map}
use Rattle.iop_base.specs.Numbers.{one_if, number_at, wrapped}
use Rattle.iop_exec.specs.Row.{reg}
use Rattle.iop_mbx.specs.Mailboxes.{Mailboxes, Mailbox, takes_waiter, messages_by_priority}
use Rattle.iop_objects.specs.Objects.{state_of, waiters_of}
use Rattle.iop_objects.specs.declared.waiter.Waiter.{Waiter}
use Rattle.iop_sema.specs.Semaphores.{Semaphores}
use Rattle.iop_sema.specs.declared.semaphore.Semaphore.{Semaphore}
use Rattle.iop_services.specs.Table.{row_of}
use Rattle.iop_services.specs.declared.row.Row.{Row}
use Rattle.iop_services.specs.declared.service.Service.{Service}
use Rattle.iop_services.specs.declared.service.Service.TheVariants.{Thsemap, Thmsgbx}
use Rattle.iop_services.specs.declared.thmsgbx_service.ThmsgbxService.TheVariants.{SendMbx, ReceiveMbx, PollMbx}
use Rattle.iop_services.specs.declared.thsemap_service.ThsemapService.TheVariants.{SignalSema, WaitSema, PollSema}
use Rattle.iop_stubs.specs.Stubs.{Memory}
use Rattle.iop_thread.specs.Placing.{times}
use Rattle.iop_kernel.specs.Serving.{call_of, services}
use Rattle.iop_kernel.specs.System.{Core, Left, System, Served, argument, words_place}
use Rattle.iop_kernel.specs.declared.after.After.{After}
use Rattle.iop_kernel.specs.declared.after.After.TheVariants.{Resume}
use Rattle.iop_kernel.specs.declared.call.Call.{Call}
use Rattle.iop_kernel.specs.declared.call.Call.TheVariants.{Library}

pub record Called : Type 0 where
  pub service : Service
  -- its first two arguments
  pub first : ℕ
  pub second : ℕ
  -- whether a thread waited for the object that it names, before it
  pub had_waiter : Bool
  -- what it answered, where its caller goes on
  pub answer : Option ℕ
  -- the message that memory got by it: at its caller's place, or at that of the thread that a send
  -- woke; 0 where nothing was written
  pub message : ℕ

-- whether a thread waits for the object that a signal or a send names
abbrev pub has_waiter : Core → Service → Bool
has_waiter c (Thsemap SignalSema) =
    not (length (waiters_of c.kernel.semaphores (argument c 0)) == 0)
has_waiter c (Thmsgbx SendMbx) =
    not (length (waiters_of c.kernel.mailboxes (argument c 0)) == 0)
has_waiter c other = false

-- the word that stands at a place; 0 where there is none
abbrev pub word_at : Memory → Option ℕ → ℕ
word_at memory None = 0
word_at memory (Some place) = number_at memory.ram place 4

-- the word that stands then at the place of the thread that is woken
abbrev pub word_handed : (before after : Memory) → Option (Waiter ℕ) → ℕ
word_handed before after None = 0
word_handed before after (Some waiter) = word_at after (words_place before waiter.wants 1)

-- the message that memory has after a call that succeeded
abbrev pub received_by : Core → (before after : Memory) → Service → ℕ
received_by c before after (Thmsgbx SendMbx) =
    word_handed before after (takes_waiter c.kernel.mailboxes (argument c 0)).0
received_by c before after (Thmsgbx ReceiveMbx) =
    word_at after (words_place before (argument c 0) 1)
received_by c before after (Thmsgbx PollMbx) =
    word_at after (words_place before (argument c 0) 1)
received_by c before after other = 0

abbrev pub answer_of : After → Core → Option ℕ
answer_of Resume c = Some (reg c.cpu 2)
answer_of other c = None

-- whether a call answered 0
abbrev pub succeeds_by : Option ℕ → Bool
succeeds_by None = false
succeeds_by (Some answer) = answer == 0

-- a call of a service that left this of the kernel and its processor, and by which memory got this
abbrev pub call_with : Core → Service → Left Core → (message : ℕ) → Called
call_with c service left message = record {
  service = service;
  first = argument c 0;
  second = argument c 1;
  had_waiter = has_waiter c service;
  answer = answer_of left.after left.state;
  message = message;
}

-- what memory got by it, by what it answered
abbrev pub message_by : Core → (before after : Memory) → Service → Left Core → ℕ
message_by c before after service left =
    if succeeds_by (answer_of left.after left.state) then received_by c before after service else 0

abbrev pub called_by : System → Served → Option Row → Option Called
called_by s d None = None
called_by s d (Some row) =
    let left : Left Core = record { state = d.left.state.core; after = d.left.after } in
    Some (call_with s.core row.service left
    (message_by s.core s.memory d.left.state.memory row.service left))

abbrev pub called_of : System → Served → Option Call → Option Called
called_of s d (Some (Library library number)) = called_by s d (row_of library number)
called_of s d other = None

-- the service that a `syscall` of a code is a call of, if it is one
unfoldable pub called : System → (code : ℕ) → Option Called
called s code = called_of s (services s code) (call_of code)

abbrev pub succeeds : Called → Bool
succeeds c = succeeds_by c.answer

abbrev pub is_signal : Service → Bool
is_signal (Thsemap SignalSema) = true
is_signal other = false

abbrev pub is_take : Service → Bool
is_take (Thsemap WaitSema) = true
is_take (Thsemap PollSema) = true
is_take other = false

-- a signal of a semaphore for which none waited, and a take of one
abbrev pub signals_in : (id : ℕ) → Called → ℕ
signals_in id c = one_if (is_signal c.service && c.first == id && succeeds c && not c.had_waiter)

abbrev pub takes_in : (id : ℕ) → Called → ℕ
takes_in id c = one_if (is_take c.service && c.first == id && succeeds c)

abbrev pub is_send : Service → Bool
is_send (Thmsgbx SendMbx) = true
is_send other = false

abbrev pub is_receive : Service → Bool
is_receive (Thmsgbx ReceiveMbx) = true
is_receive (Thmsgbx PollMbx) = true
is_receive other = false

abbrev pub list_if : Bool → ℕ → List ℕ
list_if holds message = if holds then message ∷ [] else []

-- the message that a call sent to a mailbox, and those that were received from it: one that was
-- sent where a thread waited is received at once
abbrev pub sent_in : (id : ℕ) → Called → List ℕ
sent_in id c = list_if (is_send c.service && c.first == id && succeeds c) (wrapped c.second)

abbrev pub received_in : (id : ℕ) → Called → List ℕ
received_in id c =
    list_if (is_send c.service && c.first == id && succeeds c && c.had_waiter) c.message
    ++ list_if (is_receive c.service && c.second == id && succeeds c) c.message

-- over a whole history
abbrev pub signals : (id : ℕ) → List Called → ℕ
signals id history = sum_by (signals_in id) history

abbrev pub takes : (id : ℕ) → List Called → ℕ
takes id history = sum_by (takes_in id) history

abbrev pub sent : (id : ℕ) → List Called → List ℕ
sent id history = flat_map (sent_in id) history

abbrev pub received : (id : ℕ) → List Called → List ℕ
received id history = flat_map (received_in id) history

-- for each live semaphore, the signals that found no waiter less the takes are what its count has
-- grown by, and it is at most the most
abbrev pub AreCounted : Semaphores → List Called → Type 0
AreCounted s history =
    (id : ℕ) (x : Semaphore) → state_of s id ≡ Some x
    → (x.count + takes id history ≡ x.initial + signals id history) × (x.count ≤ x.max)

-- the messages that a mailbox has, in order of their arrival
abbrev pub queued : Mailbox → List ℕ
queued x = map (λ m. wrapped m.item) x.messages

-- what was sent to a mailbox was received or is queued, each as often; in order, where messages are
-- not taken by their priority
pub record IsDelivered (x : Mailbox) (sent received : List ℕ) : Type 0 where
  pub all : (message : ℕ) → times message sent ≡ times message received + times message (queued x)
  pub order : messages_by_priority x.attr ≡ false → sent ≡ received ++ queued x

abbrev pub AreDelivered : Mailboxes → List Called → Type 0
AreDelivered s history =
    (id : ℕ) (x : Mailbox) → state_of s id ≡ Some x
    → IsDelivered x (sent id history) (received id history)
