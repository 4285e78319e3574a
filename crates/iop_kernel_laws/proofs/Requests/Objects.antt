-- With which bits event flags are left and tested, and how messages are queued.
use Rattle.std.proofs.Common.{◌≡◌, ℕ, bit_or, if◌then◌else◌, Option, Some, None, Result, Ok, Err, option_map, refl, ap, ◌∙◌}
use Rattle.iop_base.specs.declared.code.Code.{Code}
use Rattle.iop_base.specs.declared.code.TheConstants.Code.{NO_MEMORY}
use Rattle.iop_event.specs.EventFlags.{with_pattern}
use Rattle.iop_event.specs.WakeConditions.{settles}
use Rattle.iop_event.specs.declared.event_flag.EventFlag.{EventFlag}
use Rattle.iop_mbx.specs.Mailboxes.{Mailbox, Mailboxes}
use Rattle.iop_objects.specs.Objects.{state_of, object_of, changes}
use Rattle.iop_objects.specs.declared.waiter.Waiter.{Waiter}
use Rattle.iop_objects.proofs.Changes.{object_of-changed}
use Rattle.iop_objects.proofs.Others.{object_of_id}
use Rattle.iop_kernel.specs.Boards.{Board, quiet}
use Rattle.iop_kernel.specs.EventFlags.{LiveFlag, sets_flag, serves_thevent}
use Rattle.iop_kernel.specs.Mailboxes.{message_priority, queues_by, queues_message, sends_by, serves_thmsgbx}
use Rattle.iop_kernel_laws.specs.ObjectRequests.{SetsBits, Queues, IsFree, ServesObjects, ObjectRequestsAreServed}
use Rattle.iop_kernel.specs.System.{Core, argument, answers, with_event_flags}
use Rattle.iop_kernel.proofs.Keeping.Meetings.{set_flags, met_of, meets_core}

-- what an event flag is left with when bits are set
set_state : (c : Core) (id bits : ℕ) (o : LiveFlag)
    → object_of c.kernel.event_flags.live id ≡ Some o
    → state_of (set_flags c o bits) id
    ≡ Some (with_pattern o.state (settles (bit_or o.state.pattern bits) o.waiters).pattern)
set_state c id bits o found =
    let those = c.kernel.event_flags in
    let done = settles (bit_or o.state.pattern bits) o.waiters in
    let change : LiveFlag → LiveFlag =
    λ u. record u { state = with_pattern u.state done.pattern; waiters = done.waiters } in
    let known : Option LiveFlag → Option EventFlag = λ u. option_map (λ x. x.state) u in
    ap (λ n. state_of (changes those n change) id) (object_of_id those.live id o found)
    ∙ ap known (object_of-changed id change (λ u. refl) those.live)
    ∙ ap (λ u. known (option_map change u)) found

sets_bits : (b : Board) → SetsBits b
unfolding serves_thevent
sets_bits b o found =
    let id = argument b.core 0 in let bits = argument b.core 1 in
    let now : Board = record b { core = with_event_flags b.core (set_flags b.core o bits) } in
    ap (λ (u : Option LiveFlag).
    state_of (sets_flag b bits u).left.state.core.kernel.event_flags id) found
    ∙ ap (λ (c : Core). state_of c.kernel.event_flags id) (meets_core (met_of o bits) now)
    ∙ set_state b.core id bits o found

-- a message is queued where none waits for it
sends_none : (b : Board) (id message : ℕ) (r : Result (Option (Waiter ℕ)) Code × Mailboxes)
    → r.0 ≡ Ok None
    → sends_by b id message r
    ≡ quiet b.memory
    (queues_message b.core b.memory id message (state_of b.core.kernel.mailboxes id))
sends_none b id message (Ok None, left) none = refl
sends_none b id message (Ok (Some waiter), left) none = cc
sends_none b id message (Err code, left) none = cc

queued : (b : Board) (x : Mailbox) (priority : ℕ) → IsFree b x
    → message_priority b.memory x.attr (argument b.core 1) ≡ Some priority → Queues b priority
unfolding serves_thmsgbx
queued b x priority (known, none, room) is =
    let id = argument b.core 0 in let message = argument b.core 1 in
    sends_none b id message _ none
    ∙ ap (λ (o : Option Mailbox).
    quiet b.memory (queues_message b.core b.memory id message o)) known
    ∙ ap (λ free. quiet b.memory
    (if free then queues_by b.core id message (message_priority b.memory x.attr message)
    else answers b.core NO_MEMORY)) room
    ∙ ap (λ priority. quiet b.memory (queues_by b.core id message priority)) is

serves_objects : (b : Board) → ServesObjects b
unfolding serves_thevent
serves_objects b = record {
  set = sets_bits b;
  clear = refl;
  poll = λ place pattern left is done. rw (is, done) refl;
  poll_in_vain = λ place code left is done. rw (is, done) refl;
  queue_by_priority = λ x place free looks is. queued b x _ free (rw (looks, is) refl);
  queue = λ x free looks. queued b x 0 free (rw looks refl);
}

pub object_requests_are_served : ObjectRequestsAreServed
object_requests_are_served = serves_objects
