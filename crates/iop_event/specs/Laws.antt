-- What the law of event flags says.
use Rattle.std.specs.Prelude.{◌≡◌, ℕ, false, Some, None, List, [], ◌∷◌, All, bit_and}
use Rattle.std.specs.Int.{bit_at}
use Rattle.iop_base.specs.declared.code.TheConstants.Code.{OK}
use Rattle.iop_event.specs.EventFlags.{EventFlags, clears, meets_next, sets}
use Rattle.iop_event.specs.WakeConditions.{Settled, settles, is_met}
use Rattle.iop_event.specs.declared.event_flag.EventFlag.{EventFlag}
use Rattle.iop_event.specs.declared.met.Met.{Met}
use Rattle.iop_event.specs.declared.wanted.Wanted.{Wanted}
use Rattle.iop_objects.specs.Objects.{state_of, waiters_of}
use Rattle.iop_queues.specs.declared.queued.Queued.{Queued}
use Rattle.iop_objects.specs.declared.waiter.Waiter.{Waiter}

-- what the threads that wait for an event flag settle to
abbrev pub settled : EventFlags → ℕ → EventFlag → Settled
settled s id x = settles x.pattern (waiters_of s id)

-- one thread whose condition holds after the other is what all of them in order are: each is tested once,
-- and no condition of a thread that waits on holds in the end
pub record FlagIsMet (s : EventFlags) (id : ℕ) (x : EventFlag) : Type 0 where
  pub next : (one : Met) (y : EventFlag) → (meets_next s id).0 ≡ Some one
      → state_of (meets_next s id).1 id ≡ Some y
      → settled s id x ≡ record (settled (meets_next s id).1 id y)
      { met = one ∷ (settled (meets_next s id).1 id y).met }
  pub last : (meets_next s id).0 ≡ None
      → settled s id x ≡ record { met = []; waiters = waiters_of s id; pattern = x.pattern }

-- no condition of a thread that waits on holds
abbrev pub NoneOverdue : (pattern : ℕ) → List (Queued (Waiter Wanted)) → Type 0
NoneOverdue pattern waiters = All (λ x. is_met pattern x.item ≡ false) waiters

-- bits that are set: the pattern has them and those that it had, and no other; all threads wait on
pub record BitsAreSet (s : EventFlags) (id : ℕ) (x : EventFlag) (bits : ℕ) : Type 0 where
  pub answer : (sets s id bits).0 ≡ OK
  pub pattern : ℕ
  pub left : state_of (sets s id bits).1 id ≡ Some (record x { pattern = pattern })
  pub new : bit_and pattern bits ≡ bits
  pub old : bit_and pattern x.pattern ≡ x.pattern
  pub alone : (k : ℕ) → bit_at x.pattern k ≡ 0 → bit_at bits k ≡ 0 → bit_at pattern k ≡ 0
  pub waiters : waiters_of (sets s id bits).1 id ≡ waiters_of s id

-- bits that are cleared: the pattern keeps those that it had and that are in the mask; all threads
-- wait on
pub record BitsAreCleared (s : EventFlags) (id : ℕ) (x : EventFlag) (mask : ℕ) : Type 0 where
  pub answer : (clears s id mask).0 ≡ OK
  pub pattern : ℕ
  pub left : state_of (clears s id mask).1 id ≡ Some (record x { pattern = pattern })
  pub kept : (k : ℕ) → bit_at mask k ≡ 1 → bit_at pattern k ≡ bit_at x.pattern k
  pub cleared : (k : ℕ) → bit_at mask k ≡ 0 → bit_at pattern k ≡ 0
  pub waiters : waiters_of (clears s id mask).1 id ≡ waiters_of s id

pub record FlagsAreMet : Type 0 where
  pub one_by_one : (s : EventFlags) (id : ℕ) (x : EventFlag) → state_of s id ≡ Some x
      → FlagIsMet s id x
  pub none_overdue : (pattern : ℕ) (waiters : List (Queued (Waiter Wanted)))
      → NoneOverdue (settles pattern waiters).pattern (settles pattern waiters).waiters
  pub set : (s : EventFlags) (id : ℕ) (x : EventFlag) (bits : ℕ) → state_of s id ≡ Some x
      → BitsAreSet s id x bits
  pub cleared : (s : EventFlags) (id : ℕ) (x : EventFlag) (mask : ℕ) → state_of s id ≡ Some x
      → BitsAreCleared s id x mask
