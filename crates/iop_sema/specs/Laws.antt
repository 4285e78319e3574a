-- What the law of semaphores says.
use Rattle.std.specs.Prelude.{◌≡◌, ◌≢◌, ◌↔◌, ℕ, ◌+◌, ◌<◌, ◌≤◌, ⊤, Some, None, Ok, Err, []}
use Rattle.iop_base.specs.declared.code.TheConstants.Code.{OK, SEMAPHORE_OVERFLOW}
use Rattle.iop_objects.specs.Objects.{state_of, waiters_of}
use Rattle.iop_queues.specs.Queue.{Choice, chooses}
use Rattle.iop_objects.specs.declared.waiter.Waiter.{Waiter}
use Rattle.iop_sema.specs.Semaphores.{Semaphores, by_priority, creates, signals, takes, with_count}
use Rattle.iop_sema.specs.declared.semaphore.Semaphore.{Semaphore}

-- a signal wakes the thread that is next among those that wait, and the semaphore is as it was
pub record WakesNext (s : Semaphores) (id : ℕ) (x : Semaphore) (thread : ℕ) : Type 0 where
  pub choice : Choice (Waiter ⊤)
  pub is_next : chooses (by_priority x) (waiters_of s id) ≡ Some choice
  pub woken : thread ≡ choice.one.item.thread
  pub others : waiters_of (signals s id).1 id ≡ choice.others
  pub same : state_of (signals s id).1 id ≡ Some x

-- a signal raises the count by one, where no thread waits
pub record Counts (s : Semaphores) (id : ℕ) (x : Semaphore) : Type 0 where
  pub none : waiters_of s id ≡ []
  pub below : x.count < x.max
  pub raised : state_of (signals s id).1 id ≡ Some (with_count x (x.count + 1))

-- one of the count is taken
pub record Lowers (s : Semaphores) (id : ℕ) (x : Semaphore) : Type 0 where
  pub left : Semaphore
  pub lowered : state_of (takes s id).1 id ≡ Some left
  pub by_one : x ≡ with_count left (left.count + 1)

-- a count that is at most its most is so after a signal and after a take
pub record StaysWithin (s : Semaphores) (id : ℕ) (x : Semaphore) : Type 0 where
  pub signalled : (y : Semaphore) → state_of (signals s id).1 id ≡ Some y → y.count ≤ y.max
  pub taken : (y : Semaphore) → state_of (takes s id).1 id ≡ Some y → y.count ≤ y.max

pub record SemaphoreCounts (s : Semaphores) (id : ℕ) (x : Semaphore) : Type 0 where
  pub wakes : (thread : ℕ) → (signals s id).0 ≡ Ok (Some thread) → WakesNext s id x thread
  -- where a thread waits one is woken
  pub woken : waiters_of s id ≢ [] → (thread : ℕ) × ((signals s id).0 ≡ Ok (Some thread))
  pub counts : (signals s id).0 ≡ Ok None → Counts s id x
  -- a signal is refused exactly where none waits and the count is at its most
  pub full : ((signals s id).0 ≡ Err SEMAPHORE_OVERFLOW)
      ↔ ((waiters_of s id ≡ []) × (x.max ≤ x.count))
  pub lowers : (takes s id).0 ≡ OK → Lowers s id x
  -- one is taken exactly where the count is not 0
  pub taken : ((takes s id).0 ≡ OK) ↔ (0 < x.count)
  pub within : x.count ≤ x.max → StaysWithin s id x

-- a semaphore that is made has the count that it is made with, and no thread waits for it
pub record IsMade (s : Semaphores) (attr option initial max id : ℕ) : Type 0 where
  pub made : Semaphore
  pub made_is : state_of (creates s attr option initial max).1 id ≡ Some made
  pub count : made.count ≡ initial
  pub most : made.max ≡ max
  pub within : initial ≤ max
  pub none : waiters_of (creates s attr option initial max).1 id ≡ []

pub record SemaphoresCount : Type 0 where
  pub live : (s : Semaphores) (id : ℕ) (x : Semaphore) → state_of s id ≡ Some x
      → SemaphoreCounts s id x
  -- its id is one that no other semaphore has
  pub made : (s : Semaphores) (attr option initial max id : ℕ)
      → (creates s attr option initial max).0 ≡ Ok id → state_of s id ≡ None
      → IsMade s attr option initial max id
