-- The queues of ready threads, one for each priority. They are this project's own design.
use Rattle.std.specs.Prelude.{◌≡◌, ℕ, ◌+◌, ◌-◌, ◌<◌, is_some, Option, List, length, map}
use Rattle.iop_base.specs.Bits.{has}
use Rattle.iop_cblock.specs.Lists.{Lists, AreDisjoint, list_at, first_node}
use Rattle.iop_ready.specs.declared.entry.Entry.{Entry}
use Rattle.iop_ready.specs.declared.priority.TheConstants.{LOWEST_PRIORITY}
use Rattle.iop_ready.specs.declared.slot.TheConstants.{MOST_THREADS}
use Rattle.iop_ready.specs.ReadyList.{of_priority, first_of, IsReadyList}

-- lists of slots, and a word of bits
pub record Queues : Type 0 where
  pub arena : Lists
  pub bits : ℕ

abbrev pub queues_of : Lists → ℕ → Queues
queues_of arena bits = record { arena = arena; bits = bits }

-- the slots of the threads of a priority, in order
abbrev pub slots_of : ℕ → List Entry → List ℕ
slots_of priority xs = map (λ e. e.slot) (of_priority priority xs)

-- each list has the slots of one priority in order: the first one those of priority 1
abbrev pub AreQueues : Lists → List Entry → Type 0
AreQueues arena xs = (list : ℕ) → list_at list arena ≡ slots_of (list + 1) xs

-- bit p is 1 exactly where a thread has priority p
abbrev pub AreBits : ℕ → List Entry → Type 0
AreBits bits xs = (p : ℕ) → has bits p ≡ is_some (first_of p xs)

-- bit p is 1 exactly where the list of priority p is not empty
abbrev pub AreFilled : ℕ → Lists → Type 0
AreFilled bits arena =
    (list : ℕ) → list < LOWEST_PRIORITY → has bits (list + 1) ≡ is_some (first_node list arena)

-- the first slot of a priority's list
abbrev pub first_in : Lists → ℕ → Option ℕ
first_in arena priority = first_node (priority - 1) arena

-- what always holds of the queues
pub record AreSound (q : Queues) : Type 0 where
  pub nodes : q.arena.nodes ≡ MOST_THREADS
  pub lists : length q.arena.lists ≡ LOWEST_PRIORITY
  pub disjoint : AreDisjoint q.arena
  pub filled : AreFilled q.bits q.arena

-- the queues hold the threads of a list
pub record Hold (q : Queues) (xs : List Entry) : Type 0 where
  pub queues : AreQueues q.arena xs
  pub sound : IsReadyList xs
