-- What each call keeps of a table of semaphores that can be put back.
use Rattle.std.proofs.Common.{◌≡◌, ℕ, ◌+◌, ◌-◌, ◌≤◌, ◌==◌, nat_le, nat_lt, true, not, Option, Some, None, Result, List, refl, arith}
use Rattle.std.specs.Prelude.{⊤}
use Rattle.std.proofs.lemmas.Bool.{and_parts, and_from, cond_both, le-leb, leb-true}
use Rattle.std.proofs.lemmas.Bool.Decides.{nat_tests}
use Rattle.iop_base.specs.declared.code.Code.{Code}
use Rattle.iop_queues.specs.declared.queued.Queued.{Queued}
use Rattle.iop_objects.specs.Objects.{state_of, takes_next}
use Rattle.iop_objects.specs.declared.waiter.Waiter.{Waiter}
use Rattle.iop_objects.proofs.EachLeft.{all_of_each, each_of_all}
use Rattle.iop_objects.proofs.Holding as table
use Rattle.iop_objects.proofs.OtherWaiters.{AreLeft}
use Rattle.iop_sema.specs.Restoring.{is_sound, CanBeRestored, StayRestorable, SemaphoresStayRestorable}
use Rattle.iop_sema.specs.Semaphores.{Semaphores, is_attribute, by_priority, with_count, creates, deletes_it, signals_by, signals_it, takes_it}
use Rattle.iop_sema.specs.declared.semaphore.Semaphore.{Semaphore}

-- whatever waits for it
abbrev Sound : Semaphore → List (Queued (Waiter ⊤)) → Type 0
Sound x ws = is_sound x ≡ true

fewer : (x : Semaphore) (old new : List (Queued (Waiter ⊤))) → AreLeft old new → Sound x old
    → Sound x new
fewer x old new left sound = sound

abbrev AreSound : Semaphores → Type 0
AreSound = table.Holds Sound

from_table : (s : Semaphores) → CanBeRestored s → AreSound s
from_table s r = record { objects = r.objects; each = each_of_all Sound s r.semaphores }

to_table : (s : Semaphores) → AreSound s → CanBeRestored s
to_table s h =
    record { objects = h.objects; semaphores = all_of_each Sound s h.objects.sound h.each }

-- with another count
counted : (x : Semaphore) (count : ℕ) → is_sound x ≡ true → count ≤ x.max
    → is_sound (with_count x count) ≡ true
counted x count sound within =
    let both = and_parts _ (nat_le x.count x.max) sound in
    and_from _ _ both.0 (le-leb count x.max within)

module _ (s : Semaphores) (r : CanBeRestored s) where
  h : AreSound s
  h = from_table s r

  created : (attr option initial max : ℕ) → CanBeRestored (creates s attr option initial max).1
  created attr option initial max =
      cond_both (not (is_attribute attr)) _ _ (λ (t : Result ℕ Code × Semaphores). CanBeRestored t.1)
      (λ bad. r)
      (λ good. cond_both (nat_lt max initial) _ _
      (λ (t : Result ℕ Code × Semaphores). CanBeRestored t.1) (λ over. r)
      (λ within.
      let most : nat_le initial max ≡ true = grind (arith, nat_tests, within) in
      let attribute : is_attribute attr ≡ true = grind (arith, nat_tests, good) in
      to_table _ (table.of_creates Sound fewer s h _
      (and_from _ _ (and_from _ _ attribute most) most))))

  deleted : (id : ℕ) (o : Option Semaphore) → CanBeRestored (deletes_it s id o).1
  deleted id None = r
  deleted id (Some x) = to_table _ (table.of_deletes Sound fewer s h id)

  signalled : (id : ℕ) (x : Semaphore) → state_of s id ≡ Some x
      → (t : Option (Waiter ⊤) × Semaphores) → CanBeRestored t.1
      → CanBeRestored (signals_by s id x t).1
  signalled id x known (Some waiter, left) is = is
  signalled id x known (None, left) is =
      cond_both (nat_le x.max x.count) _ _
      (λ (t : Result (Option ℕ) Code × Semaphores). CanBeRestored t.1) (λ full. r)
      (λ less. to_table _ (table.of_state Sound fewer s h id _
      (counted x (x.count + 1) (h.each id x known) (grind (arith, nat_tests, less)))))

  signals : (id : ℕ) (o : Option Semaphore) → state_of s id ≡ o
      → CanBeRestored (signals_it s id o).1
  signals id None known = r
  signals id (Some x) known =
      signalled id x known (takes_next s id (by_priority x))
      (to_table _ (table.of_takes_next Sound fewer s h id (by_priority x)))

  took : (id : ℕ) (o : Option Semaphore) → state_of s id ≡ o → CanBeRestored (takes_it s id o).1
  took id None known = r
  took id (Some x) known =
      let sound = h.each id x known in
      let within = leb-true _ _ (and_parts _ (nat_le x.count x.max) sound).1 in
      cond_both (x.count == 0) _ _ (λ (t : Code × Semaphores). CanBeRestored t.1) (λ none. r)
      (λ some. to_table _ (table.of_state Sound fewer s h id _
      (counted x (x.count - 1) sound (omega (arith, within)))))

  stay : StayRestorable s
  stay = record {
    creates = created;
    deletes = λ id. deleted id (state_of s id);
    signals = λ id. signals id (state_of s id) refl;
    takes = λ id. took id (state_of s id) refl;
    waits = λ id thread priority room.
        to_table _ (table.of_waits Sound fewer s h id _ room (λ x known sound. sound));
    takes_next = λ id. to_table _ (table.of_takes_next Sound fewer s h id _);
    drops = λ id thread. to_table _ (table.of_drops Sound fewer s h id thread);
    requeues = λ id thread priority.
        to_table _ (table.of_requeues Sound fewer s h id _ thread priority);
    puts = λ id x may.
        let both = and_parts (is_sound x) _ may in
        to_table _ (table.of_puts Sound fewer s h id x both.1 both.0);
    with_next = λ id may. to_table _ (table.of_next Sound fewer s h id may);
  }

pub stay_restorable : SemaphoresStayRestorable
stay_restorable = record { opening = to_table _ (table.of_none Sound); calls = stay }
