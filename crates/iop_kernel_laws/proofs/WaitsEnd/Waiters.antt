-- Threads that wait for an object: which is the first in order, and how several are woken.
use Rattle.std.proofs.Common.{◌≡◌, ℕ, zero, suc, ◌+◌, ◌<◌, ◌≤◌, Bool, true, false, Option, Some, List, [], ◌∷◌, Contains, refl, ap, sym, ◌∙◌, arith}
use Rattle.std.proofs.lemmas.Bool.{eq-eqb}
use Rattle.iop_base.specs.Numbers.{one_if}
use Rattle.iop_objects.specs.Objects.{object_of, waiters_in}
use Rattle.iop_queues.specs.Queue.{Choice, chooses, chooses_best, chooses_between, in_order, sorted}
use Rattle.iop_queues.specs.declared.queued.Queued.{Queued}
use Rattle.iop_objects.specs.declared.waiter.Waiter.{Waiter}
use Rattle.iop_queues.proofs.Choosing.{queues_chosen}
use Rattle.iop_thread.specs.Operations.{wakes}
use Rattle.iop_thread.specs.Placing.{times}
use Rattle.iop_thread.specs.ThreadTable.{ThreadTable}
use Rattle.iop_thread.specs.Waits.{wait_of}
use Rattle.iop_thread.specs.Waking.{AreWoken}
use Rattle.iop_thread.specs.declared.kind.Kind.{Kind}
use Rattle.iop_thread.specs.declared.wait.Wait.TheVariants.{Object}
use Rattle.iop_thread.proofs.ReadyIds.{times_first, not_contained}
use Rattle.iop_thread.proofs.Woken.{wakes_so}
use Rattle.iop_thread.proofs.WokenInTurn.{none_woken, woken_then}
use Rattle.iop_kernel.specs.Kinds.{Live, table, waits_by_priority}
use Rattle.iop_kernel.specs.ObjectServices.{threads_in_order}
use Rattle.iop_kernel.specs.Placing.{IsPlaced, is_for}
use Rattle.iop_kernel.specs.System.{Kernel}
use Rattle.iop_kernel.specs.Waits.{threads_of, wakes_all}
use Rattle.iop_kernel_laws.specs.WakingLaws.{WakesEach}
use Rattle.iop_kernel.proofs.Bodies.KindTables.{for_object}
use Rattle.iop_kernel.proofs.Placing.Queues.{times_in_order}

-- one that is in a list is there some times
contained_times : (id : ℕ) (ids : List ℕ) → Contains ids id → 0 < times id ids
contained_times id ids inside = some (times id ids) (λ none. not_contained id ids none inside)
  where
    some : (n : ℕ) → (n ≡ 0 → ⊥) → 0 < n
    some zero not_none = absurd (not_none refl)
    some (suc n) not_none = omega arith

-- threads that are woken one after the other, each once
woken_each : (s : ThreadTable) (ids : List ℕ) (answer : ℕ) → ((id : ℕ) → times id ids ≤ 1)
    → AreWoken s (wakes_all s ids answer) ids answer
woken_each s [] answer once = none_woken s answer
woken_each s (id ∷ ids) answer once =
    woken_then s (wakes s id answer) (wakes_all (wakes s id answer) ids answer) id ids answer
    (λ inside. absurd (omega (arith, own id, once id, contained_times id ids inside)))
    (wakes_so s id answer)
    (woken_each (wakes s id answer) ids answer
    (λ other. omega (arith, once other, times_first other id ids)))
  where
    own : (id : ℕ) → times id (id ∷ ids) ≡ 1 + times id ids
    own id = times_first id id ids ∙ ap (λ b. one_if b + times id ids) (eq-eqb id id refl)

-- how often something is that is there or not
most_once : (b : Bool) → one_if b ≤ 1
most_once true = omega arith
most_once false = omega arith

pub there_if : (b : Bool) → 0 < one_if b → b ≡ true
there_if true some = refl
there_if false some = absurd (omega (arith, some))

heads : (one thread : ℕ) (others rest : List ℕ) → one ∷ others ≡ thread ∷ rest → one ≡ thread
heads one thread others rest is = cc

-- the first in order is the one that is chosen next
module _ {W : Type 0} (thread : ℕ) (rest : List ℕ) where
  abbrev pub IsNextOf : Bool → List (Queued (Waiter W)) → Type 0
  IsNextOf by xs =
      (chosen : Choice (Waiter W)) × (chooses by xs ≡ Some chosen)
      × (chosen.one.item.thread ≡ thread)

  pub next_of : (by : Bool) (xs : List (Queued (Waiter W)))
      → threads_of (in_order by xs) ≡ thread ∷ rest → IsNextOf by xs
  next_of true [] is = absurd (cc is)
  next_of false [] is = absurd (cc is)
  next_of true (x ∷ xs) is =
      let chosen = chooses_between x xs (chooses_best xs) in
      let all = ap threads_of (queues_chosen.order true (x ∷ xs) chosen refl) in (
        chosen,
        refl,
        heads chosen.one.item.thread thread (threads_of (sorted chosen.others)) rest
            (sym all ∙ is),
      )
  next_of false (x ∷ xs) is =
      let chosen : Choice (Waiter W) = record { one = x; others = xs } in
      (chosen, refl, heads x.item.thread thread (threads_of xs) rest is)

-- the threads that wait for an object that is live
module _ (kind : Kind) (k : Kernel) (h : IsPlaced k) (id : ℕ) (o : Live kind)
    (live : object_of (table kind k).live id ≡ Some o) where
  -- each is among its waiters once
  pub times_there : (t : ℕ) → times t (threads_of o.waiters)
      ≡ one_if (is_for kind id (wait_of k.threads t))
  times_there t =
      ap (λ (found : Option (Live kind)). times t (threads_of (waiters_in found))) (sym live)
      ∙ (h.objects kind).waiters id t

  pub times_ordered : (ordered : Bool) (t : ℕ) → times t (threads_of (in_order ordered o.waiters))
      ≡ one_if (is_for kind id (wait_of k.threads t))
  times_ordered ordered t = times_in_order t ordered o.waiters ∙ times_there t

  -- one that is there some times waits for it
  waits_for_it : (t : ℕ) → 0 < one_if (is_for kind id (wait_of k.threads t))
      → wait_of k.threads t ≡ Some (Object kind id)
  waits_for_it t some =
      for_object kind id (wait_of k.threads t)
      (there_if (is_for kind id (wait_of k.threads t)) some)

  -- so does the first in order
  pub first_waits : (thread : ℕ) (rest : List ℕ) → threads_in_order kind o ≡ thread ∷ rest
      → wait_of k.threads thread ≡ Some (Object kind id)
  first_waits thread rest is =
      waits_for_it thread (omega (
        arith,
        times_ordered (waits_by_priority kind o.state) thread,
        ap (times thread) is,
        times_first thread thread rest,
        ap one_if (eq-eqb thread thread refl),
      ))

  -- those that are woken one after the other, each of which is there once at most
  pub each_wakes : (ids : List ℕ) (answer : ℕ)
      → ((t : ℕ) → times t ids ≤ one_if (is_for kind id (wait_of k.threads t)))
      → WakesEach ids (Object kind id) answer k.threads (wakes_all k.threads ids answer)
  each_wakes ids answer among = record {
    waited = λ t inside.
        waits_for_it t (omega (arith, among t, contained_times t ids inside));
    woken = woken_each k.threads ids answer
        (λ t. omega (arith, among t, most_once (is_for kind id (wait_of k.threads t))));
  }
