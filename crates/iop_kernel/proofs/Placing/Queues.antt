-- How often a thread is among those that wait, when one comes, goes or is chosen, and among those
-- of delays; and that one is chosen where there are some, and only there.
use Rattle.std.proofs.Common.{◌≡◌, ℕ, ◌+◌, ◌==◌, Bool, true, false, if◌then◌else◌, None, Some, List, [], ◌∷◌, ◌++◌, map, filter, refl, ◌∙◌, subst, arith, not, ap}
use Rattle.std.specs.List.{list_any}
use Rattle.std.proofs.lemmas.Bool.Decides.{nat_tests}
use Rattle.std.proofs.lemmas.List.{length-append, map-append}
use Rattle.std.proofs.lemmas.List.Elements.{filter-append}
use Rattle.std.proofs.lemmas.Option.{same_Some}
use Rattle.iop_base.specs.Numbers.{one_if}
use Rattle.iop_queues.specs.Queue.{Choice, chooses, chooses_best, in_order, put_by_priority, sorted}
use Rattle.iop_objects.specs.WaiterQueues.{is_thread, without, with_priority, in_place, moved_last, requeued}
use Rattle.iop_queues.specs.declared.queued.Queued.{Queued}
use Rattle.iop_objects.specs.declared.waiter.Waiter.{Waiter}
use Rattle.iop_queues.specs.Laws.{IsTaken}
use Rattle.iop_queues.proofs.Choosing.{queues_chosen}
use Rattle.iop_thread.specs.Placing.{times}
use Rattle.iop_thread.proofs.ReadyIds.{times_first, times_last}
use Rattle.iop_time.specs.Timers.{is_delay_of}
use Rattle.iop_time.specs.declared.delay.Delay.{Delay as DelayOf}
use Rattle.iop_kernel.specs.Waits.{threads_of}

-- how often an id is in two lists, one behind the other
pub times_append : (id : ℕ) (xs ys : List ℕ) → times id (xs ++ ys) ≡ times id xs + times id ys
times_append id xs ys = simp (filter-append, length-append) refl

-- from an empty queue nothing is chosen
pub none_chosen : {T : Type 0} (ordered : Bool) (c : Choice T) → chooses ordered [] ≡ Some c → ⊥
none_chosen true c is = cc
none_chosen false c is = cc

-- and from another one something
pub all_chosen : {T : Type 0} (ordered : Bool) (queue : List (Queued T))
    → chooses ordered queue ≡ None → queue ≡ []
all_chosen ordered queue = queues_chosen.empty ordered queue

module _ {W : Type 0} (t : ℕ) where
  -- how often it is among them
  abbrev pub times_in : List (Queued (Waiter W)) → ℕ
  times_in waiters = times t (threads_of waiters)

  -- one more in front
  times_in_first : (x : Queued (Waiter W)) (xs : List (Queued (Waiter W)))
      → times_in (x ∷ xs) ≡ one_if (x.item.thread == t) + times_in xs
  times_in_first x xs = times_first t x.item.thread (threads_of xs)

  -- some behind others
  times_in_append : (xs ys : List (Queued (Waiter W)))
      → times_in (xs ++ ys) ≡ times_in xs + times_in ys
  times_in_append xs ys =
      ap (times t) (map-append (λ x. x.item.thread) xs ys)
      ∙ times_append t (threads_of xs) (threads_of ys)

  -- one more behind all others
  pub times_in_last : (xs : List (Queued (Waiter W))) (x : Queued (Waiter W))
      → times_in (xs ++ x ∷ []) ≡ one_if (x.item.thread == t) + times_in xs
  times_in_last xs x = omega (arith, times_in_append xs (x ∷ []), times_in_first x [])

  -- those of a thread go
  pub times_in_without : (thread : ℕ) (xs : List (Queued (Waiter W)))
      → times_in (without thread xs) ≡ (if thread == t then 0 else times_in xs)
  times_in_without thread [] = grind (arith, nat_tests)
  times_in_without thread (x ∷ xs) = grind (arith, nat_tests, times_in_without thread xs)

  -- those of a thread alone, with another priority
  times_in_alone : (thread priority : ℕ) (xs : List (Queued (Waiter W)))
      → times_in (map (with_priority priority) (filter (is_thread thread) xs))
      ≡ (if thread == t then times_in xs else 0)
  times_in_alone thread priority [] = grind (arith, nat_tests)
  times_in_alone thread priority (x ∷ xs) =
      grind (arith, nat_tests, times_in_alone thread priority xs)

  -- a thread goes behind all others
  times_in_moved : (thread priority : ℕ) (xs : List (Queued (Waiter W)))
      → times_in (moved_last thread priority xs) ≡ times_in xs
  times_in_moved thread priority xs =
      times_in_append (without thread xs)
      (map (with_priority priority) (filter (is_thread thread) xs))
      ∙ grind (arith, nat_tests, times_in_without thread xs, times_in_alone thread priority xs)

  -- a thread keeps its place
  times_in_place : (thread priority : ℕ) (xs : List (Queued (Waiter W)))
      → times_in (in_place thread priority xs) ≡ times_in xs
  times_in_place thread priority [] = refl
  times_in_place thread priority (x ∷ xs) =
      grind (arith, nat_tests, times_in_place thread priority xs)

  -- its priority changes
  pub times_in_requeued : (by_priority : Bool) (thread priority : ℕ) (xs : List (Queued (Waiter W)))
      → times_in (requeued by_priority thread priority xs) ≡ times_in xs
  times_in_requeued true thread priority xs = times_in_moved thread priority xs
  times_in_requeued false thread priority xs = times_in_place thread priority xs

  -- the one that is chosen, and the others
  abbrev IsSplit : List (Queued (Waiter W)) → Choice (Waiter W) → Type 0
  IsSplit xs c = times_in xs ≡ one_if (c.one.item.thread == t) + times_in c.others

  -- so of one that is taken
  pub taken_split : (xs : List (Queued (Waiter W))) (c : Choice (Waiter W)) → IsTaken xs c
      → times_in xs ≡ one_if (c.one.item.thread == t) + times_in c.others
  taken_split xs c h =
      ap times_in h.queue_is ∙ times_in_append h.before (c.one ∷ h.behind) ∙ omega (
        arith,
        times_in_first c.one h.behind,
        ap times_in h.others_are,
        times_in_append h.before h.behind,
      )

  -- by priority
  best_split : (xs : List (Queued (Waiter W))) (c : Choice (Waiter W)) → chooses_best xs ≡ Some c
      → IsSplit xs c
  best_split [] c chosen = cc
  best_split (x ∷ xs) c chosen = grind (arith, nat_tests, chosen, best_split xs)

  -- by priority or by arrival
  pub chosen_split : (by_priority : Bool) (xs : List (Queued (Waiter W))) (c : Choice (Waiter W))
      → chooses by_priority xs ≡ Some c
      → times_in xs ≡ one_if (c.one.item.thread == t) + times_in c.others
  chosen_split true xs c chosen = best_split xs c chosen
  chosen_split false [] c chosen = cc
  chosen_split false (x ∷ xs) c chosen =
      subst (IsSplit (x ∷ xs)) (same_Some _ c chosen) (times_in_first x xs)

  -- one more, put by its priority
  times_in_put : (x : Queued (Waiter W)) (xs : List (Queued (Waiter W)))
      → times_in (put_by_priority x xs) ≡ one_if (x.item.thread == t) + times_in xs
  times_in_put x [] = times_in_first x []
  times_in_put x (y ∷ ys) = grind (arith, nat_tests, times_in_put x ys)

  -- all, sorted by priority
  times_in_sorted : (xs : List (Queued (Waiter W))) → times_in (sorted xs) ≡ times_in xs
  times_in_sorted [] = refl
  times_in_sorted (x ∷ xs) =
      omega (arith, times_in_put x (sorted xs), times_in_first x xs, times_in_sorted xs)

  -- all, in the order of the choices
  pub times_in_order : (by_priority : Bool) (xs : List (Queued (Waiter W)))
      → times_in (in_order by_priority xs) ≡ times_in xs
  times_in_order true xs = times_in_sorted xs
  times_in_order false xs = refl

-- the threads of delays
abbrev pub delayed : List DelayOf → List ℕ
delayed ds = map (λ delay. delay.thread) ds

-- a thread that has no delay is not among those of delays
pub undelayed : (ds : List DelayOf) (thread : ℕ) → times thread (delayed ds) ≡ 0
    → list_any (is_delay_of thread) ds ≡ false
undelayed [] thread none = refl
undelayed (d ∷ ds) thread none = grind (arith, nat_tests, none, undelayed ds thread)

-- the delay of a thread goes
pub times_dropped : (ds : List DelayOf) (thread t : ℕ)
    → times t (delayed (filter (λ delay. not (is_delay_of thread delay)) ds))
    ≡ (if thread == t then 0 else times t (delayed ds))
times_dropped [] thread t = grind (arith, nat_tests)
times_dropped (d ∷ ds) thread t = grind (arith, nat_tests, times_dropped ds thread t)

-- one more delay stands
pub times_added : (ds : List DelayOf) (d : DelayOf) (t : ℕ)
    → times t (delayed (ds ++ d ∷ [])) ≡ one_if (d.thread == t) + times t (delayed ds)
times_added ds d t =
    ap (times t) (map-append (λ (d : DelayOf). d.thread) ds (d ∷ []))
    ∙ times_last t d.thread (delayed ds)
