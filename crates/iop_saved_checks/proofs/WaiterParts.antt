-- Those that wait for an object, where each does so by its state.
use Rattle.std.proofs.Common.{◌≡◌, ℕ, Bool, true, false, Option, Some, None, option_map, List, [], ◌∷◌, All, refl, sym, ◌∙◌, ap, subst, arith}
use Rattle.std.specs.Prelude.{◌==◌, ◌&&◌}
use Rattle.std.proofs.lemmas.Bool.{and_parts}
use Rattle.std.proofs.lemmas.Bool.Decides.{nat_tests}
use Rattle.iop_kernel.specs.Placing.{HasItsPriority, is_for}
use Rattle.iop_kernel.specs.System.{Kernel}
use Rattle.iop_kernel.specs.Waits.{threads_of}
use Rattle.iop_objects.specs.Objects.{Object, Objects, object_of, waiters_in, waiters_of}
use Rattle.iop_objects.specs.declared.waiter.Waiter.{Waiter}
use Rattle.iop_queues.specs.declared.queued.Queued.{Queued}
use Rattle.iop_thread.specs.Placing.{times}
use Rattle.iop_thread.specs.ThreadTable.{ThreadTable, priority_of}
use Rattle.iop_thread.specs.Waits.{wait_of}
use Rattle.iop_thread.specs.declared.kind.Kind.{Kind}
use Rattle.iop_thread.specs.declared.wait.Wait.TheVariants.{Object as ForObject}
use Rattle.iop_saved_checks.specs.Threads.{is_awaited}
use Rattle.iop_saved_checks.specs.Waiters.{is_waiter, are_waiters, walked}
use Rattle.iop_saved_checks.proofs.Lists.{each_is}

module _ {W : Type 0} (threads : ThreadTable) (kind : Kind) (id : ℕ) (has_place : W → Bool) where
  -- what the test of one says
  pub record IsPart (x : Queued (Waiter W)) : Type 0 where
    pub waits : is_for kind id (wait_of threads x.item.thread) ≡ true
    pub priority : HasItsPriority threads x
    pub place : has_place x.item.wants ≡ true

  pub part_is : (x : Queued (Waiter W))
      → (is_waiter threads kind id x && has_place x.item.wants) ≡ true → IsPart x
  part_is x h =
      let whole = and_parts (is_waiter threads kind id x) (has_place x.item.wants) h in
      let own = and_parts (is_for kind id (wait_of threads x.item.thread))
      (x.priority == priority_of threads.live x.item.thread) whole.0 in record {
        waits = own.0;
        priority = grind (arith, nat_tests, own.1);
        place = whole.1;
      }

  pub parts_are : (xs : List (Queued (Waiter W)))
      → are_waiters threads kind id has_place xs ≡ true → All IsPart xs
  parts_are =
      each_is (λ x. is_waiter threads kind id x && has_place x.item.wants) IsPart part_is

  -- a thread that does not wait for the object by its state is not among them
  pub none_else : (thread : ℕ) → is_for kind id (wait_of threads thread) ≡ false
      → (xs : List (Queued (Waiter W))) → are_waiters threads kind id has_place xs ≡ true
      → times thread (threads_of xs) ≡ 0
  none_else thread not [] h = refl
  none_else thread not (x ∷ xs) h =
      let whole = and_parts (is_waiter threads kind id x && has_place x.item.wants)
      (are_waiters threads kind id has_place xs) h in
      let own = (part_is x whole.0).waits in
      let later = none_else thread not xs whole.1 in
      grind (arith, nat_tests, own, not, later)

-- those over whom one walks are those that wait, where the kernel has what the program has
pub walked_of : {A W : Type 0} {s t : Objects A W} {walk : Option (List (Queued (Waiter W)))}
    (id : ℕ) → t ≡ s → walk ≡ option_map (λ o. o.waiters) (object_of s.live id)
    → walked walk ≡ waiters_of t id
walked_of {A} {W} {s} id same is =
    ap walked is ∙ by (object_of s.live id) ∙ ap (λ u. waiters_of u id) (sym same)
  where
    by : (o : Option (Object A W)) → walked (option_map (λ o. o.waiters) o) ≡ waiters_in o
    by None = refl
    by (Some o) = refl

-- what is answered of a kind is that of the kind that is asked for
pub of_kind : {kind own : Kind} {answer : Bool} (k : Kernel) (thread id : ℕ) → kind ≡ own
    → answer ≡ is_awaited k thread (Some (ForObject own id))
    → answer ≡ is_awaited k thread (Some (ForObject kind id))
of_kind {answer = answer} k thread id is =
    subst (λ one. answer ≡ is_awaited k thread (Some (ForObject one id))) (sym is)
