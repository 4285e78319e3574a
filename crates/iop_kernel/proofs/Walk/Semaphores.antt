-- What holds after each service of semaphores.
use Rattle.std.proofs.Common.{◌≡◌, ℕ, ◌+◌, ◌-◌, ◌==◌, nat_le, nat_lt, not, true, false, Option, Some, None, Result, Ok, Err, List, refl, arith}
use Rattle.std.specs.Prelude.{⊤}
use Rattle.std.proofs.lemmas.Bool.{cond_both}
use Rattle.std.proofs.lemmas.Bool.Decides.{nat_tests}
use Rattle.iop_base.specs.Piece.{Piece}
use Rattle.iop_base.specs.declared.code.Code.{Code}
use Rattle.iop_base.specs.declared.code.TheConstants.Code.{OK, UNKNOWN_SEMAPHORE, SEMAPHORE_OVERFLOW, SEMAPHORE_ZERO}
use Rattle.iop_objects.specs.Objects as objects
use Rattle.iop_objects.specs.Objects.{state_of, waiters_of, with_state}
use Rattle.iop_queues.specs.Queue.{Choice, chooses}
use Rattle.iop_objects.specs.declared.waiter.Waiter.{Waiter}
use Rattle.iop_sema.specs.Semaphores as semaphores
use Rattle.iop_sema.specs.Semaphores.{Semaphores, by_priority, with_count}
use Rattle.iop_sema.specs.declared.semaphore.Semaphore as declared
use Rattle.iop_thread.specs.declared.kind.Kind.TheVariants.{Semaphore}
use Rattle.iop_kernel.specs.Boards.{word_in}
use Rattle.iop_kernel.specs.Semaphores.{creates_sema_at, signals_by, takes_or_waits, wait_sema, poll_sema, leaves_semaphores}
use Rattle.iop_kernel.specs.System.{Core, Left, System, may_switch, caller, with_semaphores, answers_result, code_word}
use Rattle.iop_kernel.specs.declared.after.After.{After}
use Rattle.iop_kernel.proofs.Walk.Changes.SemaphoreChanges.{counts, takes}
use Rattle.iop_kernel.proofs.Walk.Moves.{EachMoves, ObjectMoves, CoreEnds}
use Rattle.iop_kernel.proofs.Walk.Objects.{waits_goes}
use Rattle.iop_kernel.proofs.Walk.Threads.{answers_after, only, either}

module _ {P : System → List Piece → Type 0} {Q : After → System → List Piece → Type 0}
    {Asks MayLeave : Type 0} {s : System} (e : EachMoves P Q Asks s)
    (m : ObjectMoves P Q Asks s MayLeave Semaphore) where
  abbrev c : Core
  c = s.core

  abbrev CoreGoes : Left Core → Type 0
  CoreGoes = CoreEnds Q s

  abbrev semas : Semaphores
  semas = s.core.kernel.semaphores

  -- semaphores: one is made, by what is asked for
  sema_made : (attr option initial max : ℕ)
      → let done = semaphores.creates semas attr option initial max in
      CoreGoes (answers_result (with_semaphores c done.1) done.0)
  sema_made attr option initial max =
      cond_both (not (semaphores.is_attribute attr)) _ _ Made (λ illegal. only e _)
      (λ legal. cond_both (nat_lt max initial) _ _ Made (λ over. only e _)
      (λ fits. answers_after e _ _
      (m.makes (record {
        attr = attr;
        option = option;
        initial = initial;
        max = max;
        count = initial;
      }) s.blocks (grind (arith, nat_tests, legal), fits, refl) refl)))
    where
      Made : Result ℕ Code × Semaphores → Type 0
      Made r = CoreGoes (answers_result (with_semaphores c r.1) r.0)

  pub creates_sema_goes : (o : Option ℕ) → CoreGoes (creates_sema_at c s.memory o)
  creates_sema_goes None = e.bad_place
  creates_sema_goes (Some place) =
      let word : ℕ → ℕ = word_in s.memory place in sema_made (word 0) (word 1) (word 2) (word 3)

  -- a signal, by who is chosen
  signals_chosen : (id : ℕ) (x : declared.Semaphore) → state_of semas id ≡ Some x
      → (o : Option (Choice (Waiter ⊤))) → chooses (by_priority x) (waiters_of semas id) ≡ o
      → CoreGoes (signals_by c (semaphores.signals_by semas id x (objects.takes semas id o)))
  signals_chosen id x known None is =
      cond_both (nat_le x.max x.count) (Err SEMAPHORE_OVERFLOW, semas)
      (Ok None, with_state semas id (with_count x (x.count + 1)))
      (λ (r : Result (Option ℕ) Code × Semaphores). CoreGoes (signals_by c r)) (λ full. only e _)
      (λ fits. answers_after e _ _ (m.changes id x _ known (counts is fits)))
  signals_chosen id x known (Some one) is =
      answers_after e _ _ (m.wakes id (code_word OK) x one known is refl)

  signals_by_go : (id : ℕ) (o : Option declared.Semaphore) → state_of semas id ≡ o
      → CoreGoes (signals_by c (semaphores.signals_it semas id o))
  signals_by_go id None known = only e _
  signals_by_go id (Some x) known =
      signals_chosen id x known (chooses (by_priority x) (waiters_of semas id)) refl

  pub signals_go : (id : ℕ) → CoreGoes (signals_by c (semaphores.signals semas id))
  signals_go id = signals_by_go id (state_of semas id) refl

  -- one of the count is taken, by what is known
  takes_by : (C : Code × Semaphores → Type 0) (id : ℕ) (o : Option declared.Semaphore)
      → state_of semas id ≡ o → C (UNKNOWN_SEMAPHORE, semas)
      → ((x : declared.Semaphore) → state_of semas id ≡ Some x → (x.count == 0) ≡ true
      → C (SEMAPHORE_ZERO, semas))
      → ((x : declared.Semaphore) → state_of semas id ≡ Some x → (x.count == 0) ≡ false
      → C (OK, with_state semas id (with_count x (x.count - 1))))
      → C (semaphores.takes_it semas id o)
  takes_by C id None known unknown none some = unknown
  takes_by C id (Some x) known unknown none some =
      cond_both (x.count == 0) _ _ C (none x known) (some x known)

  pub polls_sema_go : (id : ℕ) → CoreGoes (poll_sema c id)
  polls_sema_go id =
      takes_by (λ (r : Code × Semaphores). CoreGoes (leaves_semaphores c r)) id (state_of semas id)
      refl (only e _) (λ x known zero. only e _)
      (λ x known some. answers_after e _ _ (m.changes id x _ known (takes some)))

  pub wait_sema_goes : Asks → MayLeave → (id : ℕ) → CoreGoes (wait_sema c id)
  wait_sema_goes asks leave id =
      either e (may_switch c.kernel) _ _ (λ may.
      takes_by (λ (r : Code × Semaphores). CoreGoes (takes_or_waits c id r)) id (state_of semas id)
      refl (only e _)
      (λ x known zero.
      waits_goes e Semaphore m asks leave id x tt may known zero tt (caller c) refl)
      (λ x known some. answers_after e _ _ (m.changes id x _ known (takes some))))
      (λ cannot. only e _)
