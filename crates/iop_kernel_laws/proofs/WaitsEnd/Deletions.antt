-- All threads that wait for an object which is deleted are woken, and none waits for it then.
use Rattle.std.proofs.Common.{◌≡◌, ◌≢◌, ℕ, nat_lt, Bool, true, false, if◌then◌else◌, Some, None, List, Contains, refl, ap, sym, ◌∙◌, subst, arith}
use Rattle.std.proofs.lemmas.Bool.{eq-eqb}
use Rattle.iop_base.specs.Numbers.{one_if}
use Rattle.iop_base.specs.declared.code.TheConstants.Code.{OBJECT_DELETED}
use Rattle.iop_objects.specs.Objects.{object_of, deletes}
use Rattle.iop_objects.proofs.Others.{object_of_id, object_of_without}
use Rattle.iop_thread.specs.Placing.{times}
use Rattle.iop_thread.specs.ThreadTable.{ThreadTable}
use Rattle.iop_thread.specs.Waits.{wait_of}
use Rattle.iop_thread.specs.declared.kind.Kind.{Kind}
use Rattle.iop_thread.specs.declared.kind.Kind.TheVariants.{Semaphore, EventFlag, Mailbox, VariablePool, FixedPool}
use Rattle.iop_thread.specs.declared.wait.Wait.{Wait}
use Rattle.iop_thread.specs.declared.wait.Wait.TheVariants.{Object}
use Rattle.iop_thread.proofs.ReadyIds.{contained}
use Rattle.iop_kernel.specs.EventFlags.{serves_thevent}
use Rattle.iop_kernel.specs.FixedPools.{serves_thfpool}
use Rattle.iop_kernel.specs.Kinds.{Live, Table, table, waits_by_priority}
use Rattle.iop_kernel.specs.Mailboxes.{serves_thmsgbx}
use Rattle.iop_kernel.specs.ObjectServices.{threads_in_order, deletes_object, delete_object}
use Rattle.iop_kernel.specs.Placing.{IsPlaced, is_for}
use Rattle.iop_kernel.specs.Semaphores.{serves_thsemap}
use Rattle.iop_kernel.specs.Serving.{serves}
use Rattle.iop_kernel.specs.System.{Kernel, Core, Left, argument, with_threads, code_word}
use Rattle.iop_kernel.specs.VariablePools.{serves_thvpool}
use Rattle.iop_kernel.specs.Waits.{wakes_all}
use Rattle.iop_kernel_laws.specs.WakingLaws.{WakesAll, DeletionsWakeAll}
use Rattle.iop_kernel.proofs.Bodies.KindTables.{own_table, own_object}
use Rattle.iop_kernel.proofs.Placing.Threads.{all_woken}
use Rattle.iop_kernel_laws.proofs.WaitsEnd.Waiters.{times_ordered, each_wakes}

-- there are some where there is one
some_are : (b : Bool) (n : ℕ) → n ≡ one_if b → nat_lt 0 n ≡ b
some_are true n is = rw is refl
some_are false n is = rw is refl

module _ (kind : Kind) (k : Kernel) (h : IsPlaced k) (id : ℕ) (o : Live kind)
    (live : object_of (table kind k).live id ≡ Some o) where
  abbrev wait : Wait
  wait = Object kind id

  abbrev ids : List ℕ
  ids = threads_in_order kind o

  abbrev left : ThreadTable
  left = wakes_all k.threads ids (code_word OBJECT_DELETED)

  abbrev asks : ℕ → Bool
  asks t = is_for kind id (wait_of k.threads t)

  -- its own wait does
  its : is_for kind id (Some wait) ≡ true
  its = own_object kind id id ∙ eq-eqb id id refl

  -- a thread is among them once, where it waits for it
  among : (t : ℕ) → times t ids ≡ one_if (asks t)
  among = times_ordered kind k h id o live (waits_by_priority kind o.state)

  -- so each that does is among them
  all_wait : (t : ℕ) → wait_of k.threads t ≡ Some wait → Contains ids t
  all_wait t waits =
      contained t ids (omega (arith, among t, ap one_if (ap (is_for kind id) waits ∙ its)))

  -- and none waits for it then
  none_waits : (t : ℕ) → wait_of left t ≢ Some wait
  none_waits t still = by (asks t) refl (sym ended ∙ still)
    where
      ended : wait_of left t ≡ (if asks t then None else wait_of k.threads t)
      ended =
          (all_woken k.threads h.threads ids (code_word OBJECT_DELETED)).waits t
          ∙ ap (λ b. if b then None else wait_of k.threads t)
          (some_are (asks t) (times t ids) (among t))

      by : (b : Bool) → asks t ≡ b → (if b then None else wait_of k.threads t) ≡ Some wait → ⊥
      by true is none = cc none
      by false is there = let asked = ap (is_for kind id) there ∙ its in absurd (cc (asked, is))

  all_wake : WakesAll id ids wait k.threads left (deletes (table kind k) id)
  all_wake = record {
    each = each_wakes kind k h id o live ids (code_word OBJECT_DELETED)
        (λ t. omega (arith, among t));
    all = all_wait;
    none = none_waits;
    gone = object_of_without (table kind k).live id id ∙ rw (eq-eqb id id refl) refl;
  }

-- where an object of a kind is deleted
object_wakes : (kind : Kind) (c : Core) (id : ℕ) (o : Live kind) → IsPlaced c.kernel
    → object_of (table kind c.kernel).live id ≡ Some o
    → let left = (delete_object kind c id).state.kernel in
    WakesAll id (threads_in_order kind o) (Object kind id) c.kernel.threads left.threads
    (table kind left)
object_wakes kind c id o h live =
    let k = c.kernel in
    let t = table kind k in
    let ids = threads_in_order kind o in
    let woken = wakes_all k.threads ids (code_word OBJECT_DELETED) in
    subst (λ (d : Left Core). WakesAll id ids (Object kind id) k.threads d.state.kernel.threads
    (table kind d.state.kernel)) (sym (ap (deletes_object kind c) live))
    (subst (λ (s : Table kind). WakesAll id ids (Object kind id) k.threads woken s)
    (ap (deletes t) (sym (object_of_id t.live id o live))
    ∙ sym (own_table kind (with_threads c woken).kernel (deletes t o.id)))
    (all_wake kind k h id o live))

-- by the service of each kind
pub deletions_wake_all : DeletionsWakeAll
unfolding serves serves_thsemap serves_thevent serves_thmsgbx serves_thvpool serves_thfpool
deletions_wake_all Semaphore s o = object_wakes Semaphore s.core (argument s.core 0) o
deletions_wake_all EventFlag s o = object_wakes EventFlag s.core (argument s.core 0) o
deletions_wake_all Mailbox s o = object_wakes Mailbox s.core (argument s.core 0) o
deletions_wake_all VariablePool s o = object_wakes VariablePool s.core (argument s.core 0) o
deletions_wake_all FixedPool s o = object_wakes FixedPool s.core (argument s.core 0) o
