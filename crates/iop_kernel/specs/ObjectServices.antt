-- What the services of all kinds of objects have alike (ps2sdk: thsemap.h, thevent.h, thmsgbx.h,
-- thvpool.h, thfpool.h; the codes are those of its kerr.h): how a thread waits for an object, how
-- one is deleted, and how its status is told. The order of the refusals is this project's own
-- profile.
use Rattle.std.specs.Prelude.{ℕ, Option, Some, None, List}
use Rattle.iop_base.specs.declared.code.Code.{Code}
use Rattle.iop_base.specs.declared.code.TheConstants.Code.{OK, UNKNOWN_SEMAPHORE, UNKNOWN_EVENT_FLAG, UNKNOWN_MAILBOX, UNKNOWN_VARIABLE_POOL, UNKNOWN_FIXED_POOL, OBJECT_DELETED}
use Rattle.iop_base.specs.declared.guest_fault.GuestFault.TheVariants.{Address, Service}
use Rattle.iop_objects.specs.Objects as objects
use Rattle.iop_objects.specs.Objects.{object_of, state_of}
use Rattle.iop_queues.specs.Queue.{in_order}
use Rattle.iop_thread.specs.ThreadTable.{priority_of}
use Rattle.iop_thread.specs.declared.kind.Kind.{Kind}
use Rattle.iop_thread.specs.declared.kind.Kind.TheVariants.{Semaphore, EventFlag, Mailbox, VariablePool, FixedPool}
use Rattle.iop_thread.specs.declared.wait.Wait.TheVariants.{Object}
use Rattle.iop_kernel.specs.Boards.{Board, quiet, writes}
use Rattle.iop_kernel.specs.Kinds.{State, Wants, Live, Table, table, with_objects, waits_by_priority}
use Rattle.iop_kernel.specs.System.{Core, Left, Done, with_threads, code_word, answers, faults, words_place}
use Rattle.iop_kernel.specs.ThreadWaits.{waits}
use Rattle.iop_kernel.specs.Waits.{threads_of, wakes_all}

-- the code of an id that no live object has
abbrev pub unknown : Kind → Code
unknown Semaphore = UNKNOWN_SEMAPHORE
unknown EventFlag = UNKNOWN_EVENT_FLAG
unknown Mailbox = UNKNOWN_MAILBOX
unknown VariablePool = UNKNOWN_VARIABLE_POOL
unknown FixedPool = UNKNOWN_FIXED_POOL

-- the threads that wait for an object, in the order in which they would be chosen
abbrev pub threads_in_order : (kind : Kind) → Live kind → List ℕ
threads_in_order kind o = threads_of (in_order (waits_by_priority kind o.state) o.waiters)

-- an object for which none waits goes: a code, and what is left
module _ (kind : Kind) (s : Table kind) where
  abbrev pub removes_it : (id : ℕ) → Option (State kind) → Code × Table kind
  removes_it id None = (unknown kind, s)
  removes_it id (Some x) = (OK, objects.deletes s id)

  abbrev pub removes : (id : ℕ) → Code × Table kind
  removes id = removes_it id (state_of s id)

module _ (kind : Kind) (c : Core) where
  -- the thread that calls waits for an object
  abbrev pub waits_for : (id : ℕ) → Wants kind → Option ℕ → Left Core
  waits_for id wants None = faults c Service
  waits_for id wants (Some thread) =
      let priority = priority_of c.kernel.threads.live thread in
      let left = objects.waits (table kind c.kernel) id
      (record { priority = priority; item = record { thread = thread; wants = wants } }) in
      waits (with_objects kind c left) (Object kind id)

  -- by the object of the id: the threads that wait are woken in that order
  abbrev pub deletes_object : Option (Live kind) → Left Core
  deletes_object None = answers c (unknown kind)
  deletes_object (Some o) =
      let woken =
      wakes_all c.kernel.threads (threads_in_order kind o) (code_word OBJECT_DELETED) in
      let left = objects.deletes (table kind c.kernel) o.id in
      answers (with_objects kind (with_threads c woken) left) OK

  -- DeleteSema, DeleteEventFlag, DeleteMbx, DeleteVpl and DeleteFpl, but for the memory of these
  abbrev pub delete_object : (id : ℕ) → Left Core
  delete_object id = deletes_object (object_of (table kind c.kernel).live id)

-- these are the words of an object's status
module _ (kind : Kind) (words : Live kind → List ℕ) (b : Board) where
  -- by the object of the id
  abbrev pub refers_to : (place : ℕ) → Option (Live kind) → Done Board
  refers_to place None = quiet b.memory (answers b.core (unknown kind))
  refers_to place (Some o) = writes b.memory (Some place) (words o) b.core

  -- by the place of the words
  abbrev pub refers_at : (id : ℕ) → Option ℕ → Done Board
  refers_at id None = quiet b.memory (faults b.core Address)
  refers_at id (Some place) = refers_to place (object_of (table kind b.core.kernel).live id)

  -- ReferSemaStatus, ReferEventFlagStatus, ReferMbxStatus, ReferVplStatus and ReferFplStatus, of so
  -- many words
  abbrev pub refer_status : (count id at : ℕ) → Done Board
  refer_status count id at = refers_at id (words_place b.memory at count)
