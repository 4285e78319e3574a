-- What the law of codes says: what a `syscall` leaves as it was, by what its code calls, the
-- returns of threads, handlers and modules among it.
use Rattle.std.specs.Prelude.{◌≡◌, ℕ, ◌==◌, nat_le, Bool, true, false, ◌&&◌, ◌||◌, Option, Some, None, map, Contains}
use Rattle.iop_kernel_laws.specs.Histories.{Called}
use Rattle.iop_kernel.specs.Kinds.{library_of, table}
use Rattle.iop_kernel.specs.Serving.{call_of, services}
use Rattle.iop_kernel.specs.System.{System}
use Rattle.iop_kernel.specs.declared.call.Call.{Call}
use Rattle.iop_kernel.specs.declared.call.Call.TheVariants.{Library, ThreadReturn, HandlerReturn, ModuleReturn}
use Rattle.iop_objects.specs.Objects.{Objects, state_of, waiters_of}
use Rattle.iop_objects.specs.declared.waiter.Waiter.{Waiter}
use Rattle.iop_services.specs.declared.codes.TheConstants.{LOADCORE, SYSMEM, INTRMAN, THBASE, THMSGBX, THVPOOL, THFPOOL, SYSCLIB}
use Rattle.iop_services.specs.declared.service.Service.{Service}
use Rattle.iop_services.specs.declared.service.Service.TheVariants.{Thsemap, Thevent, Thmsgbx, Thvpool, Thfpool}
use Rattle.iop_thread.specs.declared.kind.Kind.{Kind}
use Rattle.iop_thread.specs.declared.kind.Kind.TheVariants.{Semaphore, EventFlag, Mailbox, VariablePool, FixedPool}

-- whether a service is one of the library of a kind of objects
abbrev pub is_of_kind : Kind → Service → Bool
is_of_kind Semaphore (Thsemap x) = true
is_of_kind EventFlag (Thevent x) = true
is_of_kind Mailbox (Thmsgbx x) = true
is_of_kind VariablePool (Thvpool x) = true
is_of_kind FixedPool (Thfpool x) = true
is_of_kind kind other = false

-- whether one is called
abbrev pub calls_kind : Kind → Option Called → Bool
calls_kind kind None = false
calls_kind kind (Some call) = is_of_kind kind call.service

-- whether a number of a library is called
abbrev pub calls_into : (library : ℕ) → Option Call → Bool
calls_into library (Some (Library other number)) = other == library
calls_into library other = false

-- whether a thread or a module returns
abbrev pub ends_thread : Option Call → Bool
ends_thread (Some ThreadReturn) = true
ends_thread (Some ModuleReturn) = true
ends_thread other = false

-- whether a handler returns
abbrev pub ends_handler : Option Call → Bool
ends_handler (Some HandlerReturn) = true
ends_handler other = false

-- whether a library is one of pools
abbrev pub serves_pools : ℕ → Bool
serves_pools library = library == THVPOOL || library == THFPOOL

-- whether the libraries of threads and of what they wait for are called
abbrev pub serves_threads : ℕ → Bool
serves_threads library =
    nat_le THBASE library && nat_le library THMSGBX || serves_pools library

abbrev pub calls_threads : Option Call → Bool
calls_threads (Some (Library library number)) = serves_threads library
calls_threads other = ends_thread other

-- whether a library is one of interrupts, or of threads and of what they wait for
abbrev pub serves_kernel : ℕ → Bool
serves_kernel library =
    nat_le INTRMAN library && nat_le library THMSGBX || serves_pools library

-- whether one of these is called
abbrev pub calls_kernel : Option Call → Bool
calls_kernel (Some (Library library number)) = serves_kernel library
calls_kernel other = false

-- whether one is, or something returns
abbrev pub changes_kernel : Option Call → Bool
changes_kernel call = calls_kernel call || ends_thread call || ends_handler call

-- whether a library is one of these, or sysclib: they alone may write memory
abbrev pub writes_memory : ℕ → Bool
writes_memory library = serves_kernel library || library == SYSCLIB

abbrev pub may_write : Option Call → Bool
may_write (Some (Library library number)) = writes_memory library
may_write other = false

-- the objects of a kind are those that they were: no thread begins to wait for any, and what the
-- waiters want stays
pub record KeepsObjects {A W : Type 0} (old new : Objects A W) : Type 0 where
  pub states : (id : ℕ) → state_of new id ≡ state_of old id
  -- each as a whole, but for the priority by which it is queued
  pub waiters : (id : ℕ) (w : Waiter W) → Contains (map (λ x. x.item) (waiters_of new id)) w
      → Contains (map (λ x. x.item) (waiters_of old id)) w
  -- nor is an id given
  pub next : new.next ≡ old.next

pub record CodeStaysApart (s : System) (call : Option Call) (left : System) : Type 0 where
  -- the other libraries leave the kernel as it was, and intrman all but its own
  pub kernel : changes_kernel call ≡ false → left.core.kernel ≡ s.core.kernel
  pub intrman : calls_into INTRMAN call ≡ true → left.core.kernel
      ≡ record s.core.kernel {
        interrupts = left.core.kernel.interrupts;
        irqs = left.core.kernel.irqs;
      }
  -- what is known of an object changes by its own library alone, and none is made or deleted, nor
  -- does a thread begin to wait for one
  pub objects : (kind : Kind) → calls_into (library_of kind) call ≡ false
      → KeepsObjects (table kind s.core.kernel) (table kind left.core.kernel)
  pub threads : calls_threads call ≡ false
      → left.core.kernel.threads ≡ s.core.kernel.threads
  -- interrupt lines, and alarms and delays, change by their own library alone and by the return of
  -- a handler
  pub irqs : calls_into INTRMAN call ≡ false → ends_handler call ≡ false
      → left.core.kernel.irqs ≡ s.core.kernel.irqs
  pub timers : calls_into THBASE call ≡ false → ends_handler call ≡ false
      → left.core.kernel.timers ≡ s.core.kernel.timers
  pub handler : ends_handler call ≡ false → left.core.kernel.handler ≡ s.core.kernel.handler
  pub interrupts : calls_into INTRMAN call ≡ false → calls_into THBASE call ≡ false
      → ends_handler call ≡ false → ends_thread call ≡ false
      → left.core.kernel.interrupts ≡ s.core.kernel.interrupts
  pub dispatching : calls_into THBASE call ≡ false → ends_thread call ≡ false
      → left.core.kernel.dispatching ≡ s.core.kernel.dispatching
  pub clock : left.core.kernel.clock ≡ s.core.kernel.clock
  -- libraries are registered by loadcore alone, blocks taken and freed by sysmem, thbase and the
  -- libraries of pools alone
  pub libraries : calls_into LOADCORE call ≡ false → left.libraries ≡ s.libraries
  pub blocks : calls_into SYSMEM call ≡ false → calls_into THBASE call ≡ false
      → calls_into THVPOOL call ≡ false → calls_into THFPOOL call ≡ false
      → left.blocks ≡ s.blocks
  -- loadcore, sysmem, stdio and the returns write nothing
  pub memory : may_write call ≡ false → left.memory ≡ s.memory

abbrev pub CodesStayApart : Type 0
CodesStayApart =
    (s : System) (code : ℕ) → CodeStaysApart s (call_of code) (services s code).left.state
