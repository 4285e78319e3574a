-- No wait is overdue when other threads or objects stand in the kernel.
use Rattle.std.proofs.Common.{◌≡◌, ℕ, Bool, true, Option, Some, List, [], ◌∷◌}
use Rattle.iop_exec.specs.declared.cpu.Cpu.{Cpu}
use Rattle.iop_intr.specs.declared.irq_line.IrqLine.{IrqLine}
use Rattle.iop_thread.specs.Laws.{SleepersAreUnwoken, KeepsSleepers}
use Rattle.iop_thread.specs.Operations as threads
use Rattle.iop_thread.specs.ThreadTable.{ThreadTable}
use Rattle.iop_thread.specs.declared.kind.Kind.{Kind}
use Rattle.iop_thread.specs.declared.wait.Wait.{Wait}
use Rattle.iop_thread.specs.declared.wait.Wait.TheVariants as waits
use Rattle.iop_thread.proofs.Sleepers.{keeps_sleepers}
use Rattle.iop_time.specs.Timers.{Timers}
use Rattle.iop_kernel.specs.Kinds.{Table, table, with_table, is_by_priority}
use Rattle.iop_kernel.specs.Overdue.{NoneOverdue, AreIdle}
use Rattle.iop_kernel.specs.System.{Kernel}
use Rattle.iop_kernel.specs.Waits.{wakes_all, leaves_object, requeues_at}
use Rattle.iop_kernel.specs.declared.active_handler.ActiveHandler.{ActiveHandler}
use Rattle.iop_kernel.proofs.Bodies.KindTables.{each_table}
use Rattle.iop_kernel.proofs.Overdue.Kinds.{InTime, drops_in_time, requeues_in_time as requeues_in_time_of}
use Rattle.iop_kernel.proofs.Placing.Basics.{second}

-- threads that are woken one after the other sleep as before
woken_sleep : (s : ThreadTable) → SleepersAreUnwoken s → (ids : List ℕ) (word : ℕ)
    → SleepersAreUnwoken (wakes_all s ids word)
woken_sleep s h [] word = h
woken_sleep s h (id ∷ ids) word =
    woken_sleep (threads.wakes s id word) ((keeps_sleepers s h).wakes id word) ids word

module _ (k : Kernel) (h : NoneOverdue k) where
  -- what each operation on threads leaves of sleepers
  abbrev pub sleepers : KeepsSleepers k.threads
  sleepers = keeps_sleepers k.threads h.sleepers

  -- its objects of a kind
  pub in_time_of : (kind : Kind) → InTime kind (table kind k)
  in_time_of kind = record { idle = h.objects kind }

  -- other threads
  pub with_other_threads : (left : ThreadTable) → SleepersAreUnwoken left
      → NoneOverdue (record k { threads = left })
  with_other_threads left so = record {
    objects = h.objects;
    sleepers = so;
  }

  -- those that an operation answers
  pub threads_come : {A : Type 0} {r : A × ThreadTable} {a : A} {left : ThreadTable}
      → r ≡ (a, left) → SleepersAreUnwoken r.1 → NoneOverdue (record k { threads = left })
  threads_come is so = with_other_threads _ (second SleepersAreUnwoken is so)

  -- the waits of some end
  pub woken_in_time : (ids : List ℕ) (word : ℕ)
      → NoneOverdue (record k { threads = wakes_all k.threads ids word })
  woken_in_time ids word = with_other_threads _ (woken_sleep k.threads h.sleepers ids word)

  -- the running thread waits for an object
  pub blocked_in_time : (wait : Wait) (registers : Cpu) → (wait ≡ waits.Sleep → ⊥)
      → NoneOverdue (record k { threads = threads.blocks k.threads wait registers })
  blocked_in_time wait registers awake =
      with_other_threads _ (sleepers.blocks wait registers tt (λ asleep. absurd (awake asleep)))

  -- other objects of a kind
  pub with_other_objects : (kind : Kind) (left : Table kind) → InTime kind left
      → NoneOverdue (with_table kind k left)
  with_other_objects kind left so = record {
    objects = each_table AreIdle kind k left so.idle (λ other apart. h.objects other);
    sleepers = h.sleepers;
  }

  -- no object and no thread changes
  pub beside_in_time : (clock : ℕ) (interrupts dispatching : Bool)
      (handler : Option ActiveHandler) (timers : Timers) (irqs : List IrqLine)
      → NoneOverdue (record k {
        clock = clock;
        interrupts = interrupts;
        dispatching = dispatching;
        handler = handler;
        timers = timers;
        irqs = irqs;
      })
  beside_in_time clock interrupts dispatching handler timers irqs = record {
    objects = h.objects;
    sleepers = h.sleepers;
  }

  -- interrupts are on and dispatch is enabled
  pub opened_in_time : NoneOverdue (record k { interrupts = true; dispatching = true })
  opened_in_time = beside_in_time _ _ _ _ _ _

  -- a thread is no longer among those that wait for the object of its wait, or for a time
  pub leaves_in_time : (thread : ℕ) (wait : Option Wait) → NoneOverdue (leaves_object k thread wait)
  leaves_in_time thread (Some waits.Delay) = beside_in_time _ _ _ _ _ _
  leaves_in_time thread (Some (waits.Object kind id)) =
      with_other_objects kind _ (drops_in_time kind (table kind k) (in_time_of kind) id thread)
  leaves_in_time thread other = h

  -- a thread has another priority among them
  pub requeues_in_time : (thread priority : ℕ) (wait : Option Wait)
      → NoneOverdue (requeues_at k thread priority wait)
  requeues_in_time thread priority (Some (waits.Object kind id)) =
      with_other_objects kind _
      (requeues_in_time_of kind (table kind k) (in_time_of kind) id
      (is_by_priority kind (table kind k) id) thread priority)
  requeues_in_time thread priority other = h
