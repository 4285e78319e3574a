-- How the waits of threads end and change (ps2sdk: thbase, thsemap, thevent, thmsgbx, thvpool,
-- thfpool). That a waiter of another priority comes behind the others, where they are chosen by
-- priority, is this project's own profile.
use Rattle.std.specs.Prelude.{ℕ, ◌==◌, Bool, Option, Some, List, [], ◌∷◌, map}
use Rattle.iop_base.specs.declared.code.Code.{Code}
use Rattle.iop_objects.specs.Objects.{drops, requeues}
use Rattle.iop_queues.specs.declared.queued.Queued.{Queued}
use Rattle.iop_objects.specs.declared.waiter.Waiter.{Waiter}
use Rattle.iop_thread.specs.Operations as threads
use Rattle.iop_thread.specs.ThreadTable.{ThreadTable}
use Rattle.iop_thread.specs.declared.wait.Wait.{Wait}
use Rattle.iop_thread.specs.declared.wait.Wait.TheVariants.{Delay, Object}
use Rattle.iop_time.specs.Timers.{drops_delay}
use Rattle.iop_kernel.specs.Kinds.{table, with_table, is_by_priority}
use Rattle.iop_kernel.specs.System.{Kernel, Core, with_threads, code_word}

-- whether a code is that one
abbrev pub is_code : Code → Code → Bool
is_code code other = code_word code == code_word other

-- the threads of those that wait
abbrev pub threads_of : {W : Type 0} → List (Queued (Waiter W)) → List ℕ
threads_of waiters = map (λ x. x.item.thread) waiters

-- the wait of a thread ends, with a word as its answer
abbrev pub wakes_word : Core → (thread word : ℕ) → Core
wakes_word c thread word = with_threads c (threads.wakes c.kernel.threads thread word)

-- the same, with a code
abbrev pub wakes_with : Core → (thread : ℕ) → Code → Core
wakes_with c thread code = wakes_word c thread (code_word code)

-- those of several threads, one after the other
abbrev pub wakes_all : ThreadTable → List ℕ → (word : ℕ) → ThreadTable
wakes_all s [] word = s
wakes_all s (id ∷ ids) word = wakes_all (threads.wakes s id word) ids word

-- a thread is no longer among those that wait for the object of its wait, or for a time
abbrev pub leaves_object : Kernel → (thread : ℕ) → Option Wait → Kernel
leaves_object k thread (Some Delay) = record k { timers = drops_delay k.timers thread }
leaves_object k thread (Some (Object kind id)) =
    with_table kind k (drops (table kind k) id thread)
leaves_object k thread other = k

-- a thread has another priority among those that wait for the object of its wait
abbrev pub requeues_at : Kernel → (thread priority : ℕ) → Option Wait → Kernel
requeues_at k thread priority (Some (Object kind id)) =
    let by_priority = is_by_priority kind (table kind k) id in
    with_table kind k (requeues (table kind k) id by_priority thread priority)
requeues_at k thread priority other = k

-- the same of a core
abbrev pub core_leaves : Core → (thread : ℕ) → Option Wait → Core
core_leaves c thread wait = record c { kernel = leaves_object c.kernel thread wait }

abbrev pub core_requeues : Core → (thread priority : ℕ) → Option Wait → Core
core_requeues c thread priority wait =
    record c { kernel = requeues_at c.kernel thread priority wait }
