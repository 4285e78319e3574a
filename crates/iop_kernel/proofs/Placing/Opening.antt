-- Threads and waiters are placed in the kernel at first.
use Rattle.std.proofs.Common.{◌≡◌, ℕ, ◌==◌, option_and_then, Some, None, refl, ap, sym, arith}
use Rattle.std.proofs.lemmas.Bool.{cond_both}
use Rattle.iop_base.specs.Numbers.{one_if}
use Rattle.iop_objects.specs.Objects.{no_objects}
use Rattle.iop_objects.proofs.KeptApart.{keep_apart}
use Rattle.iop_thread.specs.Operations.{opening, dormant_thread, loader_param}
use Rattle.iop_thread.specs.States.{wait_in}
use Rattle.iop_thread.specs.Waits.{wait_of}
use Rattle.iop_thread.specs.declared.kind.Kind.{Kind}
use Rattle.iop_thread.specs.declared.kind.Kind.TheVariants.{Semaphore, EventFlag, Mailbox, VariablePool, FixedPool}
use Rattle.iop_thread.specs.declared.thread.TheConstants.{LOADER, LOADER_STACK}
use Rattle.iop_thread.proofs.Placed.{placed_opening}
use Rattle.iop_time.specs.Timers.{no_timers}
use Rattle.iop_kernel.specs.Placing.{IsPlaced, AreWaited, AreDelayed, is_for_delay, is_for}
use Rattle.iop_kernel.specs.System.{beginning}

-- no thread waits
none_waits : (t : ℕ) → wait_of opening t ≡ None
none_waits t =
    cond_both (LOADER == t) (Some (dormant_thread LOADER loader_param LOADER_STACK 0)) None
    (λ o. option_and_then (λ t. wait_in t.state) o ≡ None) (λ loader. refl) (λ other. refl)

-- and no object is waited for
none_waited : (kind : Kind) → AreWaited kind no_objects opening
none_waited kind = record {
  waiters = λ id t. sym (ap (λ w. one_if (is_for kind id w)) (none_waits t));
  priorities = λ id k d below. absurd (omega (arith, below));
  sound = keep_apart.opening;
}

-- and no delay stands
none_delayed : AreDelayed no_timers opening
none_delayed = record {
  delays = λ t. sym (ap (λ w. one_if (is_for_delay w)) (none_waits t));
  kept = record {
    next = omega arith;
    few_alarms = omega arith;
    few_delays = omega arith;
    alarms = λ k d below. absurd (omega (arith, below));
    delays = λ k d below. absurd (omega (arith, below));
    alarms_differ = λ i j d less below. absurd (omega (arith, less, below));
    delays_differ = λ i j d less below. absurd (omega (arith, less, below));
    apart = λ k d below. absurd (omega (arith, below));
  };
  room = omega arith;
}

-- all is placed
pub opening_placed : IsPlaced beginning
opening_placed = record {
  threads = placed_opening;
  objects = elim [
    | Semaphore ↦ none_waited Semaphore
    | EventFlag ↦ none_waited EventFlag
    | Mailbox ↦ none_waited Mailbox
    | VariablePool ↦ none_waited VariablePool
    | FixedPool ↦ none_waited FixedPool
  ];
  delays = none_delayed;
}
