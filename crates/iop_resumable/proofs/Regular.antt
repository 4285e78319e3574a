-- A kernel stays as it can be put back, and that suffices to put it back.
use Rattle.std.proofs.Common.{◌≡◌, ℕ, false, Option, Some, None, List, [], All, arith}
use Rattle.std.specs.Prelude.{is_some, ◌||◌, IfSome}
use Rattle.std.proofs.lemmas.Bool.Decides.{nat_tests}
use Rattle.std.proofs.lemmas.List.Elements.{All-nil, All-cons}
use Rattle.iop_kernel.specs.Registers.{nobodys}
use Rattle.iop_kernel.specs.Serving.{services}
use Rattle.iop_kernel.specs.System.{Core, beginning}
use Rattle.iop_kernel.specs.declared.active_handler.ActiveHandler.{ActiveHandler}
use Rattle.iop_kernel.proofs.Placing.Opening.{opening_placed}
use Rattle.iop_objects.proofs.EachLeft.{each_of_none}
use Rattle.iop_saved_kernel.specs.Executing.{cause_in}
use Rattle.iop_saved_kernel.specs.Laws.{IsReadableThread}
use Rattle.iop_thread.specs.declared.kind.Kind.TheVariants.{Semaphore, EventFlag, Mailbox, VariablePool, FixedPool}
use Rattle.iop_thread.specs.declared.thread.Thread.{Thread}
use Rattle.iop_resumable.specs.Laws.{CoresCanBeBack, BeginningIsRegular, ServicesStayRegular}
use Rattle.iop_resumable.specs.Regular.{StandsStill}
use Rattle.iop_resumable.proofs.Kept.{HoldsOf}
use Rattle.iop_resumable.proofs.KeptMoves.{services_hold}
use Rattle.iop_resumable.proofs.KeptRegisters.{Kept}
use Rattle.iop_resumable.proofs.Objects.{objects_can_stand, objects_stay_regular}
use Rattle.iop_resumable.proofs.SomePriorities.{HasPriorities, HavePriorities, stays, made_some}
use Rattle.iop_resumable.proofs.Sound.{Sound}
use Rattle.iop_resumable.proofs.Standing.{Stands}
use Rattle.iop_resumable.proofs.ThreadsServed.{services_have}
use Rattle.iop_resumable.proofs.Waiting.{wait_by_priority}

-- both parts of what holds of a thread
pub readable : (ts : List Thread) → All (λ t. Kept t.state) ts → All HasPriorities ts
    → All IsReadableThread ts
readable ts kept have n d below =
    let priorities = have n d below in
    record { first = priorities.0; priority = priorities.1; kept = kept n d below }

pub kept_of : (ts : List Thread) → All IsReadableThread ts → All (λ t. Kept t.state) ts
kept_of ts all n d below = (all n d below).kept

pub priorities_of : (ts : List Thread) → All IsReadableThread ts → All HasPriorities ts
priorities_of ts all n d below = ((all n d below).first, (all n d below).priority)

pub holds_of : (c : Core) → StandsStill c → HoldsOf c
holds_of c h = record {
  threads = kept_of c.kernel.threads.live h.regular.threads;
  handler = h.regular.handler;
  cause = h.regular.cause;
  processor = h.cpu;
}

pub services_stay_regular : ServicesStayRegular
services_stay_regular s code serving h =
    let holds = services_hold s (holds_of s.core h) code in
    let some = priorities_of s.core.kernel.threads.live h.regular.threads in
    let have =
    services_have HavePriorities HasPriorities stays s some (made_some s some) code in
    record {
      regular = record {
        objects = objects_stay_regular s code serving h.regular.objects;
        cause = holds.cause;
        threads = readable (services s code).left.state.core.kernel.threads.live holds.threads have;
        handler = holds.handler;
      };
      cpu = holds.processor;
    }

-- at first there is no object
opening_stands : Stands beginning
opening_stands Semaphore = record { each = each_of_none (Sound Semaphore); few = tt }
opening_stands EventFlag = record { each = each_of_none (Sound EventFlag); few = tt }
opening_stands Mailbox = record { each = each_of_none (Sound Mailbox); few = omega arith }
opening_stands VariablePool = record { each = each_of_none (Sound VariablePool); few = tt }
opening_stands FixedPool = record { each = each_of_none (Sound FixedPool); few = tt }

pub beginning_is_regular : BeginningIsRegular
beginning_is_regular cpu h = record {
  regular = record {
    objects = objects_can_stand beginning opening_placed opening_stands;
    cause = tt;
    threads = All-cons IsReadableThread _ [] (record {
      first = (omega arith, omega arith);
      priority = (omega arith, omega arith);
      kept = tt;
    }) (All-nil IsReadableThread);
    handler = tt;
  };
  cpu = h;
}

-- nothing executes where neither a thread nor a handler does
nothing_active : (handler : Option ActiveHandler) (running : Option ℕ)
    → (is_some running || is_some (cause_in handler)) ≡ false
    → (is_some handler || is_some running) ≡ false
nothing_active None running idle = grind (arith, nat_tests, idle)
nothing_active (Some handler) running idle = grind (arith, nat_tests, idle)

-- where no thread runs, a handler keeps registers that nobody has
kept_where : (handler : Option ActiveHandler) (running : Option ℕ)
    → IfSome handler (λ handler. running ≡ None → handler.kept ≡ nobodys) → running ≡ None
    → IfSome handler (λ handler. handler.kept ≡ nobodys)
kept_where None running kept idle = tt
kept_where (Some handler) running kept idle = kept idle

pub cores_can_be_back : CoresCanBeBack
cores_can_be_back = record {
  back = λ c core regular bare few. record {
    tables = record {
      threads = core.placed.threads;
      semaphores = (regular.objects Semaphore, wait_by_priority c.kernel core.placed Semaphore);
      event_flags = (regular.objects EventFlag, wait_by_priority c.kernel core.placed EventFlag);
      mailboxes = (regular.objects Mailbox, wait_by_priority c.kernel core.placed Mailbox);
      variable_pools = (
        regular.objects VariablePool,
        wait_by_priority c.kernel core.placed VariablePool,
      );
      fixed_pools = (regular.objects FixedPool, wait_by_priority c.kernel core.placed FixedPool);
      timers = core.placed.delays.kept;
      numbers = few;
    };
    cause = regular.cause;
    cpu = λ idle. bare.processor (nothing_active c.kernel.handler c.kernel.threads.running idle);
    kept = kept_where c.kernel.handler c.kernel.threads.running bare.kept;
  };
  steady = λ c regular cpu.
      record { cpu = cpu; threads = regular.threads; handler = regular.handler };
}
