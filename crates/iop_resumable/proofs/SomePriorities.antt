-- The priorities of threads are some: what words stand for, and what threads are made with.
use Rattle.std.proofs.Common.{List, All}
use Rattle.std.proofs.lemmas.List.Elements.{All-push}
use Rattle.iop_ready.specs.Priorities.{IsPriority}
use Rattle.iop_thread.specs.declared.thread.Thread.{Thread}
use Rattle.iop_kernel.specs.System.{System}
use Rattle.iop_resumable.proofs.AskedThreads.{CanMake}
use Rattle.iop_resumable.proofs.LiveThreads.{Stays, each_stays}

-- the priority that a thread was made with, and that which it has, are some
abbrev pub HasPriorities : Thread → Type 0
HasPriorities t = IsPriority t.param.priority × IsPriority t.priority

abbrev pub HavePriorities : List Thread → Type 0
HavePriorities = All HasPriorities

pub stays : Stays HavePriorities HasPriorities
stays =
    each_stays HasPriorities (record {
      in_state = λ t state is. is;
      starts = λ t state is. (is.0, is.0);
      wakes_more = λ t is. is;
      wakes_less = λ t wakeups less is. is;
      changes = λ t priority given is. (is.0, given);
    })

-- so are those of a thread that is made
pub made_some : (s : System) → HavePriorities s.core.kernel.threads.live → CanMake HavePriorities s
made_some s all param stack blocks asked is some room =
    All-push HasPriorities s.core.kernel.threads.live _ all (asked.priority, asked.priority)
