use Rattle.std.proofs.Common.{◌<◌, ◌≤◌, sym, arith, map}
use Rattle.std.proofs.lemmas.List.Elements.{All-weaker}
use Rattle.iop_ready.specs.Priorities.{IsPriority}
use Rattle.iop_ready.specs.declared.priority.TheConstants.{LOWEST_PRIORITY}
use Rattle.iop_thread.specs.Standing.{entry_in}
use Rattle.iop_thread.specs.ThreadTable.{priority_of}
use Rattle.iop_thread.proofs.MappedLists.{All-mapped}
use Rattle.iop_thread.proofs.SortedLists.{none_greater, some_greater}
use Rattle.iop_thread.proofs.restored_threads.RestoredThreads.is_none_worse.Goals as goal

pub returns-then-is_ready_at : goal.returns-then-is_ready_at
returns-then-is_ready_at g c = λ s r.
    let worse : c.args.thread.now.priority < c.new.result =
    omega (arith, c.loop-better.invariant.0, c.new.ensures) in
    sym (some_greater (priority_of s.live) c.args.thread.now.priority c.new.result s.ready worse
    (sym (c.if-is_ready_at.ensures s r)))

pub returns : goal.returns
returns g c = λ s r.
    let entry = entry_in r.place s.live in
    let sound = g.met.R.Ready.stands_sound c.args.self.now.threads.ready (map entry s.ready)
    r.holds.ready in
    sym (none_greater (priority_of s.live) c.args.thread.now.priority LOWEST_PRIORITY s.ready
    (All-weaker (λ id. IsPriority (priority_of s.live id))
    (λ id. priority_of s.live id ≤ LOWEST_PRIORITY) (λ id is. is.1) s.ready
    (All-mapped (λ e. IsPriority e.priority) entry s.ready sound.priorities))
    (λ worse less inside. c.loop-better.invariant.1 s r worse less
    (omega (arith, inside, c.loop-better-test.false))))
