use Rattle.iop_kernel.specs.Standing.{Holds, board}
use Rattle.iop_kernel.specs.System.{Kernel}
use Rattle.iop_kernel.proofs.Bodies.Meetings.{IsMeeting, count_met}
use Rattle.iop_kernel.proofs.kernel.Kernel.set_event_flag.Given as goal

abbrev pub invariant-loop-met : goal.invariant-loop-met
invariant-loop-met g l =
    (k : Kernel) → Holds g.R.Ready.stands l.fn.self k
    → IsMeeting g.R.Ready.stands (board k l.fn.cpu l.fn.guest) l.id l.bits l.self l.guest
    (g.L.Lines.output l.fn.lines) (g.L.Lines.output l.lines)

abbrev pub decreases-loop-met : goal.decreases-loop-met
decreases-loop-met g l = count_met l.self.event_flags l.id
