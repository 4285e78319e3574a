use Rattle.std.proofs.Common.{sym}
use Rattle.iop_kernel.proofs.Bodies.Standing.{over, holds_semaphores, holds_flags, holds_mailboxes, holds_variable, holds_fixed}
use Rattle.iop_kernel.proofs.kernel.Kernel.requeue_waiter.Goals as goal

pub returns-in-Semaphore : goal.returns-in-Semaphore
returns-in-Semaphore g c = rw c.in-Semaphore.is (over g.R.Ready.stands _ (λ t h.
    holds_semaphores g.R.Ready.stands h (sym c.requeue.ensures)))

pub returns-in-EventFlag : goal.returns-in-EventFlag
returns-in-EventFlag g c = rw c.in-EventFlag.is (over g.R.Ready.stands _ (λ t h.
    holds_flags g.R.Ready.stands h (sym c.requeue-in-EventFlag.ensures)))

pub returns-in-Mailbox : goal.returns-in-Mailbox
returns-in-Mailbox g c = rw c.in-Mailbox.is (over g.R.Ready.stands _ (λ t h.
    holds_mailboxes g.R.Ready.stands h (sym c.requeue-in-Mailbox.ensures)))

pub returns-in-VariablePool : goal.returns-in-VariablePool
returns-in-VariablePool g c = rw c.in-VariablePool.is (over g.R.Ready.stands _ (λ t h.
    holds_variable g.R.Ready.stands h (sym c.requeue-in-VariablePool.ensures)))

pub returns-in-FixedPool : goal.returns-in-FixedPool
returns-in-FixedPool g c = rw c.in-FixedPool.is (over g.R.Ready.stands _ (λ t h.
    holds_fixed g.R.Ready.stands h (sym c.requeue-in-FixedPool.ensures)))
