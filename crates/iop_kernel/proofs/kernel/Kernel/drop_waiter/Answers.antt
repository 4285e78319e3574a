use Rattle.std.proofs.Common.{ℕ, ap, sym}
use Rattle.iop_objects.specs.Objects.{drops}
use Rattle.iop_thread.specs.declared.kind.Kind.{Kind}
use Rattle.iop_kernel.specs.Kinds.{table, with_table}
use Rattle.iop_kernel.specs.System.{Kernel}
use Rattle.iop_kernel.proofs.Bodies.Standing.{kernel_of, over, holds_semaphores, holds_flags, holds_mailboxes, holds_variable, holds_fixed}
use Rattle.iop_kernel.proofs.kernel.Kernel.drop_waiter.Goals as goal

-- a thread no longer waits for an object of a kind
abbrev dropped : Kernel → (id thread : ℕ) → Kind → Kernel
dropped k id thread kind = with_table kind k (drops (table kind k) id thread)

pub returns-in-Semaphore : goal.returns-in-Semaphore
returns-in-Semaphore g c = over g.R.Ready.stands _ (λ t h.
    rw (ap (dropped (kernel_of c.args.self.now t) c.args.id c.args.thread) c.in-Semaphore.is)
    (holds_semaphores g.R.Ready.stands h (sym c.drop_waiter.ensures)))

pub returns-in-EventFlag : goal.returns-in-EventFlag
returns-in-EventFlag g c = over g.R.Ready.stands _ (λ t h.
    rw (ap (dropped (kernel_of c.args.self.now t) c.args.id c.args.thread) c.in-EventFlag.is)
    (holds_flags g.R.Ready.stands h (sym c.drop_waiter-in-EventFlag.ensures)))

pub returns-in-Mailbox : goal.returns-in-Mailbox
returns-in-Mailbox g c = over g.R.Ready.stands _ (λ t h.
    rw (ap (dropped (kernel_of c.args.self.now t) c.args.id c.args.thread) c.in-Mailbox.is)
    (holds_mailboxes g.R.Ready.stands h (sym c.drop_waiter-in-Mailbox.ensures)))

pub returns-in-VariablePool : goal.returns-in-VariablePool
returns-in-VariablePool g c = over g.R.Ready.stands _ (λ t h.
    rw (ap (dropped (kernel_of c.args.self.now t) c.args.id c.args.thread) c.in-VariablePool.is)
    (holds_variable g.R.Ready.stands h (sym c.drop_waiter-in-VariablePool.ensures)))

pub returns-in-FixedPool : goal.returns-in-FixedPool
returns-in-FixedPool g c = over g.R.Ready.stands _ (λ t h.
    rw (ap (dropped (kernel_of c.args.self.now t) c.args.id c.args.thread) c.in-FixedPool.is)
    (holds_fixed g.R.Ready.stands h (sym c.drop_waiter-in-FixedPool.ensures)))
