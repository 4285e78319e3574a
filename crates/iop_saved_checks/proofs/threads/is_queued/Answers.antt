use Rattle.std.proofs.Common.{◌∙◌, ap}
use Rattle.std.specs.Prelude.{◌==◌}
use Rattle.iop_kernel.specs.Waits.{threads_of}
use Rattle.iop_thread.specs.Placing.{times}
use Rattle.iop_saved_checks.proofs.WaiterParts.{walked_of, of_kind}
use Rattle.iop_saved_checks.proofs.threads.is_queued.Goals as goal

pub returns-in-Semaphore : goal.returns-in-Semaphore
returns-in-Semaphore g c k h =
    of_kind k c.args.thread c.args.id c.in-Semaphore.is (c.is_once.ensures
    ∙ ap (λ ws. times c.args.thread (threads_of ws) == 1)
    (walked_of c.args.id h.semaphores c.walk.ensures))

pub returns-in-EventFlag : goal.returns-in-EventFlag
returns-in-EventFlag g c k h =
    of_kind k c.args.thread c.args.id c.in-EventFlag.is (c.is_once-in-EventFlag.ensures
    ∙ ap (λ ws. times c.args.thread (threads_of ws) == 1)
    (walked_of c.args.id h.event_flags c.walk-in-EventFlag.ensures))

pub returns-in-Mailbox : goal.returns-in-Mailbox
returns-in-Mailbox g c k h =
    of_kind k c.args.thread c.args.id c.in-Mailbox.is (c.is_once-in-Mailbox.ensures
    ∙ ap (λ ws. times c.args.thread (threads_of ws) == 1)
    (walked_of c.args.id h.mailboxes c.walk-in-Mailbox.ensures))

pub returns-in-VariablePool : goal.returns-in-VariablePool
returns-in-VariablePool g c k h =
    of_kind k c.args.thread c.args.id c.in-VariablePool.is (c.is_once-in-VariablePool.ensures
    ∙ ap (λ ws. times c.args.thread (threads_of ws) == 1)
    (walked_of c.args.id h.variable_pools c.walk-in-VariablePool.ensures))

pub returns-in-FixedPool : goal.returns-in-FixedPool
returns-in-FixedPool g c k h =
    of_kind k c.args.thread c.args.id c.in-FixedPool.is (c.is_once-in-FixedPool.ensures
    ∙ ap (λ ws. times c.args.thread (threads_of ws) == 1)
    (walked_of c.args.id h.fixed_pools c.walk-in-FixedPool.ensures))
