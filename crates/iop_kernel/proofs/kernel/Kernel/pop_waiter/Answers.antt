use Rattle.std.proofs.Common.{rules}
use Rattle.iop_kernel.proofs.kernel.Kernel.pop_waiter.Goals as goal

pub returns-in-Semaphore : goal.returns-in-Semaphore
returns-in-Semaphore g c = rw c.in-Semaphore.is (search rules)

pub returns-in-EventFlag : goal.returns-in-EventFlag
returns-in-EventFlag g c = rw c.in-EventFlag.is (search rules)

pub returns-in-Mailbox : goal.returns-in-Mailbox
returns-in-Mailbox g c = rw c.in-Mailbox.is (search rules)

pub returns-in-VariablePool : goal.returns-in-VariablePool
returns-in-VariablePool g c = rw c.in-VariablePool.is (search rules)

pub returns-in-FixedPool : goal.returns-in-FixedPool
returns-in-FixedPool g c = rw c.in-FixedPool.is (search rules)
