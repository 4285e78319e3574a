use Rattle.std.proofs.Common.{rules}
use Rattle.iop_kernel.proofs.kernel.Kernel.remove.Goals as goal

pub delete-requires : goal.delete-requires
delete-requires g c = rw c.in-Semaphore.is at c.requires

pub returns-in-Semaphore : goal.returns-in-Semaphore
returns-in-Semaphore g c = rw c.in-Semaphore.is (search rules)

pub delete-requires-in-EventFlag : goal.delete-requires-in-EventFlag
delete-requires-in-EventFlag g c = rw c.in-EventFlag.is at c.requires

pub returns-in-EventFlag : goal.returns-in-EventFlag
returns-in-EventFlag g c = rw c.in-EventFlag.is (search rules)

pub delete-requires-in-Mailbox : goal.delete-requires-in-Mailbox
delete-requires-in-Mailbox g c = rw c.in-Mailbox.is at c.requires

pub returns-in-Mailbox : goal.returns-in-Mailbox
returns-in-Mailbox g c = rw c.in-Mailbox.is (search rules)

pub delete-requires-in-VariablePool : goal.delete-requires-in-VariablePool
delete-requires-in-VariablePool g c = rw c.in-VariablePool.is at c.requires

pub returns-in-VariablePool : goal.returns-in-VariablePool
returns-in-VariablePool g c = rw c.in-VariablePool.is (search rules)

pub delete-requires-in-FixedPool : goal.delete-requires-in-FixedPool
delete-requires-in-FixedPool g c = rw c.in-FixedPool.is at c.requires

pub returns-in-FixedPool : goal.returns-in-FixedPool
returns-in-FixedPool g c = rw c.in-FixedPool.is (search rules)
