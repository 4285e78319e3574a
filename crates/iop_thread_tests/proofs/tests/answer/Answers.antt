-- The threads are sound after each call.
use Rattle.iop_ready.specs.KernelReady.{KernelStands}
use Rattle.iop_thread.specs.Operations.{dispatches}
use Rattle.iop_thread.proofs.ChoosingThreads.{sound_after_dispatch}
use Rattle.iop_thread_tests.proofs.tests.answer.Goals as goal

pub returns-in-Create : goal.returns-in-Create
returns-in-Create c = let (s, h) = c.requires in (_, (c.create.ensures s h).1)

pub returns-in-Delete : goal.returns-in-Delete
returns-in-Delete c = let (s, h) = c.requires in (_, (c.delete.ensures s h).1)

pub returns-in-Start : goal.returns-in-Start
returns-in-Start c = let (s, h) = c.requires in (_, (c.start.ensures s h).1)

pub returns-in-EndRunning : goal.returns-in-EndRunning
returns-in-EndRunning c = let (s, h) = c.requires in (_, c.end_running.ensures s h)

pub returns-in-Change : goal.returns-in-Change
returns-in-Change c = let (s, h) = c.requires in (_, (c.change.ensures s h).1)

pub returns-in-Rotate : goal.returns-in-Rotate
returns-in-Rotate c = let (s, h) = c.requires in (_, c.rotate.ensures s h)

pub returns-in-Wake : goal.returns-in-Wake
returns-in-Wake c = let (s, h) = c.requires in (_, c.wake.ensures s h)

pub returns-in-Terminate : goal.returns-in-Terminate
returns-in-Terminate c = let (s, h) = c.requires in (_, (c.terminate.ensures s h).1)

pub returns-in-Suspend : goal.returns-in-Suspend
returns-in-Suspend c = let (s, h) = c.requires in (_, (c.suspend.ensures s h).1)

pub returns-in-Resume : goal.returns-in-Resume
returns-in-Resume c = let (s, h) = c.requires in (_, (c.resume.ensures s h).1)

pub returns-in-Wakeup : goal.returns-in-Wakeup
returns-in-Wakeup c = let (s, h) = c.requires in (_, (c.wakeup.ensures s h).1)

pub returns-in-CancelWakeups : goal.returns-in-CancelWakeups
returns-in-CancelWakeups c = let (s, h) = c.requires in (_, (c.cancel_wakeups.ensures s h).1)

pub returns-in-Sleep : goal.returns-in-Sleep
returns-in-Sleep c = let (s, h) = c.requires in (_, c.block.ensures s h)

pub returns-in-Dispatch : goal.returns-in-Dispatch
returns-in-Dispatch c =
    let (s, h) = c.requires in
    let cpu = c.args.cpu.now in
    sound_after_dispatch KernelStands s cpu (dispatches s cpu) c.dispatch.result c.dispatch.new.self
    c.dispatch.new.cpu (c.dispatch.ensures s h)
