-- The ready list of the kernel, which is `KernelReady` of the program.
use Rattle.std.specs.Prelude.{List}
use Rattle.iop_ready.specs.declared.entry.Entry.{Entry}
use Rattle.iop_ready.specs.Queues.{Queues, Hold}

abbrev pub KernelReady : Type 0
KernelReady = Queues

-- it stands for a list
abbrev pub KernelStands : KernelReady → List Entry → Type 0
KernelStands = Hold
