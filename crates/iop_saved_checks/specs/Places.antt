-- Whether a thread that waits has a place in memory for what it is told: this project's own
-- profile.
use Rattle.std.specs.Prelude.{Bool, true, is_some}
use Rattle.iop_kernel.specs.Boards.{optional_place}
use Rattle.iop_kernel.specs.Kinds.{Wants}
use Rattle.iop_kernel.specs.System.{words_place}
use Rattle.iop_stubs.specs.Stubs.{Memory}
use Rattle.iop_thread.specs.declared.kind.Kind.{Kind}
use Rattle.iop_thread.specs.declared.kind.Kind.TheVariants.{Semaphore, EventFlag, Mailbox, VariablePool, FixedPool}

-- a pattern is written to a word of RAM, unless the address is 0, and a message always
abbrev pub has_place : (kind : Kind) → Memory → Wants kind → Bool
has_place Semaphore memory wants = true
has_place EventFlag memory wants = is_some (optional_place memory wants.place)
has_place Mailbox memory at = is_some (words_place memory at 1)
has_place VariablePool memory size = true
has_place FixedPool memory wants = true
