-- What a call answers, after which its caller goes on: this project's own profile.
use Rattle.iop_base.specs.declared.code.Code.{Code}
use Rattle.iop_thread.specs.ThreadTable.{ThreadTable}
use Rattle.iop_kernel.specs.System.{Core, Left, with_threads, answers, System, Served, silent, on_core}

-- an operation on threads answers a code
abbrev pub leaves_code : Core → Code × ThreadTable → Left Core
leaves_code c (code, threads) = answers (with_threads c threads) code

-- a code is answered, and nothing else changes
abbrev pub only_answers : System → Code → Served
only_answers s code = silent (on_core s (answers s.core code))
