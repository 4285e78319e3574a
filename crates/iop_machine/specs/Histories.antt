-- The history of a run: the calls of services that its steps make.
use Rattle.std.specs.Prelude.{ℕ, zero, suc, Bool, true, false, Option, None, option_to_list, List, [], ◌++◌}
use Rattle.iop_exec.specs.Row.{Row, Serves, row}
use Rattle.iop_kernel_laws.specs.Histories.{Called, called}
use Rattle.iop_machine.specs.Iop.{Iop}
use Rattle.iop_machine.specs.Looking.{takes_events}
use Rattle.iop_machine.specs.Services.{calling}
use Rattle.iop_machine.specs.Stepping.{steps, executes}
use Rattle.iop_machine.specs.World.{World}

-- the service that an instruction calls, if it is a call of one
abbrev pub call_at : Iop → Row → Option Called
call_at s (Serves code) = called (calling s) code
call_at s other = None

-- none is called where no instruction is executed
abbrev pub call_by : Iop → (executing : Bool) → Option Called
call_by s true = call_at s (row s.memory.ram s.cpu)
call_by s false = None

-- the service that the next step calls, behind the script's events that are due
unfoldable pub call_in : World → Option Called
call_in w = call_by (takes_events w.iop) (executes w)

-- those that so many steps call, in order
unfoldable pub calls_in : ℕ → World → List Called
calls_in zero w = []
calls_in (suc k) w = calls_in k w ++ option_to_list (call_in (steps k w).state)
