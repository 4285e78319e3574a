use Rattle.std.proofs.Common.{◌+◌}
use Rattle.iop_base.specs.Numbers.{wrapped}
use Rattle.iop_thread.proofs.FirstRegisters.{begins_with}
use Rattle.iop_machine.specs.Modules.{module_start}
use Rattle.iop_machine.specs.declared.arguments.TheConstants.{ARGUMENTS, LOADER_STACK_TOP, MODULE_RETURN}
use Rattle.iop_machine.proofs.laws.modules_begin_with.Goals as goal

pub returns : goal.returns
unfolding module_start
returns c = λ m words.
    begins_with (wrapped (m.place.base + m.entry)) words ARGUMENTS (wrapped (m.place.base + m.gp))
    LOADER_STACK_TOP MODULE_RETURN
