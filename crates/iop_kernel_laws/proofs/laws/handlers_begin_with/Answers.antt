use Rattle.iop_thread.proofs.FirstRegisters.{begins_with}
use Rattle.iop_kernel.specs.declared.active_handler.TheConstants.{HANDLER_RETURN, HANDLER_STACK}
use Rattle.iop_kernel_laws.proofs.laws.handlers_begin_with.Goals as goal

pub returns : goal.returns
returns c = λ core cause handler.
    begins_with handler.address handler.arg 0 handler.gp HANDLER_STACK HANDLER_RETURN
