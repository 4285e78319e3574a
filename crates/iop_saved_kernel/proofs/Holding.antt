-- A kernel of the program that is put together from what was put back holds it.
use Rattle.std.proofs.Common.{◌≡◌, ℕ, ◌<◌, true, Option, Some, None, List, refl, arith}
use Rattle.std.specs.Prelude.{IfSome, option_map, nat_lt}
use Rattle.iop_exec.specs.declared.cpu.Cpu.{Cpu}
use Rattle.iop_intr.specs.declared.irqs.TheConstants.{IRQ_LINES}
use Rattle.iop_kernel.specs.Standing.{IsCause}
use Rattle.iop_kernel.specs.declared.active_handler.Cause.{Cause}
use Rattle.iop_kernel.specs.declared.active_handler.Cause.TheVariants.{Line, Alarm}
use Rattle.std.proofs.lemmas.Bool.{and_parts}
use Rattle.std.proofs.lemmas.Bool.Decides.{nat_tests}
use Rattle.iop_saved_kernel.specs.Executing.{handler_of, handler_with}
use Rattle.iop_saved_kernel.specs.Heads.{has_id, is_cause, is_head}
use Rattle.iop_saved_kernel.specs.declared.executing.Executing.{Executing}

-- a handler that was begun for a line was begun for one of the lines
pub cause_holds : (e : Executing) → is_head e.head ≡ true
    → IfSome (handler_of e) (λ handler. IsCause handler.cause)
cause_holds e is =
    by e.head.cause (and_parts (has_id e.head.running) (is_cause e.head.cause) is).1
  where
    by : (cause : Option Cause) → is_cause cause ≡ true
        → IfSome (option_map (handler_with e.kept) cause) (λ handler. IsCause handler.cause)
    by None h = tt
    by (Some (Line line)) h = grind (arith, nat_tests, h)
    by (Some (Alarm number)) h = tt
