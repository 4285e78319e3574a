-- What holds after each service of sysclib: each makes one store at most.
use Rattle.std.proofs.Common.{ℕ, Option, Some, None, List, [], length}
use Rattle.iop_base.specs.Piece.{Piece}
use Rattle.iop_services.specs.declared.sysclib_service.SysclibService.{SysclibService}
use Rattle.iop_stubs.specs.Stubs.{range_place}
use Rattle.iop_sysclib.specs.Calls as sysclib
use Rattle.iop_sysclib.specs.Outcomes.{Outcome, Write, after_write, write_lines}
use Rattle.iop_kernel.specs.Serving.{serves_outcome, serves_sysclib}
use Rattle.iop_kernel.specs.System.{System, answered}
use Rattle.iop_kernel.specs.declared.after.After.{After}
use Rattle.iop_kernel.specs.declared.after.After.TheVariants.{Resume}
use Rattle.iop_kernel.proofs.Keeping.Memory.{range_inside}
use Rattle.iop_kernel.proofs.Walk.Moves.{EachMoves, Ends}
use Rattle.iop_kernel.proofs.Walk.Stores.{stored}

module _ {P : System → List Piece → Type 0} {Q : After → System → List Piece → Type 0}
    {Asks : Type 0} {s : System} (e : EachMoves P Q Asks s) where
  -- by what is written
  writes_goes : (word : ℕ) (write : Option Write)
      → Q Resume (record s { core = answered s.core word; memory = after_write s.memory write })
      (write_lines s.core.kernel.clock s.memory write)
  writes_goes word None = e.goes_on _ _ word e.begins
  writes_goes word (Some write) =
      let place = range_place s.memory write.at (length write.bytes) in
      e.goes_on _ _ word (stored e s [] place write.bytes
      (range_inside s.memory write.at (length write.bytes)) e.begins)

  -- by the outcome
  outcome_goes : (outcome : Option Outcome) → Ends Q (serves_outcome s outcome)
  outcome_goes None = e.bad_place
  outcome_goes (Some outcome) = writes_goes outcome.answer outcome.write

  pub sysclib_goes : (x : SysclibService) → Ends Q (serves_sysclib s x)
  sysclib_goes x = outcome_goes (sysclib.serves_sysclib s.memory.ram s.core.cpu x)
