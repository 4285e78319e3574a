-- What the law of objects says: a step that calls no service of an object's library leaves the
-- objects of its kind, but that it takes threads out of those that wait, or moves them.
use Rattle.std.specs.Prelude.{◌≡◌, false}
use Rattle.iop_kernel_laws.specs.CodeLaws.{calls_kind, KeepsObjects}
use Rattle.iop_kernel.specs.Kinds.{table}
use Rattle.iop_thread.specs.declared.kind.Kind.{Kind}
use Rattle.iop_machine.specs.Histories.{call_in}
use Rattle.iop_machine.specs.Laws.{IsMachine}
use Rattle.iop_machine.specs.Stepping.{step}
use Rattle.iop_machine.specs.World.{World}

abbrev pub StepsKeepObjects : Type 0
StepsKeepObjects =
    (w : World) (kind : Kind) → IsMachine w → calls_kind kind (call_in w) ≡ false
    → KeepsObjects (table kind w.iop.kernel) (table kind (step w).state.iop.kernel)
