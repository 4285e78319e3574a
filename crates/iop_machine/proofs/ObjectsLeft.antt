-- What a step leaves of the objects of a kind where it calls no service of their library.
use Rattle.std.proofs.Common.{◌≡◌, false, Option, ap, sym, subst}
use Rattle.iop_kernel_laws.specs.CodeLaws.{calls_kind, KeepsObjects}
use Rattle.iop_kernel_laws.specs.Histories.{Called}
use Rattle.iop_kernel.specs.Kinds.{Table, table}
use Rattle.iop_kernel.specs.Serving.{services}
use Rattle.iop_kernel.specs.System.{Kernel}
use Rattle.iop_kernel_laws.proofs.Codes.Objects.{code_keeps_objects}
use Rattle.iop_kernel_laws.proofs.Placing.ObjectsKept.{same_objects}
use Rattle.iop_thread.specs.declared.kind.Kind.{Kind}
use Rattle.iop_machine.specs.Iop.{Iop}
use Rattle.iop_machine.specs.Looking.{takes_events}
use Rattle.iop_machine.specs.ObjectLaws.{StepsKeepObjects}
use Rattle.iop_machine.specs.Services.{calling}
use Rattle.iop_machine.specs.Stepping.{step}
use Rattle.iop_machine.proofs.ObjectSteps.{objects_in, ObjectsGo, stay, served, taken_objects, step_objects}

module _ (kind : Kind) (s : Iop) (new : Kernel) where
  abbrev old : Table kind
  old = table kind s.kernel

  -- those of the kind, by what the step makes of all
  goes_kept : {call : Option Called} → ObjectsGo s new call → calls_kind kind call ≡ false
      → KeepsObjects old (table kind new)
  goes_kept (stay same) other =
      subst (KeepsObjects old) (sym (ap (objects_in kind) same)) (same_objects old)
  goes_kept (served code core same) other =
      let system = calling (takes_events s) in
      let left = (services system code).left.state.core.kernel in
      subst (KeepsObjects old) (sym (ap (objects_in kind) same))
      (subst (λ (t : Table kind). KeepsObjects t (table kind left))
      (ap (objects_in kind) (taken_objects s)) (code_keeps_objects kind system code other))

pub steps_keep_objects : StepsKeepObjects
steps_keep_objects = λ w kind machine other.
    goes_kept kind w.iop (step w).state.iop.kernel (step_objects w machine.sound.core) other
