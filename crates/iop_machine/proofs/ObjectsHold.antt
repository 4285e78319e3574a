-- What holds of the objects of each kind holds after a step, if it does after each service.
use Rattle.std.proofs.Common.{◌≡◌, ℕ, Option, sym, subst}
use Rattle.iop_kernel_laws.specs.Histories.{Called}
use Rattle.iop_kernel.specs.Kinds.{Table, table}
use Rattle.iop_kernel.specs.Serving.{services}
use Rattle.iop_kernel.specs.System.{Kernel}
use Rattle.iop_thread.specs.declared.kind.Kind.{Kind}
use Rattle.iop_machine.specs.Iop.{Iop}
use Rattle.iop_machine.specs.Looking.{takes_events}
use Rattle.iop_machine.specs.Services.{calling}
use Rattle.iop_machine.proofs.ObjectSteps.{AllObjects, objects, objects_in, ObjectsGo, stay, served, taken_objects}

module _ (R : (kind : Kind) → Table kind → Type 0) where
  abbrev HoldsIn : Kernel → Type 0
  HoldsIn k = (kind : Kind) → R kind (table kind k)

  -- it holds where the objects are the same
  holds_as : (k l : Kernel) → objects l ≡ objects k → HoldsIn k → HoldsIn l
  holds_as k l same holds kind =
      subst (λ (all : AllObjects). R kind (objects_in kind all)) (sym same) (holds kind)

  module _ (s : Iop) (new : Kernel) (holds : HoldsIn s.kernel) where
    -- where a service begins
    pub calling_holds : HoldsIn (calling (takes_events s)).core.kernel
    calling_holds = holds_as s.kernel (takes_events s).kernel (taken_objects s) holds

    pub go_holding : {call : Option Called} → ObjectsGo s new call
        → ((code : ℕ) → HoldsIn (services (calling (takes_events s)) code).left.state.core.kernel)
        → HoldsIn new
    go_holding (stay same) after = holds_as s.kernel new same holds
    go_holding (served code core same) after =
        holds_as (services (calling (takes_events s)) code).left.state.core.kernel new same
        (after code)
