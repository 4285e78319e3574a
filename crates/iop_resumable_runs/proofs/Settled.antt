-- Where a run ended with its budget, the next step executes an instruction, so that no thread is to be
-- dispatched.
use Rattle.std.proofs.Common.{◌≡◌, ℕ, Bool, true, false, Option, Some, None, option_map, refl, ap, sym, ◌∙◌}
use Rattle.iop_base.specs.declared.stop.Stop.{Stop}
use Rattle.iop_base.specs.declared.stop.Stop.TheVariants.{Budget}
use Rattle.iop_kernel.specs.Dispatching.{dispatches}
use Rattle.iop_machine.specs.Iop.{core_of}
use Rattle.iop_machine.specs.Looking.{takes_events}
use Rattle.iop_machine.specs.Stepping.{executes, stops_by, stop_at}
use Rattle.iop_machine.specs.World.{World}
use Rattle.iop_machine.proofs.LinesAside.{dispatches_with}
use Rattle.iop_machine.proofs.Stepping.{executes_booted, executes_so}

pub budget_executes : (w : World) (left : ℕ) → w.iop.over ≡ None → stop_at w left ≡ Some Budget
    → executes w ≡ true
budget_executes w left over stops =
    by (executes w) left (ap (λ (o : Option Stop). stops_by o (executes w) left) (sym over) ∙ stops)
  where
    by : (e : Bool) (left : ℕ) → stops_by None e left ≡ Some Budget → e ≡ true
    by true left stops = refl
    by false left stops = absurd (cc stops)

none_before : {X Y : Type 0} (f : X → Y) (o : Option X) → option_map f o ≡ None → o ≡ None
none_before f None none = refl
none_before f (Some x) none = absurd (cc none)

pub settled : (w : World) → executes w ≡ true → dispatches (core_of w.iop) ≡ None
settled w e =
    none_before _ (dispatches (core_of w.iop))
    (sym (dispatches_with (core_of w.iop) (takes_events w.iop).kernel.irqs)
    ∙ (executes_so w e).looks.dispatch_is)

pub executing_booted : (w : World) → executes w ≡ true → w.is_new ≡ false
executing_booted w e = sym (ap (λ (v : World). v.is_new) (executes_booted w e))
