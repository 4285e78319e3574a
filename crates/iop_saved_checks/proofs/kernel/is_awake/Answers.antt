use Rattle.std.proofs.Common.{◌∙◌, sym, ap, refl}
use Rattle.std.specs.Prelude.{is_some}
use Rattle.iop_saved_checks.proofs.kernel.is_awake.Goals as goal

pub returns-in-Some : goal.returns-in-Some
returns-in-Some g c k h =
    let some = sym (c.running.ensures k.threads h.threads) ∙ c.in-Some.is in rw some refl

pub returns-else-is_some : goal.returns-else-is_some
returns-else-is_some g c k h =
    let none = sym (c.running.ensures k.threads h.threads) ∙ c.in-None.is in
    let dispatching = h.dispatching ∙ c.if-kernel.true in
    let no_handler = ap is_some h.handler ∙ sym c.is_some.ensures ∙ c.if-is_some.false in
    rw (none, dispatching, no_handler) (sym h.interrupts)

pub returns-else-kernel : goal.returns-else-kernel
returns-else-kernel g c k h =
    let none = sym (c.running.ensures k.threads h.threads) ∙ c.in-None.is in
    let dispatching = h.dispatching ∙ c.if-kernel.false in
    rw (none, dispatching) c.if-kernel.false
