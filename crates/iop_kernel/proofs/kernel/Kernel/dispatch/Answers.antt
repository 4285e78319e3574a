use Rattle.std.proofs.Common.{◌≡◌, true, not, ap, sym, ◌∙◌}
use Rattle.std.specs.Prelude.{is_some}
use Rattle.iop_kernel.specs.Standing.{core}
use Rattle.iop_kernel.specs.System.{may_dispatch}
use Rattle.iop_kernel.proofs.Order.Strict.{both_on, dispatched_some}
use Rattle.iop_kernel.proofs.kernel.Kernel.dispatch.Goals as goal
use Rattle.iop_kernel.proofs.kernel.Kernel.dispatch.Goals.{then-self, else-self, then-self-2, else-self-2}

pub returns-in-Some : goal.returns-in-Some
returns-in-Some g c = λ k h.
    let may : may_dispatch k ≡ true =
    elim c.if-self-2.branch [
      | then-self-2 w ↦
          let none = sym w.value-is ∙ c.if-not-is_none.false in
          let outside = ap (λ o. not (is_some o)) h.holds.handler ∙ ap not w.is_none.ensures
          ∙ ap (λ b. not (not b)) none in
          elim c.if-self.branch [
            | then-self v ↦
                both_on (both_on (h.holds.interrupts ∙ v.if-self.true)
                (h.holds.dispatching ∙ sym v.value-is ∙ w.if-self-2.true)) outside
            | else-self v ↦ cc
          ]
      | else-self-2 w ↦ cc
    ] in
    dispatched_some g.R.Ready.stands (core k c.args.cpu.now) c.args.self.now c.dispatch.new.self
    c.dispatch.new.cpu (g.L.Lines.output c.args.lines.now) (g.L.Lines.output c.line.new.self)
    c.in-Some.id h may (c.in-Some.ensures k.threads h.holds.threads) c.line.ensures
