use Rattle.std.proofs.Common.{◌≡◌, true, false, refl, sym, ◌∙◌}
use Rattle.iop_thread.specs.ThreadTable.{running_thread}
use Rattle.iop_kernel.specs.Standing.{core}
use Rattle.iop_kernel.specs.System.{may_switch}
use Rattle.iop_kernel.proofs.Bodies.Callers.{own_is, rotates_is}
use Rattle.iop_kernel.proofs.Bodies.Standing.{holds_with}
use Rattle.iop_kernel.proofs.kernel.Kernel.rotate_to.Goals as goal
use Rattle.iop_kernel.proofs.kernel.Kernel.rotate_to.Goals.{else-own-via-then-own+else-not-may_switch, else-own-via-else-own, else-own-2-via-then-own-2+else-not-in_handler, else-own-2-via-else-own-2}

pub returns-then-not-in_handler : goal.returns-then-not-in_handler
returns-then-not-in_handler g c = λ k h.
    let priority = c.args.priority in
    let after = c.answer_word-after.ensures in
    let now = holds_with g.R.Ready.stands h
    (rw (c.running_registers-registers.ensures k h, after.processor)
    at (c.rotate.ensures k.threads h.threads)) in
    let own = sym (c.eq-own.ensures ∙ own_is priority (running_thread k.threads)
    c.running_priority.result (c.running_priority.ensures k h)) ∙ c.if-own-2.true in
    let may : may_switch k ≡ true =
    elim c.else-own.branch [
      | else-own-via-then-own+else-not-may_switch w ↦
          sym (w.may_switch.ensures k h) ∙ w.if-not-may_switch.false
      | else-own-via-else-own w ↦ cc
    ] in
    let outside = sym (c.in_handler.ensures _ now) ∙ c.if-not-in_handler.true in
    rw (rotates_is (core k c.args.cpu.now) priority true false own (λ own. may) outside)
    (record { answer = refl; kernel = now; processor = after.processor })

pub returns-else-own-2 : goal.returns-else-own-2
returns-else-own-2 g c = λ k h.
    let start = core k c.args.cpu.now in
    let priority = c.args.priority in
    let after = c.answer_word-after.ensures in
    let now = holds_with g.R.Ready.stands h
    (rw (c.running_registers-registers.ensures k h, after.processor)
    at (c.rotate.ensures k.threads h.threads)) in
    let own = sym (c.eq-own.ensures ∙ own_is priority (running_thread k.threads)
    c.running_priority.result (c.running_priority.ensures k h)) in
    elim c.else-own-2.branch [
      | else-own-2-via-then-own-2+else-not-in_handler w ↦
          let may : may_switch k ≡ true =
          elim c.else-own.branch [
            | else-own-via-then-own+else-not-may_switch v ↦
                sym (v.may_switch.ensures k h) ∙ v.if-not-may_switch.false
            | else-own-via-else-own v ↦ cc
          ] in
          let inside = sym (w.in_handler.ensures _ now) ∙ w.if-not-in_handler.false in
          rw (rotates_is start priority true true (own ∙ w.if-own-2.true) (λ own. may) inside)
          (record { answer = after.after; kernel = now; processor = after.processor })
      | else-own-2-via-else-own-2 w ↦
          rw (rotates_is start priority false _ (own ∙ w.if-own-2.false) (λ own. cc own) refl)
          (record { answer = after.after; kernel = now; processor = after.processor })
    ]
