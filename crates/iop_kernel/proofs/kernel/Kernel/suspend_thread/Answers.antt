use Rattle.std.proofs.Common.{◌≡◌, ◌&&◌, false, not, refl, sym, ◌∙◌}
use Rattle.iop_thread.specs.Operations.{suspends}
use Rattle.iop_thread.specs.ThreadTable.{is_it}
use Rattle.iop_kernel.specs.Standing.{core}
use Rattle.iop_kernel.specs.System.{running_registers}
use Rattle.iop_kernel.proofs.Bodies.Standing.{told, holds_with}
use Rattle.iop_kernel.proofs.kernel.Kernel.suspend_thread.Goals as goal
use Rattle.iop_kernel.proofs.kernel.Kernel.suspend_thread.Goals.{else-is_running-via-then-is_running+else-not-self, else-is_running-via-else-is_running}

pub returns : goal.returns
returns g c = λ k h.
    let id = c.args.id in
    let runs = sym (c.is_running.ensures k h) in
    let may : (is_it k.threads.running id && not k.dispatching) ≡ false =
    elim c.else-is_running.branch [
      | else-is_running-via-then-is_running+else-not-self w ↦
          let on = h.dispatching ∙ w.if-not-self.false in rw (runs ∙ w.if-is_running.true, on) refl
      | else-is_running-via-else-is_running w ↦ rw (runs ∙ w.if-is_running.false) refl
    ] in
    let did = rw (c.running_registers-registers.ensures k h)
    at (c.suspend-code.ensures k.threads h.threads) in
    rw (
      sym (c.is_nobody_else.ensures k h) ∙ c.if-is_nobody_else.false,
      may,
      told (suspends k.threads id (running_registers (core k c.args.cpu.now))) did.0,
    ) (record {
      answer = c.answer-2.ensures.after;
      kernel = holds_with g.R.Ready.stands h did.1;
      processor = c.answer-2.ensures.processor;
    })
