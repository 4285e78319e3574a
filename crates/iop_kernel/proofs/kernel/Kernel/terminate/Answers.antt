use Rattle.std.proofs.Common.{sym, ◌∙◌}
use Rattle.iop_thread.specs.Operations.{terminates}
use Rattle.iop_kernel.proofs.Bodies.Standing.{told, holds_with}
use Rattle.iop_kernel.proofs.kernel.Kernel.terminate.Goals as goal
use Rattle.iop_kernel.proofs.kernel.Kernel.terminate.Goals.{then-ran, else-ran}

pub returns-after-ran : goal.returns-after-ran
returns-after-ran g c = λ k h.
    let did = c.in-Ok.ensures k.threads h.threads in
    let ok = told (terminates k.threads c.args.id) did.0 in
    let ran = sym (c.is_running-ran.ensures k h) in
    let ended = holds_with g.R.Ready.stands h did.1 in
    elim c.if-ran.branch [
      | then-ran w ↦ rw (ok, ran ∙ w.if-ran.true) (record {
        answer = c.answer.ensures.after;
        kernel = c.leave_object.ensures _ (rw w.self-is (w.open.ensures _ ended));
        processor = c.answer.ensures.processor;
      })
      | else-ran w ↦ rw (ok, ran ∙ w.if-ran.false) (record {
        answer = c.answer.ensures.after;
        kernel = c.leave_object.ensures _ (rw w.self-is ended);
        processor = c.answer.ensures.processor;
      })
    ]
