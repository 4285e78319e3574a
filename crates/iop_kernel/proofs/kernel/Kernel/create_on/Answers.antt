use Rattle.std.proofs.Common.{ℕ, refl, ap, ◌∙◌}
use Rattle.std.proofs.lemmas.List.{length-replicate}
use Rattle.iop_exec.specs.Row.{with_reg}
use Rattle.iop_kernel.specs.System.{result_word}
use Rattle.iop_kernel.proofs.Bodies.Standing.{holds_with}
use Rattle.iop_kernel.proofs.kernel.Kernel.create_on.Goals as goal

pub returns : goal.returns
returns g c = λ k blocks libraries h.
    let told = c.create-made.ensures k.threads h.threads in
    record {
      core = record {
        answer = c.answer_result.ensures.after;
        kernel = holds_with g.R.Ready.stands h told.1;
        processor = c.answer_result.ensures.processor
            ∙ ap (λ r. with_reg c.args.cpu.now 2 (result_word r)) told.0;
      };
      ram = c.fill.ensures.memory;
      map = refl;
      registry = refl;
      gives = rw (h.clock, length-replicate {A = ℕ} c.args.param.stack_size 0xFF)
          c.fill.ensures.lines;
    }
