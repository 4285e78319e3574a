use Rattle.std.proofs.Common.{refl, ap, sym, ◌∙◌}
use Rattle.std.specs.Prelude.{option_map}
use Rattle.iop_kernel.proofs.kernel.Kernel.running_priority.Goals as goal

pub returns-in_err-running : goal.returns-in_err-running
returns-in_err-running g c = λ k h.
    rw (sym (c.running.ensures k.threads h.threads) ∙ c.in_err-running.was)
    c.from_residual.ensures

pub returns-in_err-thread : goal.returns-in_err-thread
returns-in_err-thread g c = λ k h.
    let lives = sym (c.get.ensures k.threads h.threads)
    ∙ ap (option_map (λ t. t.now)) c.in_err-thread.was in
    rw (sym (c.running.ensures k.threads h.threads) ∙ c.in_ok-running.was, lives)
    c.from_residual-in_err-thread.ensures

pub returns : goal.returns
returns g c = λ k h.
    let lives = sym (c.get.ensures k.threads h.threads)
    ∙ ap (option_map (λ t. t.now)) c.in_ok-thread.was in
    rw (sym (c.running.ensures k.threads h.threads) ∙ c.in_ok-running.was, lives) refl
