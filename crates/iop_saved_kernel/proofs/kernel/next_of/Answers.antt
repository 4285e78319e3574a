use Rattle.std.proofs.Common.{ap, sym, ◌∙◌}
use Rattle.iop_saved_kernel.proofs.kernel.next_of.Goals as goal

pub returns : goal.returns
returns g c k h =
    λ i. record {
      thread = c.next_id.ensures k.threads h.threads i;
      semaphore = (c.next_id-2.ensures ∙ ap (λ t. t.next) (sym h.semaphores)) i;
      event_flag = (c.next_id-3.ensures ∙ ap (λ t. t.next) (sym h.event_flags)) i;
      mailbox = (c.next_id-4.ensures ∙ ap (λ t. t.next) (sym h.mailboxes)) i;
      variable_pool = (c.next_id-5.ensures ∙ ap (λ t. t.next) (sym h.variable_pools)) i;
      fixed_pool = (c.next_id-6.ensures ∙ ap (λ t. t.next) (sym h.fixed_pools)) i;
      timer = (c.next_number.ensures.number ∙ ap (λ t. t.next) (sym h.timers)) i;
    }
