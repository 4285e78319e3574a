use Rattle.std.proofs.Common.{◌≡◌, ap, sym, ◌∙◌}
use Rattle.std.specs.Prelude.{option_map}
use Rattle.iop_saved_threads.proofs.ThreadsInOrder.{written_as, failed_as, rising, next_is, rest_above}
use Rattle.iop_saved_threads.proofs.table.ThreadsLeftSaveItemsThread.save_next.Goals as goal

pub returns-in_default-clause-written : goal.returns-in_default-clause-written
returns-in_default-clause-written g c x xs (s, h, e) =
    absurd (cc (sym (ap (option_map (λ t. t.now)) c.in_default.is)
    ∙ next_is h c.args.self.now.written x xs _ (c.next_above.ensures s h) e))

pub returns-in_default-clause-next : goal.returns-in_default-clause-next
returns-in_default-clause-next g c x xs (s, h, e) =
    absurd (cc (sym (ap (option_map (λ t. t.now)) c.in_default.is)
    ∙ next_is h c.args.self.now.written x xs _ (c.next_above.ensures s h) e))

pub returns-in_err-save_thread-clause-written : goal.returns-in_err-save_thread-clause-written
returns-in_err-save_thread-clause-written g c x xs (s, h, e) =
    let is = sym (ap (option_map (λ t. t.now)) c.in-Some.is)
    ∙ next_is h c.args.self.now.written x xs _ (c.next_above.ensures s h) e in
    failed_as c.from_residual.result (cc is) c.from_residual.ensures.0 c.in_err-save_thread.ensures.written

pub returns-clause-written : goal.returns-clause-written
returns-clause-written g c x xs (s, h, e) =
    let is = sym (ap (option_map (λ t. t.now)) c.in-Some.is)
    ∙ next_is h c.args.self.now.written x xs _ (c.next_above.ensures s h) e in
    written_as (cc is) c.in_ok-save_thread.ensures.written

pub returns-clause-next : goal.returns-clause-next
returns-clause-next g c x xs (s, h, e) =
    let is = sym (ap (option_map (λ t. t.now)) c.in-Some.is)
    ∙ next_is h c.args.self.now.written x xs _ (c.next_above.ensures s h) e in
    let same : c.in-Some.thread.now ≡ x = cc is in
    let rest = (rest_above c.args.self.now.written s.live x xs (rising h) e).0 in (
      (s, h, rw same rest),
      rw (← same) c.in_ok-save_thread.ensures.fits,
    )
