use Rattle.std.proofs.Common.{◌≡◌, ◌+◌, ◌∙◌, true, ap, sym, nat_le, ◌&&◌, arith}
use Rattle.std.proofs.lemmas.Bool.Decides.{nat_tests}
use Rattle.iop_base.specs.declared.limits.TheConstants.{LAST_ID}
use Rattle.iop_thread.specs.Restoring.{may_be_next}
use Rattle.iop_thread.proofs.PuttingBack.{holds_next, next_placed}
use Rattle.iop_thread.proofs.threads.Threads.put_next.Goals as goal

pub returns-then-not-is_ahead-clause-may : goal.returns-then-not-is_ahead-clause-may
returns-then-not-is_ahead-clause-may g c = λ s h.
    c.if-not-is_ahead.ensures
    ∙ ap (λ n. nat_le n c.args.id && nat_le c.args.id (LAST_ID + 1)) (sym h.holds.next)

pub returns : goal.returns
returns g c = record {
  may = λ s h.
      c.if-not-is_ahead.ensures
      ∙ ap (λ n. nat_le n c.args.id && nat_le c.args.id (LAST_ID + 1)) (sym h.holds.next);
  put = λ s h.
      let may : may_be_next s c.args.id ≡ true =
      grind (arith, nat_tests, c.if-not-is_ahead.ensures, h.holds.next) in
      record {
        place = h.place;
        holds = holds_next g.R.Ready.stands h.place c.args.self.now s h.holds c.args.id;
        placed = next_placed s c.args.id h.placed may;
      };
}
