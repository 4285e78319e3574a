use Rattle.std.proofs.Common.{◌≡◌, ⊎_elim, sym, arith}
use Rattle.std.proofs.lemmas.Bool.{cases_lt}
use Rattle.iop_thread.proofs.IdOrder.{own_ids}
use Rattle.iop_thread.proofs.ListedThreads.{all_are, not_all}
use Rattle.iop_thread.proofs.restored_threads.RestoredThreads.are_listed.Goals as goal

pub returns-then-not-is_listed : goal.returns-then-not-is_listed
returns-then-not-is_listed g c = λ s r.
    sym (not_all g.R.Ready.stands r.place c.args.self.now.threads s r.holds c.new.result
    (sym (c.if-not-is_listed.ensures s r)))

pub loop-place-preserved : goal.loop-place-preserved
loop-place-preserved g c = λ s r slot below.
    ⊎_elim
    (λ less. c.loop-place.invariant s r slot less)
    (λ last. let same : slot ≡ c.new.result = omega (arith, below, last, c.new.ensures) in
    rw same (sym (c.if-not-is_listed.ensures s r)))
    (cases_lt slot c.loop-place.place)

pub returns : goal.returns
returns g c = λ s r.
    sym (all_are g.R.Ready.stands r.place c.args.self.now.threads s r.holds
    (own_ids s.live s.next r.placed.ids)
    (λ slot below.
    c.loop-place.invariant s r slot (omega (arith, below, c.loop-place-test.false))))
