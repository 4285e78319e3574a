use Rattle.iop_snapshot.specs.Writing.{place_of}
use Rattle.iop_snapshot.proofs.Saving.{saved_none, saved_more, saved_short, saved_all}
use Rattle.iop_snapshot.proofs.save.save_items.Goals as goal

pub loop-init : goal.loop-init
loop-init g c =
    λ xs h.
    saved_none g.I.SaveItems.form xs (g.I.SaveItems.ahead c.args.items.now) c.args.count _ h
    (c.requires.counted xs h)

pub returns-in_err-save_next-clause-written : goal.returns-in_err-save_next-clause-written
returns-in_err-save_next-clause-written g c =
    λ xs h.
    saved_short g.I.SaveItems.form xs (g.I.SaveItems.ahead c.loop.items) c.args.count
    c.loop.counter _ (place_of g.S.Sink.told c.loop.encoder) _ c.from_residual.result
    c.in_err-save_next.field-0.0 c.loop-test.true c.from_residual.ensures.0
    (c.loop.invariant xs h) c.in_err-save_next.ensures.written

pub loop-preserved : goal.loop-preserved
loop-preserved g c =
    λ xs h.
    saved_more g.I.SaveItems.form xs (g.I.SaveItems.ahead c.loop.items)
    (g.I.SaveItems.ahead c.save_next.new.self) c.args.count c.loop.counter _
    (place_of g.S.Sink.told c.loop.encoder) _ c.in_ok-save_next.field-0 c.loop-test.true
    (c.loop.invariant xs h) c.in_ok-save_next.ensures.written c.in_ok-save_next.ensures.next

pub returns-clause-written : goal.returns-clause-written
returns-clause-written g c =
    λ xs h.
    (saved_all g.I.SaveItems.form xs (g.I.SaveItems.ahead c.loop.items) c.args.count
    c.loop.counter _ _ c.loop-test.false (c.loop.invariant xs h)).0

pub returns-clause-fits : goal.returns-clause-fits
returns-clause-fits g c =
    λ xs h.
    (saved_all g.I.SaveItems.form xs (g.I.SaveItems.ahead c.loop.items) c.args.count
    c.loop.counter _ _ c.loop-test.false (c.loop.invariant xs h)).1
