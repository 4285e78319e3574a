use Rattle.std.proofs.Common.{arith}
use Rattle.iop_snapshot.proofs.Saving.{if_ok, list_short, list_whole, list_fits}
use Rattle.iop_snapshot.proofs.save.save_list.Goals as goal

pub returns-in_err-item-clause-written : goal.returns-in_err-item-clause-written
returns-in_err-item-clause-written g c =
    λ xs h.
    list_short g.I.SaveItems.form xs c.args.count _ _ c.from_residual.result
    c.in_err-item.field-0.0 c.from_residual.ensures.0 (c.requires.counted xs h)
    (rw c.from.ensures at c.in_err-item.ensures)

pub returns-clause-written : goal.returns-clause-written
returns-clause-written g c =
    λ xs h.
    list_whole g.I.SaveItems.form xs c.args.count _ _ _ c.save_items.result c.in_ok-item.field-0
    (c.requires.counted xs h) (rw c.from.ensures at c.in_ok-item.ensures)
    (c.save_items.ensures.written xs h)

pub returns-clause-fits : goal.returns-clause-fits
returns-clause-fits g c =
    if_ok c.save_items.result
    (λ fits xs h.
    let few = c.requires.counted xs h in
    list_fits g.I.SaveItems.form xs (omega (arith, few)) (fits xs h))
    c.save_items.ensures.fits
