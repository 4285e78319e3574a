use Rattle.iop_saved_objects.proofs.Ahead.{short_saved, both_saved}
use Rattle.iop_saved_objects.proofs.parts.WithListPart.save.Goals as goal

pub returns-in_err-save : goal.returns-in_err-save
returns-in_err-save g c =
    short_saved g.H.Part.form g.X.Record.form _ _ c.from_residual.result
    c.from_residual.ensures.0 c.in_err-save.ensures

pub returns : goal.returns
returns g c =
    both_saved g.H.Part.form g.X.Record.form _ _ c.save_items.result c.in_ok-save.field-0
    c.in_ok-save.ensures c.save_items.ensures
