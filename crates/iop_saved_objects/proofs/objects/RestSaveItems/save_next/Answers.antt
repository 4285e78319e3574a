use Rattle.iop_saved_objects.proofs.Ahead.{at_front, failed, front_is, none_at, saved_as}
use Rattle.iop_saved_objects.proofs.objects.RestSaveItems.save_next.Goals as goal

pub returns-in_default-clause-written : goal.returns-in_default-clause-written
returns-in_default-clause-written g c =
    let rest = c.args.self.now in
    let saved = g.T.Table.saved rest.table.now in
    λ x xs e. absurd (none_at rest.place saved x xs e c.in_default.ensures)

pub returns-in_default-clause-next : goal.returns-in_default-clause-next
returns-in_default-clause-next g c =
    let rest = c.args.self.now in
    let saved = g.T.Table.saved rest.table.now in
    λ x xs e. absurd (none_at rest.place saved x xs e c.in_default.ensures)

pub returns-in_err-save-clause-written : goal.returns-in_err-save-clause-written
returns-in_err-save-clause-written g c =
    let rest = c.args.self.now in
    let saved = g.T.Table.saved rest.table.now in
    λ x xs e.
    failed c.from_residual.result c.from_residual.ensures.0
    (saved_as c.in_err-save.ensures
    (front_is rest.place saved x _ xs e c.in-Some.ensures)).written

pub returns-clause-written : goal.returns-clause-written
returns-clause-written g c =
    let rest = c.args.self.now in
    let saved = g.T.Table.saved rest.table.now in
    λ x xs e.
    (saved_as c.in_ok-save.ensures
    (front_is rest.place saved x _ xs e c.in-Some.ensures)).written

pub returns-clause-next : goal.returns-clause-next
returns-clause-next g c =
    let rest = c.args.self.now in
    let saved = g.T.Table.saved rest.table.now in
    λ x xs e. (
      (at_front rest.place saved x xs e).1,
      (saved_as c.in_ok-save.ensures
          (front_is rest.place saved x _ xs e c.in-Some.ensures)).fits,
    )
