use Rattle.std.proofs.Common.{◌≡◌, ℕ, Bool, drop}
use Rattle.std.specs.List.{list_all}
use Rattle.iop_saved_checks.specs.Objects.{object_agrees}
use Rattle.iop_saved_checks.proofs.objects.objects_agree.Given as goal
use Rattle.iop_thread.specs.Standing.{Stands}
use Rattle.iop_thread.specs.ThreadTable.{ThreadTable}

abbrev pub invariant-loop-place : goal.invariant-loop-place
invariant-loop-place g l =
    (s : ThreadTable) → Stands g.R.Ready.stands l.threads s
    → let p : ℕ → Bool = λ id.
    object_agrees s g.T.Waited.kind (g.T.Waited.has_place l.guest)
    (g.T.Waited.waiters l.table id) (g.T.Waited.is_idle l.table id) id in
    list_all p (drop l.place (g.T.Waited.ids l.table)) ≡ list_all p (g.T.Waited.ids l.table)
