-- What a call answers that reads values and puts them back.
use Rattle.std.proofs.Common.{◌≡◌, ℕ, Option, Some, Result, Ok, Err, List, refl, sym, subst}
use Rattle.iop_snapshot.specs.Forms.{Form}
use Rattle.iop_snapshot.specs.Putting.{put_all, PutsAll}
use Rattle.iop_snapshot.specs.Reading.{GivesNone}
use Rattle.iop_snapshot.specs.declared.fault.SnapFault.{SnapFault}
use Rattle.iop_saved_objects.specs.Lists.{list_of}
use Rattle.iop_saved_kernel.specs.Restoring.{that_go_back, IsBack, Restores}
use Rattle.iop_saved_kernel.proofs.Stages.{back_both, form_both, second_fails, both_back, seen_whole, seen_fails, seen_back, list_fails, list_back}

-- where a fault returns, which said that none can be
pub exits : {X S Y : Type 0} (form : Form X) (back : X → Option S) (stands_for : Y → S → Type 0)
    (result : Result Y SnapFault) (given fault : SnapFault) (before rest : List ℕ)
    → given ≡ fault → result ≡ Err given
    → GivesNone ((that_go_back form back).read before) fault
    → Restores form back stands_for result before rest
exits form back stands_for result given fault before rest same is none =
    rw is (subst (GivesNone ((that_go_back form back).read before)) (sym same) none)

-- a list that was put back into a table that is this one
pub list_restores : {T X : Type 0} (put : T → X → Option T) (form : Form X) (table old : T)
    → old ≡ table → (result : Result T SnapFault) (before rest : List ℕ)
    → PutsAll put form old result before rest
    → Restores (list_of form) (put_all put table) (λ made state. state ≡ made) result before rest
list_restores put form table old same (Ok made) before rest h = (
  h.0,
  made,
  refl,
  list_back put form table old same h.0 made before rest h.1 h.2,
)
list_restores put form table old same (Err fault) before rest h =
    list_fails put form table old same before fault h

-- a value behind another
pub second_restores : {X Y S T M : Type 0} (form : Form X) (next : Form Y) (back : X → Option S)
    (more : X → S → Y → Option T) (stands_for : M → T → Type 0) (x : X) (s : S)
    (before middle rest : List ℕ) → IsBack form back x s before middle
    → (result : Result M SnapFault)
    → Restores next (more x s) stands_for result middle rest
    → Restores (form_both form next back more) (back_both form next back more) stands_for result
    before rest
second_restores form next back more stands_for x s before middle rest first (Ok made) h = (
  (x, h.0),
  h.1,
  h.2,
  both_back form next back more x s before middle first h.0 h.1 rest h.3,
)
second_restores form next back more stands_for x s before middle rest first (Err fault) h =
    second_fails form next back more x s before middle first fault h

-- values that are seen as one of another type
pub seen_restores : {X Y T M : Type 0} (form : Form X) (with_parts : X → Y) (parts : Y → X)
    (back : Y → Option T) (stands_for : M → T → Type 0) (result : Result M SnapFault)
    (before rest : List ℕ)
    → Restores form (λ x. back (with_parts x)) stands_for result before rest
    → Restores (seen_whole form with_parts parts back) back stands_for result before rest
seen_restores form with_parts parts back stands_for (Ok made) before rest h = (
  with_parts h.0,
  h.1,
  h.2,
  seen_back form with_parts parts back h.0 h.1 before rest h.3,
)
seen_restores form with_parts parts back stands_for (Err fault) before rest h =
    seen_fails form with_parts parts back before fault h
