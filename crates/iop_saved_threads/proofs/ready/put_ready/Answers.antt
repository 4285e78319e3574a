use Rattle.std.proofs.Common.{true, false, if◌then◌else◌, get_or, ap, sym, ◌∙◌, subst, arith}
use Rattle.std.proofs.lemmas.List.{drop_all}
use Rattle.iop_snapshot.specs.Putting.{put_all}
use Rattle.iop_thread.specs.Restored.{Restores}
use Rattle.iop_thread.specs.Restoring.{with_last_ready}
use Rattle.iop_saved_threads.specs.Tables.{put_ready}
use Rattle.iop_saved_threads.proofs.ReadyBack.{put_next}
use Rattle.iop_saved_threads.proofs.ready.put_ready.Goals as goal

pub put_ready-requires : goal.put_ready-requires
put_ready-requires g c =
    let at = c.loop-id.invariant c.requires.sound.0 c.requires.sound.1 in
    record { sound = (at.0, at.1) }

pub returns-then-not-put_ready : goal.returns-then-not-put_ready
returns-then-not-put_ready g c s h =
    let at = c.loop-id.invariant s h in
    put_next s at.0 c.args.ids.now c.loop-id.id-index false at.2 c.loop-id-test.true
    (sym c.if-not-put_ready.true ∙ c.put_ready.ensures.may at.0 at.1)

pub loop-id-preserved : goal.loop-id-preserved
loop-id-preserved g c s h =
    let at = c.loop-id.invariant s h in
    let left = with_last_ready at.0 (get_or c.args.ids.now c.loop-id.id-index 0) in (
      left,
      subst (λ b. Restores g.R.Ready.stands c.put_ready.new.self (if b then left else at.0))
          c.if-not-put_ready.false (c.put_ready.ensures.put at.0 at.1),
      put_next s at.0 c.args.ids.now c.loop-id.id-index true at.2 c.loop-id-test.true
          (sym c.if-not-put_ready.false ∙ c.put_ready.ensures.may at.0 at.1),
    )

pub returns : goal.returns
returns g c s h =
    let at = c.loop-id.invariant s h in
    let none = drop_all c.loop-id.id-index c.args.ids.now (omega (arith, c.loop-id-test.false)) in
    (at.0, at.1, at.2 ∙ ap (put_all put_ready at.0) none)
