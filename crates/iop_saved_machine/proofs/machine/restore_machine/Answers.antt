use Rattle.std.proofs.Common.{◌≡◌, ℕ, Some, None, List, refl, sym, ap, subst, ◌∙◌}
use Rattle.std.proofs.lemmas.Result.{err_from_is_err_and}
use Rattle.iop_saved_tables.specs.Tables.{put_stub}
use Rattle.iop_snapshot.specs.Forms.{read_whole}
use Rattle.iop_snapshot.specs.Putting.{put_all}
use Rattle.iop_stubs.specs.Stubs.{Memory}
use Rattle.iop_saved_machine.specs.Back.{state_with, machine_form}
use Rattle.iop_saved_machine.specs.Parts.{machine_with}
use Rattle.iop_saved_machine.specs.Restored.{rest_parts, loading_parts, RestoresWhole}
use Rattle.iop_saved_machine.proofs.Whole.{whole_exits, whole_too_long, whole_stubs_fail, whole_reads, machine_is_back}
use Rattle.iop_saved_machine.proofs.machine.restore_machine.Goals as goal

pub returns-in_err-made : goal.returns-in_err-made
returns-in_err-made g c =
    let fault = c.in_err-made.field-0.0 in
    let given = err_from_is_err_and c.from_residual.result c.from_residual.ensures.1 in
    let same : given.0 ≡ fault = cc in
    subst (RestoresWhole g.R.Ready.stands c.from_residual.result) c.new-decoder.ensures
    (whole_exits g.R.Ready.stands c.from_residual.result given.0 fault c.new-decoder.result same
    given.1 c.in_err-made.ensures.read)

pub returns-then-left-ne0 : goal.returns-then-left-ne0
returns-then-left-ne0 g c =
    let u = c.in_ok-made.made in
    let (size, parts, core, holds, core_back, back, read) = c.in_ok-made.ensures.read in
    subst (λ (all : List ℕ). read_whole machine_form all ≡ None) c.new-decoder.ensures
    (whole_too_long c.new-decoder.result (machine_with (size, (parts, rest_parts u.rest)))
    c.restore_parts.new.decoder read c.left.result c.left.ensures c.if-left-ne0.true)

pub returns-in_default : goal.returns-in_default
returns-in_default g c =
    let u = c.in_ok-made.made in
    let (size, parts, core, holds, core_back, back, read) = c.in_ok-made.ensures.read in
    subst (λ (all : List ℕ). read_whole machine_form all ≡ None) c.new-decoder.ensures
    (whole_stubs_fail c.new-decoder.result (machine_with (size, (parts, rest_parts u.rest)))
    c.restore_parts.new.decoder read
    (ap (λ (memory : Memory). put_all put_stub memory u.rest.tables.stubs.items)
    (sym c.in_ok-made.ensures.bare)
    ∙ ap (put_all put_stub u.rest.guest) (sym c.deref.ensures.value) ∙ c.in_default.ensures))

pub returns : goal.returns
returns g c =
    let u = c.in_ok-made.made in
    let (size, parts, core, holds, core_back, back, read) = c.in_ok-made.ensures.read in
    let p = machine_with (size, (parts, rest_parts u.rest)) in
    let guest = c.in-Some.guest in
    let stubs =
    ap (λ (memory : Memory). put_all put_stub memory u.rest.tables.stubs.items)
    (sym c.in_ok-made.ensures.bare)
    ∙ ap (put_all put_stub u.rest.guest) (sym c.deref.ensures.value) ∙ c.in-Some.ensures in (
      p,
      state_with core u.rest.tables.blocks u.rest.tables.registry (loading_parts u.rest.loading)
          guest,
      record { core = holds; memory = refl; blocks = refl; libraries = refl; loading = refl },
      machine_is_back p core u.rest.tables.blocks u.rest.tables.registry guest core_back
          back.blocks back.libraries stubs,
      subst (λ (all : List ℕ). read_whole machine_form all ≡ Some p) c.new-decoder.ensures
          (whole_reads c.new-decoder.result p c.restore_parts.new.decoder read c.left.result
          c.left.ensures c.if-left-ne0.false guest stubs),
    )
