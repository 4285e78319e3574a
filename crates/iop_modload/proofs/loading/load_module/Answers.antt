use Rattle.std.proofs.Common.{◌≡◌, ℕ, ap, sym, ◌∙◌, subst, arith}
use Rattle.irx_info.specs.Information.{Information}
use Rattle.iop_linker.specs.Laws.{MayLink}
use Rattle.iop_stubs.specs.Stubs.{Memory}
use Rattle.iop_sysmem.specs.Allocating.{allocating}
use Rattle.iop_sysmem.proofs.Finding.{allocates}
use Rattle.iop_modload.proofs.Placed.{IsPlaced, placed-at}
use Rattle.iop_modload.proofs.LoadingLemmas.{may_link, loads_at-refused, loads_at-nowhere}
use Rattle.iop_modload.proofs.loading.load_module.Given.{Over}
use Rattle.iop_modload.proofs.loading.load_module.Goals.{After-info}
use Rattle.iop_modload.proofs.loading.load_module.Goals as goal

pub returns-then-base-eq0-clause-blocks : goal.returns-then-base-eq0-clause-blocks
returns-then-base-eq0-clause-blocks g c =
    let size = c.length.result in
    let none : (allocating c.args.blocks.now 0 size 0).0 ≡ 0 =
    sym c.alloc-base.ensures.place ∙ c.if-base-eq0.true in
    let place : ℕ → _ = λ (n : ℕ). allocating c.args.blocks.now 0 n 0 in
    c.alloc-base.ensures.map
    ∙ ((allocates c.args.blocks.now c.alloc-base.ensures.was_blocks 0 size 0).none none).0
    ∙ sym (loads_at-nowhere c.args.t c.args.guest.now c.args.blocks.now c.args.registry.now
    c.args.irx.now (place c.args.irx.now.length)
    (ap (λ (n : ℕ). (place n).0) (sym c.length.ensures.length) ∙ none))

pub copy_image-requires : goal.copy_image-requires
copy_image-requires g c =
    (placed-at c.args.guest.now c.args.blocks.now c.alloc-base.new.self c.args.irx.now.length
    c.length.result c.alloc-base.result c.length.ensures.length c.alloc-base.ensures.place
    c.alloc-base.ensures.map c.alloc-base.ensures.was_blocks c.requires.same_size c.requires.small
    (omega (
      arith,
      c.length.ensures.sound.text,
      c.length.ensures.sound.text_within,
      c.length.ensures.sound.image_within,
    )) (omega (arith, c.if-base-eq0.false))).inside

at : (g : Over) (c : After-info g)
    → IsPlaced c.args.guest.now c.args.blocks.now c.alloc-base.new.self c.args.irx.now.length
    c.alloc-base.result
at g c =
    placed-at c.args.guest.now c.args.blocks.now c.alloc-base.new.self c.args.irx.now.length
    c.length.result c.alloc-base.result c.length.ensures.length c.alloc-base.ensures.place
    c.alloc-base.ensures.map c.alloc-base.ensures.was_blocks c.requires.same_size c.requires.small
    (omega (
      arith,
      c.length.ensures.sound.text,
      c.length.ensures.sound.text_within,
      c.length.ensures.sound.image_within,
    )) (omega (arith, c.if-base-eq0.false))

text : (g : Over) (c : After-info g) → c.info.result.text_size ≡ c.args.irx.now.info.text_size
text g c = ap (λ (i : Information). i.text_size) c.info.ensures.info

may : (g : Over) (c : After-info g)
    → MayLink c.copy_image.new.guest c.alloc-base.result c.info.result.text_size
may g c =
    subst (MayLink c.copy_image.new.guest c.alloc-base.result) (sym (text g c))
    (subst (λ (m : Memory). MayLink m c.alloc-base.result c.args.irx.now.info.text_size)
    (sym c.copy_image.ensures.memory)
    (may_link c.args.t c.args.guest.now c.args.blocks.now c.args.registry.now (record {
      sound = c.copy_image.ensures.was_sound;
      are_blocks = c.alloc-base.ensures.was_blocks;
      same_size = c.requires.same_size;
    }) c.args.irx.now c.length.ensures.sound c.alloc-base.new.self c.alloc-base.result
    c.copy_image.ensures.len (at g c)))

pub link-requires-clause-aligned : goal.link-requires-clause-aligned
link-requires-clause-aligned g c = (may g c).aligned

pub link-requires-clause-inside : goal.link-requires-clause-inside
link-requires-clause-inside g c = (may g c).inside

pub link-requires-clause-apart : goal.link-requires-clause-apart
link-requires-clause-apart g c = (may g c).apart

pub returns-in-Err-clause-blocks : goal.returns-in-Err-clause-blocks
returns-in-Err-clause-blocks g c =
    let info = (goal.at.returns-in-Err-clause-blocks g c).After-info in
    let place : ℕ → _ = λ (n : ℕ). allocating c.args.blocks.now 0 n 0 in
    c.free.ensures.map ∙ ap (λ answer. answer.1) (at g info).freed
    ∙ sym (loads_at-refused c.args.t c.args.guest.now c.args.blocks.now c.args.registry.now
    c.args.irx.now (place c.args.irx.now.length) c.copy_image.new.guest c.alloc-base.result
    c.info.result.text_size c.in-Err.fault (omega (arith, c.if-base-eq0.false))
    (c.alloc-base.ensures.place ∙ ap (λ (n : ℕ). (place n).0) c.length.ensures.length)
    c.copy_image.ensures.memory (text g info) c.in-Err.ensures.result)
