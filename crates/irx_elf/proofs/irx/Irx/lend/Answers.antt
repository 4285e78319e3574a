use Rattle.std.proofs.Common.{◌≡◌, is_some, ap, ◌∙◌, arith, rules}
use Rattle.irx_elf.specs.Rules.{part_at, image_length, module_information, image_segment}
use Rattle.irx_info.specs.Information.{Information}
use Rattle.irx_elf.specs.declared.segment.Segment.{Segment}
use Rattle.irx_elf.proofs.Sound.{some-copied, segments-met, length-short, parts-sound}
use Rattle.irx_elf.proofs.irx.Irx.lend.Goals as goal

pub unwrap-requires : goal.unwrap-requires
unwrap-requires c =
    let file = c.args.file.now.bytes.now in
    some-copied c.part_at.result _ c.part_at.ensures.part
    (ap (λ (s : Segment). is_some (part_at file s.offset s.file_size)) c.requires.image
    ∙ (segments-met file c.requires.segments).0)

pub overflow_cast-result : goal.overflow_cast-result
overflow_cast-result c =
    let file = c.args.file.now.bytes.now in
    let size : c.image_length.result ≡ image_length (module_information file) (image_segment file) =
    c.image_length.ensures ∙ ap (λ (info : Information). image_length info c.args.image.now)
    c.requires.info ∙ ap (image_length (module_information file)) c.requires.image in
    omega (arith, size, length-short file c.requires.segments)

pub invariant_of-result : goal.invariant_of-result
invariant_of-result c =
    parts-sound c.args.file.now.bytes.now c.requires.segments c.requires.sections _ (search rules)
