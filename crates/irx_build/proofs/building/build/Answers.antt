use Rattle.std.proofs.Common.{◌∙◌, ap, subst, length, arith}
use Rattle.irx_elf.specs.Parts.{parts_or_rule}
use Rattle.irx_build.specs.Building.{HasNumbers}
use Rattle.irx_build.specs.Files.{info_of, file_of}
use Rattle.irx_build.proofs.Built.{files_parsed}
use Rattle.irx_build.proofs.Standing.{short_file}
use Rattle.irx_build.proofs.building.build.Goals as goal

pub returns-clause-parts : goal.returns-clause-parts
returns-clause-parts c =
    let written = c.in_ok-write_file.ensures in
    ap parts_or_rule (written.file ∙ ap file_of c.of.ensures)
    ∙ files_parsed c.args.unit.now
    (subst (λ unit. HasNumbers (info_of unit)) c.of.ensures written.numbers)
    c.in_ok-check.ensures.accepted

pub returns-clause-short : goal.returns-clause-short
returns-clause-short c =
    omega (
      arith,
      ap length (c.in_ok-write_file.ensures.file ∙ ap file_of c.of.ensures),
      short_file c.args.unit.now c.in_ok-check.ensures.accepted,
    )
