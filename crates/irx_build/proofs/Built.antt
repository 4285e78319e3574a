-- What is said of the file that was written, said of the file that is given.
use Rattle.std.proofs.Common.{◌≡◌, Ok}
use Rattle.irx_elf.specs.Parts.{parts_or_rule}
use Rattle.iop_asm.specs.Units.{ModuleUnit}
use Rattle.irx_build.specs.Files.{info_of, file_of}
use Rattle.irx_build.specs.Building.{HasNumbers, IsAccepted}
use Rattle.irx_build.specs.UnitParts.{unit_parts}
use Rattle.irx_build.proofs.Parsing.{parsed}
use Rattle.irx_build.proofs.Standing.{words_fit, parts_stand}

pub files_parsed : (unit : ModuleUnit) → HasNumbers (info_of unit) → IsAccepted unit
    → parts_or_rule (file_of unit) ≡ Ok (unit_parts unit)
files_parsed unit fit accepted =
    parsed (file_of unit) unit (words_fit unit fit accepted) accepted (parts_stand unit accepted)
