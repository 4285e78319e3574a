-- What the file of a unit consists of, said of the unit alone.
use Rattle.std.specs.Prelude.{if◌then◌else◌, [], ◌∷◌}
use Rattle.irx_elf.specs.Parts.{Parts}
use Rattle.iop_asm.specs.Units.{ModuleUnit}
use Rattle.irx_build.specs.Files.{info_of, image_of, image_length, has_relocations, entry_list}

unfoldable pub unit_parts : ModuleUnit → Parts
unit_parts unit = record {
  image = image_of unit;
  length = image_length unit;
  info = info_of unit;
  lists = if has_relocations unit then entry_list unit ∷ [] else [];
}
