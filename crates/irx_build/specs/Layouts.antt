-- The sizes and places of a file's parts as the program holds them.
use Rattle.iop_asm.specs.Units.{ModuleUnit}
use Rattle.std.specs.Prelude.{length}
use Rattle.irx_build.specs.declared.layout.Layout.{Layout}
use Rattle.irx_build.specs.Files.{info_size, image_place, image_size, image_length, entries_place, entries_size, sections_place, section_count}

abbrev pub layout_of : ModuleUnit → Layout
layout_of unit = record {
  info_size = info_size unit;
  image = image_place unit;
  text_size = length unit.text;
  data_size = length unit.«data»;
  image_size = image_size unit;
  image_length = image_length unit;
  entries = entries_place unit;
  entries_size = entries_size unit;
  sections = sections_place unit;
  section_count = section_count unit;
}
