-- The parts of an IRX file as the program holds them.
use Rattle.irx_info.specs.Information.{information_of}
use Rattle.irx_elf.specs.Parts.{Parts, IsSound}
use Rattle.irx_elf.specs.declared.irx.Irx.TheInside.{Inside}

abbrev pub parts_inside : Inside → Parts
parts_inside irx = record {
  image = irx.image.now;
  length = irx.length;
  info = information_of irx.info;
  lists = irx.relocations;
}

abbrev pub HasSoundParts : Inside → Type 0
HasSoundParts irx = IsSound (parts_inside irx)
