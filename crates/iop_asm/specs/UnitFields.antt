-- The unit as the program holds it.
use Rattle.iop_asm.specs.Units.{ModuleUnit}
use Rattle.iop_asm.specs.declared.unit.AsmUnit.TheInside.{Inside}

abbrev pub unit_of : Inside → ModuleUnit
unit_of u = record {
  name = u.name.items;
  version = u.version;
  entry = u.entry;
  gp = u.gp;
  text = u.text.items;
  «data» = u.«data».items;
  bss = u.bss;
  relocations = u.relocations.items;
}
