-- How the program's blocks that are put back stand for them.
use Rattle.iop_saved_tables.specs.declared.blocks.Used.{Used}
use Rattle.iop_saved_tables.specs.Tables.{Opened}

abbrev pub opened : Used → Opened
opened used = record { has_kernel = used.has_kernel; map = used.blocks }
