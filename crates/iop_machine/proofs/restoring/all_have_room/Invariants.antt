use Rattle.std.proofs.Common.{◌≡◌, ◌+◌, drop}
use Rattle.std.specs.List.{list_all}
use Rattle.iop_machine.specs.Modules.{modules_from}
use Rattle.iop_machine.specs.Restoring.{has_room}
use Rattle.iop_machine.proofs.restoring.all_have_room.Given as goal

abbrev pub invariant-loop-module : goal.invariant-loop-module
invariant-loop-module l = record {
  all : list_all has_room (modules_from l.args l.named l.first l.modules)
      ≡ list_all has_room (modules_from l.args l.named l.number (drop l.module-index l.modules));
  number : l.number ≡ l.first + l.module-index;
}
