-- What the program lends to be written.
use Rattle.iop_kernel.specs.Standing.{system}
use Rattle.iop_kernel.specs.System.{Kernel}
use Rattle.iop_saved_machine.specs.Back.{MachineState}
use Rattle.iop_saved_machine.specs.Loading.{LoadingParts}
use Rattle.iop_saved_machine.specs.Tables.{TableParts}
use Rattle.iop_saved_machine.specs.declared.lent.LentMachine.{LentMachine}

module _ {R : Type 0} where
  abbrev pub tables_lent : LentMachine R → TableParts
  tables_lent m = record {
    used = m.blocks.now.used;
    libraries = m.registry.now;
    stubs = m.guest.now.live;
  }

  abbrev pub loading_lent : LentMachine R → LoadingParts
  loading_lent m = record {
    begun = m.begun;
    next = m.next;
    modules = m.modules.now;
    events = m.events.now;
    args = m.args.now;
    named = m.named.now;
  }

  -- the machine whose kernel is this one
  abbrev pub state_lent : Kernel → LentMachine R → MachineState
  state_lent k m = record {
    system = system k m.cpu.now m.guest.now m.blocks.now m.registry.now;
    loading = loading_lent m;
  }
