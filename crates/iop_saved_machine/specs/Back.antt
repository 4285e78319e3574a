-- What a machine has, what its parts are, and how parts are put back. This project's own profile.
use Rattle.std.specs.Prelude.{ℕ, Bool, is_some, if◌then◌else◌, Option, Some, None, option_map, option_and_then, List, [], length}
use Rattle.iop_kernel.specs.System.{Core, System}
use Rattle.iop_registry.specs.declared.registry.Entry.{Entry}
use Rattle.iop_saved_kernel.specs.Parts.{parts_in, core_back}
use Rattle.iop_saved_tables.specs.Tables.{Opened, put_library, put_stub, put_used, unopened}
use Rattle.iop_snapshot.specs.Forms.{Form, tested}
use Rattle.iop_snapshot.specs.Putting.{put_all}
use Rattle.iop_stubs.specs.Stubs.{Memory}
use Rattle.iop_stubs.specs.declared.live_stub.Stub.{Stub}
use Rattle.iop_sysmem.specs.BlockMap.{BlockMap}
use Rattle.iop_sysmem.specs.declared.block.Block.{Block}
use Rattle.iop_saved_machine.specs.Loading.{LoadingParts}
use Rattle.iop_saved_machine.specs.Parts.{MachineParts, read_machine}
use Rattle.iop_saved_machine.specs.Tables.{TableParts, kernel_alone}

pub record MachineState : Type 0 where
  -- the kernel with its processor, memory, the blocks and the libraries
  pub system : System
  -- what is still to be loaded, and what is still to come of the script
  pub loading : LoadingParts

-- the parts of a machine
abbrev pub tables_of : System → TableParts
tables_of s =
    record { used = s.blocks.used; libraries = s.libraries; stubs = s.memory.live }

abbrev pub parts_of : MachineState → MachineParts
parts_of m = record {
  size = length m.system.memory.ram;
  core = parts_in m.system.core;
  tables = tables_of m.system;
  loading = m.loading;
  ram = m.system.memory.ram;
}

-- the blocks, where the kernel's is among those that were put back
abbrev pub if_opened : Opened → Option BlockMap
if_opened opened = if opened.has_kernel then Some opened.map else None

-- the blocks that are used are put back into a RAM of this size, the kernel's first
abbrev pub used_back : (size : ℕ) → List Block → Option BlockMap
used_back size used =
    option_and_then if_opened (put_all put_used (unopened (kernel_alone size)) used)

-- libraries are put back into a registry of none
abbrev pub libraries_back : List Entry → Option (List Entry)
libraries_back = put_all put_library []

-- memory of this RAM in which no stub is live
abbrev pub bare : (ram : List ℕ) → Memory
bare ram = record { ram = ram; live = [] }

-- stubs are put back into memory of this RAM
abbrev pub stubs_back : (ram : List ℕ) → List Stub → Option Memory
stubs_back ram = put_all put_stub (bare ram)

abbrev pub state_with : Core → BlockMap → List Entry → LoadingParts → Memory → MachineState
state_with core blocks libraries loading memory = record {
  system = record { core = core; memory = memory; blocks = blocks; libraries = libraries };
  loading = loading;
}

-- all parts are put back; none where one of them cannot be
unfoldable pub machine_back : MachineParts → Option MachineState
machine_back p =
    option_and_then (λ core. option_and_then (λ blocks. option_and_then
    (λ libraries. option_map (state_with core blocks libraries p.loading)
    (stubs_back p.ram p.tables.stubs)) (libraries_back p.tables.libraries))
    (used_back p.size p.tables.used)) (core_back p.core)

-- whether the stubs can be put back
abbrev pub stubs_go_back : MachineParts → Bool
stubs_go_back p = is_some (stubs_back p.ram p.tables.stubs)

-- the parts that can be read: those that can be put back, all of them
unfoldable pub machine_form : Form MachineParts
machine_form = tested read_machine stubs_go_back
