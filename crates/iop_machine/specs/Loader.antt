-- Whether the loader of a machine that was put back can go on: the tables of the libraries, the
-- module that it begins or runs, and its thread. This project's own profile.
use Rattle.std.specs.Prelude.{ℕ, ◌+◌, ◌%◌, ◌==◌, nat_le, nat_lt, Bool, true, ◌&&◌, not, is_some, Option, Some, None, length}
use Rattle.std.specs.List.{list_all}
use Rattle.iop_base.specs.BlockSizes.{block_len}
use Rattle.iop_base.specs.Places.{range_at}
use Rattle.iop_base.specs.declared.blocks.TheConstants.{BLOCK_UNIT}
use Rattle.iop_kernel.specs.System.{Kernel}
use Rattle.iop_modload.specs.declared.image_place.ImagePlace.{ImagePlace}
use Rattle.iop_registry.specs.declared.registry.Entry.{Entry}
use Rattle.iop_saved_machine.specs.Back.{MachineState}
use Rattle.iop_saved_machine.specs.declared.begun_module.BegunModule.{BegunModule}
use Rattle.iop_sysmem.specs.declared.blocks.TheConstants.{KERNEL}
use Rattle.iop_thread.specs.Placing.{is_in_state}
use Rattle.iop_thread.specs.States.{is_dormant}
use Rattle.iop_thread.specs.declared.thread.TheConstants.{LOADER}
use Rattle.irx_tables.specs.declared.words.TheConstants.{HEADER_BYTES}
use Rattle.iop_machine.specs.declared.restored_loader.TheConstants.{LEAST_IMAGE}

-- whether the table of a library has its header in a RAM of so many bytes
abbrev pub has_header : (size : ℕ) → Entry → Bool
has_header size entry = nat_le (entry.table + HEADER_BYTES) size

-- whether an image has its blocks in a RAM of so many bytes by their place, and its address is behind
-- the kernel's block
abbrev pub is_inside : (size : ℕ) → ImagePlace → Bool
is_inside size place =
    place.base % BLOCK_UNIT == 0 && nat_le KERNEL.size place.base && nat_le LEAST_IMAGE place.len
    && nat_le place.len size && is_some (range_at size place.base (block_len place.len))

-- whether the loader's thread can begin or run a module, in front of the one of a number
abbrev pub may_run : (size next : ℕ) → BegunModule → Bool
may_run size next m = nat_le 1 m.number && nat_lt m.number next && is_inside size m.place

-- whether it can run the one that it begins or runs, where there is one
abbrev pub may_have_begun : (size next : ℕ) → Option BegunModule → Bool
may_have_begun size next None = true
may_have_begun size next (Some m) = may_run size next m

-- whether the loader's thread is dormant
abbrev pub loader_is_dormant : Kernel → Bool
loader_is_dormant k = is_in_state is_dormant k.threads.live LOADER

-- where no module is begun the thread is dormant, and no module is left; else it is not dormant
abbrev pub is_between : (dormant : Bool) (left : ℕ) → Option BegunModule → Bool
is_between dormant left None = dormant && left == 0
is_between dormant left (Some m) = not dormant

-- all of this
abbrev pub loader_may_go_on : MachineState → Bool
loader_may_go_on m =
    let size = length m.system.memory.ram in
    list_all (has_header size) m.system.libraries
    && may_have_begun size m.loading.next m.loading.begun
    && is_between (loader_is_dormant m.system.core.kernel) (length m.loading.modules)
    m.loading.begun
