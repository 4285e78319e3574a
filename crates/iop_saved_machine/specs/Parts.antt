-- The parts of a whole machine, and how a snapshot spells them. This project's own profile.
use Rattle.std.specs.Prelude.{ℕ, ◌^◌, nat_lt, Bool, Some, List}
use Rattle.std.specs.List.{list_all}
use Rattle.iop_saved_kernel.specs.Parts.{Parts, written_form, steady_form_of_parts, core_form}
use Rattle.iop_snapshot.specs.Forms.{Form, bytes, both, seen_as, tested}
use Rattle.iop_saved_machine.specs.Heads.{head_form}
use Rattle.iop_saved_machine.specs.Loading.{LoadingParts, loading_form}
use Rattle.iop_saved_machine.specs.Tables.{TableParts, written_tables, read_tables}

pub record MachineParts : Type 0 where
  -- how many bytes RAM has
  pub size : ℕ
  -- the kernel and its processor
  pub core : Parts
  -- the blocks of memory, the registered libraries and the live stubs
  pub tables : TableParts
  -- what is still to be loaded, and what is still to come of the script
  pub loading : LoadingParts
  -- the bytes of RAM as the guest reads them
  pub ram : List ℕ

-- what stands behind the kernel, one behind the other
abbrev pub RestNest : Type 0
RestNest = TableParts × (LoadingParts × List ℕ)

-- the same, and the size and the kernel in front
abbrev pub MachineNest : Type 0
MachineNest = ℕ × (Parts × RestNest)

abbrev pub machine_with : MachineNest → MachineParts
machine_with nest = record {
  size = nest.0;
  core = nest.1.0;
  tables = nest.1.1.0;
  loading = nest.1.1.1.0;
  ram = nest.1.1.1.1;
}

abbrev pub nest_of_machine : MachineParts → MachineNest
nest_of_machine p = (p.size, (p.core, (p.tables, (p.loading, p.ram))))

abbrev pub is_byte : ℕ → Bool
is_byte n = nat_lt n (2 ^ 8)

-- so many bytes of RAM
unfoldable pub ram_form : (size : ℕ) → Form (List ℕ)
ram_form size = tested (bytes size) (list_all is_byte)

-- they stand one behind the other, the tables by a form, and so many bytes of RAM
abbrev pub rest_form : Form TableParts → (size : ℕ) → Form RestNest
rest_form tables size = both tables (λ _. both loading_form (λ _. ram_form size))

abbrev pub machine_nest : Form Parts → (ℕ → Form TableParts) → Form MachineNest
machine_nest core tables =
    both head_form (λ size. both core (λ _. rest_form (tables size) size))

-- the parts of a machine: the kernel, and the tables for a RAM of a size, by these forms
unfoldable pub parts_form : Form Parts → (ℕ → Form TableParts) → Form MachineParts
parts_form core tables =
    seen_as (machine_nest core tables) (λ nest. Some (machine_with nest)) nest_of_machine

-- how they are written
abbrev pub written_machine : Form MachineParts
written_machine = parts_form written_form (λ _. written_tables)

-- how they are read: those that can be put back, but for the stubs
abbrev pub read_machine : Form MachineParts
read_machine = parts_form core_form read_tables

-- the same, whether they can be put back or not
abbrev pub plain_machine : Form MachineParts
plain_machine = parts_form steady_form_of_parts (λ _. written_tables)
