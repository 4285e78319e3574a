-- How the program's machine that was put back stands for a machine.
use Rattle.std.specs.Prelude.{◌≡◌, ℕ, Some, Result, MatchResult, List}
use Rattle.iop_ready.specs.declared.entry.Entry.{Entry}
use Rattle.iop_saved_kernel.specs.Restored.{HoldsCore}
use Rattle.iop_snapshot.specs.Forms.{read_whole}
use Rattle.iop_snapshot.specs.Reading.{GivesNone}
use Rattle.iop_snapshot.specs.declared.fault.SnapFault.{SnapFault}
use Rattle.iop_saved_machine.specs.Back.{MachineState, machine_back, machine_form, used_back, libraries_back}
use Rattle.iop_saved_machine.specs.Loading.{LoadingParts}
use Rattle.iop_saved_machine.specs.Parts.{MachineParts, RestNest}
use Rattle.iop_saved_machine.specs.Tables.{TableParts}
use Rattle.iop_saved_machine.specs.declared.loading.Loading.{Loading}
use Rattle.iop_saved_machine.specs.declared.machine.RestoredMachine.{RestoredMachine}
use Rattle.iop_saved_machine.specs.declared.rest.Rest.{Rest}
use Rattle.iop_saved_machine.specs.declared.tables.Tables.{Tables}

abbrev pub loading_parts : Loading → LoadingParts
loading_parts l = record {
  begun = l.begun;
  next = l.next;
  modules = l.modules.items;
  events = l.events.items;
  args = l.args.items;
  named = l.named.items;
}

abbrev pub tables_parts : Tables → TableParts
tables_parts t =
    record { used = t.blocks.used; libraries = t.registry; stubs = t.stubs.items }

abbrev pub rest_parts : Rest → RestNest
rest_parts r = (tables_parts r.tables, (loading_parts r.loading, r.guest.ram))

-- the blocks and the libraries are what is put back of theirs
pub record TablesAreBack (size : ℕ) (t : Tables) : Type 0 where
  pub blocks : used_back size t.blocks.used ≡ Some t.blocks
  pub libraries : libraries_back t.registry ≡ Some t.registry

module _ {R : Type 0} (stands_for : R → List Entry → Type 0) where
  pub record HoldsMachine (made : RestoredMachine R) (m : MachineState) : Type 0 where
    pub core : HoldsCore stands_for made.core m.system.core
    pub memory : m.system.memory ≡ made.guest
    pub blocks : m.system.blocks ≡ made.blocks
    pub libraries : m.system.libraries ≡ made.registry
    pub loading : m.loading ≡ loading_parts made.loading

  -- the bytes, all of them, are parts that were put back, and what was made holds the machine that
  -- this gave; or they are no parts that can be put back
  abbrev pub RestoresWhole : Result (RestoredMachine R) SnapFault → (all : List ℕ) → Type 0
  RestoresWhole result all =
      MatchResult result
      (λ made. (p : MachineParts) × (m : MachineState) × HoldsMachine made m
      × (machine_back p ≡ Some m) × (read_whole machine_form all ≡ Some p))
      (GivesNone (read_whole machine_form all))
