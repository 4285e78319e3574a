-- The whole machine, read and put back.
use Rattle.std.proofs.Common.{◌≡◌, ◌≢◌, ℕ, Bool, true, false, cond, eqb, Option, Some, None, Result, Err, List, length, refl, sym, subst, ◌∙◌}
use Rattle.std.specs.Prelude.{option_and_then, MatchResult}
use Rattle.std.proofs.lemmas.Bool.{eq-eqb, ne_eqb}
use Rattle.iop_kernel.specs.System.{Core}
use Rattle.iop_ready.specs.declared.entry.Entry.{Entry}
use Rattle.iop_registry.specs.declared.registry.Entry.{Entry as Library}
use Rattle.iop_saved_kernel.proofs.Stages.{gives_none}
use Rattle.iop_saved_kernel.specs.Parts.{Parts, core_back, core_form}
use Rattle.iop_snapshot.proofs.Combining.{then_some, map_some}
use Rattle.iop_snapshot.specs.Forms.{if_last, read_whole}
use Rattle.iop_snapshot.specs.Reading.{GivesNone}
use Rattle.iop_snapshot.specs.declared.fault.SnapFault.{SnapFault}
use Rattle.iop_stubs.specs.Stubs.{Memory}
use Rattle.iop_sysmem.specs.BlockMap.{BlockMap}
use Rattle.iop_saved_machine.specs.Back.{MachineState, used_back, libraries_back, stubs_back, state_with, machine_back, stubs_go_back, machine_form}
use Rattle.iop_saved_machine.specs.Heads.{head_form}
use Rattle.iop_saved_machine.specs.Parts.{MachineParts, rest_form, parts_form, read_machine}
use Rattle.iop_saved_machine.specs.Restored.{RestoresWhole}
use Rattle.iop_saved_machine.specs.Tables.{read_tables}
use Rattle.iop_saved_machine.specs.declared.machine.RestoredMachine.{RestoredMachine}

-- where the fault returns that says that nothing is read, the answer says so
pub fails : {T X : Type 0} (Made : T → Type 0) (result : Result T SnapFault)
    (given fault : SnapFault) (read : Option X) → given ≡ fault → result ≡ Err given
    → GivesNone read fault → MatchResult result Made (GivesNone read)
fails Made result given fault read same is none =
    rw is (subst (GivesNone read) (sym same) none)

-- where what stands behind the kernel is not read, no parts are
pub rest_fails : (before behind further : List ℕ) (size : ℕ) (core : Parts) (fault : SnapFault)
    → head_form.read before ≡ Some (size, behind) → core_form.read behind ≡ Some (core, further)
    → GivesNone ((rest_form (read_tables size) size).read further) fault
    → GivesNone (read_machine.read before) fault
unfolding parts_form
rest_fails before behind further size core fault head is_core =
    gives_none fault ((rest_form (read_tables size) size).read further) (read_machine.read before)
    (λ none. rw (head, is_core, none) refl)

-- where no parts are read, none are as a whole
pub whole_unread : (all : List ℕ) (fault : SnapFault) → GivesNone (read_machine.read all) fault
    → GivesNone (read_whole machine_form all) fault
unfolding read_whole machine_form
whole_unread all fault =
    gives_none fault (read_machine.read all) (read_whole machine_form all)
    (λ none. rw none refl)

-- the same where the fault of the parts returns
pub whole_exits : {R : Type 0} (stands_for : R → List Entry → Type 0)
    (result : Result (RestoredMachine R) SnapFault) (given fault : SnapFault) (all : List ℕ)
    → given ≡ fault → result ≡ Err given → GivesNone (read_machine.read all) fault
    → RestoresWhole stands_for result all
whole_exits stands_for result given fault all same is none =
    fails _ result given fault (read_whole machine_form all) same is (whole_unread all fault none)

module _ (all : List ℕ) (p : MachineParts) (rest : List ℕ)
    (read : read_machine.read all ≡ Some (p, rest)) where
  -- nor where bytes are left
  pub whole_too_long : (left : ℕ) → left ≡ length rest → left ≢ 0
      → read_whole machine_form all ≡ None
  unfolding read_whole machine_form
  whole_too_long left is some = rw read (by (stubs_go_back p))
    where
      long : eqb (length rest) 0 ≡ false
      long = ne_eqb (length rest) 0 (λ none. some (is ∙ none))

      by : (b : Bool)
          → option_and_then if_last
          (cond {A = Option (MachineParts × List ℕ)} b (Some (p, rest)) None) ≡ None
      by true = rw long refl
      by false = refl

  -- nor where the stubs cannot be put back
  pub whole_stubs_fail : stubs_back p.ram p.tables.stubs ≡ None
      → read_whole machine_form all ≡ None
  unfolding read_whole machine_form
  whole_stubs_fail none = rw (read, none) refl

  -- where they can, and none are left, all is read
  pub whole_reads : (left : ℕ) → left ≡ length rest → left ≡ 0 → (memory : Memory)
      → stubs_back p.ram p.tables.stubs ≡ Some memory → read_whole machine_form all ≡ Some p
  unfolding read_whole machine_form
  whole_reads left is none memory stubs =
      rw (read, stubs, eq-eqb (length rest) 0 (sym is ∙ none)) refl

-- where each part is put back, the machine is
pub machine_is_back : (p : MachineParts) (c : Core) (blocks : BlockMap)
    (libraries : List Library) (memory : Memory) → core_back p.core ≡ Some c
    → used_back p.size p.tables.used ≡ Some blocks
    → libraries_back p.tables.libraries ≡ Some libraries
    → stubs_back p.ram p.tables.stubs ≡ Some memory
    → machine_back p ≡ Some (state_with c blocks libraries p.loading memory)
unfolding machine_back
machine_is_back p c blocks libraries memory core used libs stubs =
    rw (core, used, libs, stubs) refl

-- and where the machine is, each part was put back
pub record WerePut (p : MachineParts) (m : MachineState) : Type 0 where
  pub core : core_back p.core ≡ Some m.system.core
  pub blocks : used_back p.size p.tables.used ≡ Some m.system.blocks
  pub libraries : libraries_back p.tables.libraries ≡ Some m.system.libraries
  pub memory : stubs_back p.ram p.tables.stubs ≡ Some m.system.memory
  pub loading : p.loading ≡ m.loading

pub were_put : (p : MachineParts) (m : MachineState) → machine_back p ≡ Some m → WerePut p m
unfolding machine_back
were_put p m back =
    let core = then_some (core_back p.core) _ m back in
    let blocks = then_some (used_back p.size p.tables.used) _ m core.2 in
    let libraries = then_some (libraries_back p.tables.libraries) _ m blocks.2 in
    let memory =
    map_some (stubs_back p.ram p.tables.stubs)
    (state_with core.0 blocks.0 libraries.0 p.loading) m libraries.2 in
    subst (WerePut p) memory.2 (record {
      core = core.1;
      blocks = blocks.1;
      libraries = libraries.1;
      memory = memory.1;
      loading = refl;
    })
