-- What was read and put back is what would be written again, and can be put back again.
use Rattle.std.proofs.Common.{◌≡◌, ℕ, true, Some, List, [], length, eqb, sym, ap, subst, ◌∙◌, inl, inr}
use Rattle.std.specs.List.{list_all}
use Rattle.std.proofs.lemmas.Bool.{and_parts, or_cases, eqb-true}
use Rattle.std.proofs.lemmas.Option.{cond_some}
use Rattle.iop_base.specs.Places.{IsRamSize}
use Rattle.iop_base.specs.declared.limits.TheConstants.{SMALL_RAM, LARGE_RAM}
use Rattle.iop_saved_kernel.specs.Laws.{CoresTellWhatWasPut}
use Rattle.iop_saved_script.proofs.Shortness.{fitting_short}
use Rattle.iop_saved_script.specs.Forms.{list_of, event_form, args_form, named_form, file_form}
use Rattle.iop_saved_tables.proofs.Telling.{tables_tell}
use Rattle.iop_saved_tables.specs.Tables.{Opened, put_used, unopened}
use Rattle.iop_snapshot.proofs.Combining.{then_some}
use Rattle.iop_snapshot.specs.Forms.{bytes}
use Rattle.iop_snapshot.specs.Putting.{put_all}
use Rattle.iop_stubs.specs.Stubs.{Memory}
use Rattle.iop_sysmem.specs.BlockMap.{BlockMap}
use Rattle.iop_sysmem.specs.declared.block.Block.{Block}
use Rattle.iop_saved_machine.specs.Back.{MachineState, parts_of, if_opened, used_back, bare}
use Rattle.iop_saved_machine.specs.BegunModules.{begun_form}
use Rattle.iop_saved_machine.specs.Heads.{is_ram_size, head_form}
use Rattle.iop_saved_machine.specs.Laws.{MachineCanBeBack, machine_in_order, MachinesTellWhatWasPut}
use Rattle.iop_saved_machine.specs.Loading.{LoadingParts, next_module_form, loading_form, LoadingIsShort}
use Rattle.iop_saved_machine.specs.Parts.{MachineParts, is_byte, ram_form}
use Rattle.iop_saved_machine.specs.Tables.{kernel_alone}
use Rattle.iop_saved_machine.proofs.Keeping.{blocks_sound, libraries_sound, memory_sound}
use Rattle.iop_saved_machine.proofs.ReadingBack.{Plain, split}
use Rattle.iop_saved_machine.proofs.Readings.{used_now}
use Rattle.iop_saved_machine.proofs.Whole.{WerePut, were_put}

-- the blocks are those that were put back
blocks_tell : (size : ℕ) (used : List Block) (map : BlockMap) → used_back size used ≡ Some map
    → map ≡ record { size = size; used = used }
blocks_tell size used map e =
    let put = put_all put_used (unopened (kernel_alone size)) used in
    let one = then_some put if_opened map e in
    let two = cond_some one.0.has_kernel one.0.map map one.2 in
    let opened : one.0 ≡ record { has_kernel = true; map = map } =
    (λ i. record { has_kernel = two.0 i; map = two.1 i }) in
    used_now size used map (one.1 ∙ ap (λ (o : Opened). Some o) opened)

-- a head has a size that RAM may have
head_sized : (size : ℕ) → head_form.fits size ≡ true → IsRamSize size
unfolding head_form
head_sized size fits =
    let is = (and_parts _ (is_ram_size size) fits).1 in
    elim (or_cases (eqb size SMALL_RAM) (eqb size LARGE_RAM) is) [
      | inl small ↦ inl (eqb-true size SMALL_RAM small)
      | inr large ↦ inr (eqb-true size LARGE_RAM large)
    ]

-- RAM that has a spelling has so many bytes
record IsRam (size : ℕ) (ram : List ℕ) : Type 0 where
  pub long : length ram ≡ size
  pub bytes : list_all is_byte ram ≡ true

is_ram : (size : ℕ) (ram : List ℕ) → (ram_form size).fits ram ≡ true → IsRam size ram
unfolding ram_form bytes
is_ram size ram fits =
    let two = and_parts (eqb (length ram) size) (list_all is_byte ram) fits in
    record { long = eqb-true (length ram) size two.0; bytes = two.1 }

-- what is still to be loaded and to come has room in its counts where it has a spelling
loading_short : (p : LoadingParts) → loading_form.fits p ≡ true → LoadingIsShort p
unfolding loading_form
loading_short p fits =
    let begun = and_parts (begun_form.fits p.begun) _ fits in
    let next = and_parts (next_module_form.fits p.next) _ begun.1 in
    let modules = and_parts ((list_of file_form).fits p.modules) _ next.1 in
    let events = and_parts ((list_of event_form).fits p.events) _ modules.1 in
    let words =
    and_parts ((list_of args_form).fits p.args) ((list_of named_form).fits p.named) events.1 in
    let files = fitting_short.files p.modules modules.0 in
    let args = fitting_short.args p.args words.0 in
    let named = fitting_short.named p.named words.1 in
    record {
      modules = files.0;
      files = files.1;
      events = fitting_short.events p.events events.0;
      args = args.0;
      words = args.1;
      named = named.0;
      named_words = named.1;
    }

module _ (cores : CoresTellWhatWasPut) (p : MachineParts) (m : MachineState) (plain : Plain p)
    (were : WerePut p m) where
  ram : IsRam p.size p.ram
  ram = is_ram p.size p.ram plain.ram

  blocks_are : m.system.blocks ≡ record { size = p.size; used = p.tables.used }
  blocks_are = blocks_tell p.size p.tables.used m.system.blocks were.blocks

  memory_is : m.system.memory ≡ record { ram = p.ram; live = p.tables.stubs }
  memory_is = tables_tell.stubs (bare p.ram) m.system.memory p.tables.stubs were.memory

  long : length m.system.memory.ram ≡ p.size
  long = ap (λ (s : Memory). length s.ram) memory_is ∙ ram.long

  parts_are : parts_of m ≡ p
  parts_are =
      let core_is = cores.parts p.core m.system.core plain.core were.core in
      let libraries_are =
      tables_tell.libraries [] m.system.libraries p.tables.libraries were.libraries in
      λ i. record {
        size = long i;
        core = core_is i;
        tables = record {
          used = (blocks_are i).used;
          libraries = libraries_are i;
          stubs = (memory_is i).live;
        };
        loading = sym were.loading i;
        ram = (memory_is i).ram;
      }

  in_order : machine_in_order m ≡ m
  in_order =
      let core_is = cores.order p.core m.system.core were.core in
      λ i. record m { system = record m.system { core = core_is i } }

  can_be_back : MachineCanBeBack m
  can_be_back =
      let sized = head_sized p.size plain.head in
      let memory =
      memory_sound p.ram p.tables.stubs m.system.memory (subst IsRamSize (sym ram.long) sized)
      ram.bytes plain.stubs were.memory in
      record {
        core = cores.sound p.core m.system.core plain.core were.core;
        memory = memory.sound;
        blocks = blocks_sound p.size sized p.tables.used m.system.blocks were.blocks;
        same_size = ap (λ (map : BlockMap). map.size) blocks_are ∙ sym long;
        libraries = libraries_sound p.tables.libraries m.system.libraries were.libraries;
      }

  short : LoadingIsShort m.loading
  short = subst LoadingIsShort were.loading (loading_short p.loading plain.loading)

pub machines_tell : CoresTellWhatWasPut → MachinesTellWhatWasPut
machines_tell cores = record {
  parts = λ p m fits back. parts_are cores p m (split p fits).0 (were_put p m back);
  order = λ p m fits back. in_order cores p m (split p fits).0 (were_put p m back);
  sound = λ p m fits back. can_be_back cores p m (split p fits).0 (were_put p m back);
  short = λ p m fits back. short cores p m (split p fits).0 (were_put p m back);
}
