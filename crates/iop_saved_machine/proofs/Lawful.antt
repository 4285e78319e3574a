-- The form of a whole machine is lawful.
use Rattle.std.proofs.Common.{◌≡◌, ℕ, Bool, true, false, cond, eqb, is_some, Option, Some, None, List, [], ◌∷◌, ◌++◌, get_or, refl, sym, ap, subst, ◌∙◌, inl, inr}
use Rattle.std.specs.List.{list_all}
use Rattle.std.specs.Str.{bytes_eq}
use Rattle.std.proofs.lemmas.Bool.{and_parts, or_cases, eqb-true}
use Rattle.std.proofs.lemmas.Option.{same_Some}
use Rattle.std.proofs.lemmas.Slice.Eq.{bytes_eq-Decides}
use Rattle.iop_saved_kernel.proofs.Lawful.{parts_are_lawful}
use Rattle.iop_saved_kernel.specs.Parts.{core_form}
use Rattle.iop_saved_objects.proofs.Lawful.{numbers_lawful}
use Rattle.iop_saved_script.proofs.Lawful.{forms_lawful as script_lawful}
use Rattle.iop_saved_script.specs.Forms.{list_of, event_form, args_form, named_form, file_form}
use Rattle.iop_saved_tables.proofs.Lawful.{forms_lawful as tables_lawful}
use Rattle.iop_saved_tables.specs.Tables.{used_form}
use Rattle.iop_snapshot.proofs.Combining.{item_lawful, bytes_lawful, both_lawful, seen_lawful, seen_tested_lawful, tested_lawful, present_lawful}
use Rattle.iop_snapshot.proofs.Flags.{flag_again, flag_is}
use Rattle.iop_snapshot.proofs.Numbers.{numbers_from-all, fits_long}
use Rattle.iop_snapshot.specs.Forms.{IsLawful, item, bytes, both, present, fits_where}
use Rattle.iop_snapshot.specs.declared.widths.TheConstants.{HEAD, MODULE_PRESENT, MODULE, NEXT_MODULE}
use Rattle.iop_saved_machine.specs.Back.{stubs_go_back, machine_form}
use Rattle.iop_saved_machine.specs.Heads.{head_numbers, size_in, is_ram_size, head_form}
use Rattle.iop_saved_machine.specs.BegunModules.{flag_numbers, flag_in, flag_form, begun_numbers, begun_of, module_form, begun_nest, flagged, begun_form}
use Rattle.iop_saved_machine.specs.Loading.{next_module_form, loading_with, loading_nest_of, loading_nest, loading_form}
use Rattle.iop_saved_machine.specs.Laws.{MachinesAreLawful}
use Rattle.iop_saved_machine.specs.Parts.{MachineParts, machine_with, nest_of_machine, is_byte, ram_form, rest_form, machine_nest, parts_form, written_machine, read_machine}
use Rattle.iop_saved_machine.specs.Tables.{tables_with, table_lists, tables_nest, tables_form, kernel_alone, libraries_form, stubs_form, written_tables, read_tables}
use Rattle.iop_saved_machine.specs.declared.begun_module.BegunModule.{BegunModule}
use Rattle.iop_base.specs.declared.limits.TheConstants.{SMALL_RAM, LARGE_RAM}

-- ---- the head

head_again : (size : ℕ) → is_ram_size size ≡ true → size_in (head_numbers size) ≡ Some size
head_again size is =
    elim (or_cases (eqb size SMALL_RAM) (eqb size LARGE_RAM) is) [
      | inl small ↦
          subst (λ n. size_in (head_numbers n) ≡ Some n) (sym (eqb-true size SMALL_RAM small)) refl
      | inr large ↦
          subst (λ n. size_in (head_numbers n) ≡ Some n) (sym (eqb-true size LARGE_RAM large)) refl
    ]

head_back : (ns : List ℕ) (size : ℕ) → size_in ns ≡ Some size → head_numbers size ≡ ns
head_back ns size e =
    by (bytes_eq ns (head_numbers SMALL_RAM)) (bytes_eq ns (head_numbers LARGE_RAM))
    (bytes_eq-Decides ns (head_numbers SMALL_RAM)).0 (bytes_eq-Decides ns (head_numbers LARGE_RAM)).0 e
  where
    by : (small large : Bool) → (small ≡ true → ns ≡ head_numbers SMALL_RAM)
        → (large ≡ true → ns ≡ head_numbers LARGE_RAM)
        → cond small (Some SMALL_RAM) (cond large (Some LARGE_RAM) None) ≡ Some size
        → head_numbers size ≡ ns
    by true large is_small is_large e =
        ap head_numbers (sym (same_Some SMALL_RAM size e)) ∙ sym (is_small refl)
    by false true is_small is_large e =
        ap head_numbers (sym (same_Some LARGE_RAM size e)) ∙ sym (is_large refl)
    by false false is_small is_large e = absurd cc

head_lawful : IsLawful head_form
unfolding head_form
head_lawful =
    seen_tested_lawful (item HEAD) size_in head_numbers is_ram_size (item_lawful HEAD)
    (λ size fits is. head_again size is) (λ ns size fits e. head_back ns size e)

-- ---- what is still to be loaded and to come

flag_lawful : IsLawful flag_form
unfolding flag_form item
flag_lawful =
    seen_lawful (item MODULE_PRESENT) flag_in flag_numbers (item_lawful MODULE_PRESENT)
    (λ there fits. flag_again there)
    (λ ns there fits e.
    ap (λ n. n ∷ []) (flag_is (get_or ns 0 0) there e)
    ∙ numbers_from-all 0 1 ns (fits_long MODULE_PRESENT ns fits))

module_lawful : IsLawful module_form
unfolding module_form
module_lawful =
    numbers_lawful MODULE begun_of begun_numbers (λ m. refl)
    (λ ns m long e. ap begun_numbers (sym (same_Some _ m e)) ∙ numbers_from-all 0 3 ns long)

next_lawful : IsLawful next_module_form
unfolding next_module_form
next_lawful =
    numbers_lawful NEXT_MODULE (λ ns. Some (get_or ns 0 0)) (λ n. n ∷ []) (λ n. refl)
    (λ ns n long e. ap (λ m. m ∷ []) (sym (same_Some _ n e)) ∙ numbers_from-all 0 1 ns long)

there_is : (there : Bool) (begun : Option BegunModule)
    → fits_where there module_form begun ≡ true → is_some begun ≡ there
there_is true None fits = absurd cc
there_is false None fits = refl
there_is true (Some m) fits = refl
there_is false (Some m) fits = absurd cc

begun_lawful : IsLawful begun_form
unfolding begun_form
begun_lawful =
    seen_lawful begun_nest (λ parts. Some parts.1) flagged
    (both_lawful flag_form (λ there. present there module_form) flag_lawful
    (λ there. present_lawful there module_form module_lawful))
    (λ begun fits. refl)
    (λ parts begun fits e.
    let two = and_parts (flag_form.fits parts.0) (fits_where parts.0 module_form parts.1) fits in
    ap flagged (sym (same_Some parts.1 begun e))
    ∙ ap (λ (b : Bool). (b, parts.1)) (there_is parts.0 parts.1 two.1))

loading_lawful : IsLawful loading_form
unfolding loading_form
loading_lawful =
    let named = list_of named_form in
    let args = both (list_of args_form) (λ _. named) in
    let events = both (list_of event_form) (λ _. args) in
    let modules = both (list_of file_form) (λ _. events) in
    let next = both next_module_form (λ _. modules) in
    seen_lawful loading_nest (λ nest. Some (loading_with nest)) loading_nest_of
    (both_lawful begun_form (λ _. next) begun_lawful
    (λ b. both_lawful next_module_form (λ _. modules) next_lawful
    (λ n. both_lawful (list_of file_form) (λ _. events) script_lawful.files
    (λ m. both_lawful (list_of event_form) (λ _. args) script_lawful.events
    (λ e. both_lawful (list_of args_form) (λ _. named) script_lawful.args
    (λ a. script_lawful.named))))))
    (λ p fits. refl)
    (λ nest p fits e. ap loading_nest_of (sym (same_Some (loading_with nest) p e)))

-- ---- the tables

tables_are_lawful : (size : ℕ) → IsLawful (read_tables size)
unfolding tables_form
tables_are_lawful size =
    let used = used_form (kernel_alone size) in
    seen_lawful (tables_nest used libraries_form stubs_form) (λ lists. Some (tables_with lists))
    table_lists
    (both_lawful used (λ _. both libraries_form (λ _. stubs_form))
    (tables_lawful.blocks (kernel_alone size))
    (λ u. both_lawful libraries_form (λ _. stubs_form) (tables_lawful.libraries [])
    (λ l. tables_lawful.stubs)))
    (λ t fits. refl)
    (λ lists t fits e. ap table_lists (sym (same_Some (tables_with lists) t e)))

-- ---- the whole

ram_lawful : (size : ℕ) → IsLawful (ram_form size)
unfolding ram_form
ram_lawful size = tested_lawful (bytes size) (list_all is_byte) (bytes_lawful size)

rest_lawful : (size : ℕ) → IsLawful (rest_form (read_tables size) size)
rest_lawful size =
    both_lawful (read_tables size) (λ _. both loading_form (λ _. ram_form size))
    (tables_are_lawful size)
    (λ t. both_lawful loading_form (λ _. ram_form size) loading_lawful (λ l. ram_lawful size))

parts_lawful : IsLawful read_machine
unfolding parts_form
parts_lawful =
    seen_lawful (machine_nest core_form read_tables) (λ nest. Some (machine_with nest))
    nest_of_machine
    (both_lawful head_form (λ size. both core_form (λ _. rest_form (read_tables size) size))
    head_lawful
    (λ size. both_lawful core_form (λ _. rest_form (read_tables size) size)
    parts_are_lawful.lawful (λ c. rest_lawful size)))
    (λ p fits. refl)
    (λ nest p fits e. ap nest_of_machine (sym (same_Some (machine_with nest) p e)))

machine_lawful : IsLawful machine_form
unfolding machine_form
machine_lawful = tested_lawful read_machine stubs_go_back parts_lawful

-- what is tested of the tables and of the whole does not change how they are spelled
machine_spelled : (p : MachineParts) → machine_form.spell p ≡ written_machine.spell p
unfolding machine_form parts_form tables_form
machine_spelled p =
    ap (λ core. head_form.spell p.size ++ (core ++ (written_tables.spell p.tables
    ++ (loading_form.spell p.loading ++ (ram_form p.size).spell p.ram))))
    (parts_are_lawful.same p.core)

pub machines_lawful : MachinesAreLawful
machines_lawful = record { lawful = machine_lawful; same = machine_spelled }
