-- The form of the kernel's part is lawful.
use Rattle.std.proofs.Common.{◌≡◌, ℕ, Bool, true, false, cond, eqb, ltb, not, Option, Some, None, List, ◌++◌, get_or, length, is_some, refl, sym, ap, ◌∙◌}
use Rattle.std.specs.List.{flat_map}
use Rattle.std.proofs.lemmas.Bool.{and_parts, eqb-true}
use Rattle.std.proofs.lemmas.Option.{same_Some}
use Rattle.iop_exec.specs.declared.cpu.Cpu.{Cpu}
use Rattle.iop_intr.specs.declared.irqs.TheConstants.{IRQ_LINES}
use Rattle.iop_kernel.specs.declared.active_handler.Cause.{Cause}
use Rattle.iop_kernel.specs.declared.active_handler.Cause.TheVariants.{Line, Alarm}
use Rattle.iop_saved_objects.proofs.Lawful.{numbers_lawful, list_lawful, semaphore_lawful, event_flag_lawful, mailbox_lawful, variable_pool_lawful, fixed_pool_lawful}
use Rattle.iop_saved_objects.specs.Lists.{list_of}
use Rattle.iop_saved_objects.specs.EventFlags.{SavedFlag, event_flag_form}
use Rattle.iop_saved_objects.specs.FixedPools as fixed
use Rattle.iop_saved_objects.specs.FixedPools.{fixed_pool_form}
use Rattle.iop_saved_objects.specs.Mailboxes.{SavedMailbox, mailbox_form}
use Rattle.iop_saved_objects.specs.Semaphores.{semaphore_form}
use Rattle.iop_saved_objects.specs.VariablePools as variable
use Rattle.iop_saved_objects.specs.VariablePools.{variable_pool_form}
use Rattle.iop_saved_tables.proofs.Lawful.{alarm_lawful, delay_lawful}
use Rattle.iop_saved_tables.proofs.LineLaws.{lines_lawful}
use Rattle.iop_saved_tables.specs.Lines.{lines_form}
use Rattle.iop_saved_tables.specs.Records.{alarm_form, delay_form}
use Rattle.iop_saved_threads.proofs.ProcessorLaws.{steady_lawful, kept_lawful}
use Rattle.iop_saved_threads.proofs.ReadyBack.{ready_series}
use Rattle.iop_saved_threads.proofs.ThreadLaws.{threads_lawful, same_spelling}
use Rattle.iop_saved_threads.specs.Processors.{cpu_form, steady_form, kept_form}
use Rattle.iop_saved_threads.specs.Tables.{id_form, next_ready}
use Rattle.iop_saved_threads.specs.Threads.{read_form}
use Rattle.iop_snapshot.proofs.Combining.{item_lawful, both_lawful, seen_lawful, seen_tested_lawful, tested_lawful, present_lawful, then_some, map_some}
use Rattle.iop_snapshot.proofs.Flags.{flag_again, flag_is}
use Rattle.iop_snapshot.proofs.Listing.{series_lawful}
use Rattle.iop_snapshot.proofs.Numbers.{numbers_from-all, fits_long}
use Rattle.iop_snapshot.specs.Flags.{flag_of}
use Rattle.iop_snapshot.specs.Forms.{Form, IsLawful, both, item, present, seen_as, series, spell_count, spell_list, spell_where}
use Rattle.iop_snapshot.specs.declared.widths.TheConstants.{KERNEL, NEXT}
use Rattle.iop_saved_kernel.specs.Executing.{executing_of, executing_parts, executing_nest, executing_form}
use Rattle.iop_saved_kernel.specs.Heads.{running_number, running_of, cause_kind, cause_number, cause_of, head_numbers, head_with, head_of, head_form, has_id, is_cause, is_head, read_head, executes, has_interrupted}
use Rattle.iop_saved_kernel.specs.Laws.{PartsAreLawful}
use Rattle.iop_saved_kernel.specs.Next.{next_numbers, next_of, next_form}
use Rattle.iop_saved_kernel.specs.ObjectLists.{objects_with, objects_parts, objects_nest, objects_form}
use Rattle.iop_saved_kernel.specs.Parts.{Parts, nest_form, parts_with, nest_of, parts_form, written_form, steady_form_of_parts, core_back, core_form}
use Rattle.iop_saved_kernel.specs.ThreadLists.{ThreadLists, threads_with, threads_parts, threads_form, written_threads, read_threads}
use Rattle.iop_saved_kernel.specs.TimerLists.{timers_with, timers_parts, timers_form}
use Rattle.iop_saved_kernel.specs.declared.executing.Executing.{Executing}
use Rattle.iop_saved_kernel.specs.declared.head.KernelHead.{KernelHead}

-- ---- a head is seen in its own numbers

running_again : (running : Option ℕ) → has_id running ≡ true
    → running_of (running_number running) ≡ running
running_again None h = refl
running_again (Some id) h = by (eqb id 0) refl h
  where
    by : (b : Bool) → eqb id 0 ≡ b → not b ≡ true → cond b None (Some id) ≡ Some id
    by true is h = absurd cc
    by false is h = refl

cause_again : (cause : Option Cause) → is_cause cause ≡ true
    → cause_of (cause_kind cause) (cause_number cause) ≡ Some cause
cause_again None h = refl
cause_again (Some (Line line)) h = rw h refl
cause_again (Some (Alarm number)) h = refl

head_again : (h : KernelHead) → is_head h ≡ true → head_of (head_numbers h) ≡ Some h
head_again h is =
    let parts = and_parts (has_id h.running) (is_cause h.cause) is in
    rw (
      flag_again h.interrupts,
      flag_again h.dispatching,
      cause_again h.cause parts.1,
      running_again h.running parts.0,
    ) refl

-- and numbers are those of the head that is seen in them
running_is : (id : ℕ) → running_number (running_of id) ≡ id
running_is id = by (eqb id 0) (eqb-true id 0)
  where
    by : (b : Bool) → (b ≡ true → id ≡ 0) → running_number (cond b None (Some id)) ≡ id
    by true zero = sym (zero refl)
    by false zero = refl

record HasNumbers (cause : Option Cause) (kind number : ℕ) : Type 0 where
  pub kind_is : cause_kind cause ≡ kind
  pub number_is : cause_number cause ≡ number

cause_is : (kind number : ℕ) (cause : Option Cause) → cause_of kind number ≡ Some cause
    → HasNumbers cause kind number
cause_is kind number cause e =
    by (eqb kind 0) (eqb kind 1) (eqb kind 2) (eqb number 0) (ltb number IRQ_LINES)
    (eqb-true kind 0) (eqb-true kind 1) (eqb-true kind 2) (eqb-true number 0) e
  where
    by : (a b c zero small : Bool) → (a ≡ true → kind ≡ 0) → (b ≡ true → kind ≡ 1)
        → (c ≡ true → kind ≡ 2) → (zero ≡ true → number ≡ 0)
        → cond a (cond zero (Some None) None)
        (cond b (cond small (Some (Some (Line number))) None)
        (cond c (Some (Some (Alarm number))) None))
        ≡ Some cause
        → HasNumbers cause kind number
    by true b c true small is_0 is_1 is_2 none e =
        let same = same_Some None cause e in record {
          kind_is = ap cause_kind (sym same) ∙ sym (is_0 refl);
          number_is = ap cause_number (sym same) ∙ sym (none refl);
        }
    by true b c false small is_0 is_1 is_2 none e = absurd cc
    by false true c zero true is_0 is_1 is_2 none e =
        let same = same_Some (Some (Line number)) cause e in record {
          kind_is = ap cause_kind (sym same) ∙ sym (is_1 refl);
          number_is = ap cause_number (sym same);
        }
    by false true c zero false is_0 is_1 is_2 none e = absurd cc
    by false false true zero small is_0 is_1 is_2 none e =
        let same = same_Some (Some (Alarm number)) cause e in record {
          kind_is = ap cause_kind (sym same) ∙ sym (is_2 refl);
          number_is = ap cause_number (sym same);
        }
    by false false false zero small is_0 is_1 is_2 none e = absurd cc

head_back : (ns : List ℕ) (h : KernelHead) → length ns ≡ 6 → head_of ns ≡ Some h
    → head_numbers h ≡ ns
head_back ns h long e =
    let one = then_some (flag_of (get_or ns 1 0)) _ h e in
    let two = then_some (flag_of (get_or ns 2 0)) _ h one.2 in
    let three = map_some (cause_of (get_or ns 4 0) (get_or ns 5 0)) (head_with ns one.0 two.0) h
    two.2 in
    let interrupts = flag_is (get_or ns 1 0) one.0 one.1 in
    let dispatching = flag_is (get_or ns 2 0) two.0 two.1 in
    let cause = cause_is (get_or ns 4 0) (get_or ns 5 0) three.0 three.1 in
    ap head_numbers (sym three.2)
    ∙ rw (interrupts, dispatching, running_is (get_or ns 3 0), cause.kind_is, cause.number_is)
    (numbers_from-all 0 6 ns long)

head_lawful : IsLawful read_head
unfolding head_form item
head_lawful =
    seen_tested_lawful (item KERNEL) head_of head_numbers is_head (item_lawful KERNEL)
    (λ h fits is. head_again h is) (λ ns h fits e. head_back ns h (fits_long KERNEL ns fits) e)

-- ---- the parts

-- what is seen as a record of the same values
record_lawful : {X Y : Type 0} (form : Form X) (made : X → Y) (parts : Y → X)
    → ((y : Y) → made (parts y) ≡ y) → ((x : X) → parts (made x) ≡ x) → IsLawful form
    → IsLawful (seen_as form (λ x. Some (made x)) parts)
record_lawful form made parts there back law =
    seen_lawful form (λ x. Some (made x)) parts law (λ y fits. ap Some (there y))
    (λ x y fits e. ap parts (sym (same_Some (made x) y e)) ∙ back x)

executing_lawful : IsLawful (executing_form read_head steady_form kept_form)
unfolding executing_form
executing_lawful =
    record_lawful (executing_nest read_head steady_form kept_form) executing_of executing_parts
    (λ e. refl) (λ parts. refl)
    (both_lawful read_head
    (λ h. both (present (executes h) steady_form) (λ _. present (has_interrupted h) kept_form))
    head_lawful
    (λ h. both_lawful (present (executes h) steady_form)
    (λ _. present (has_interrupted h) kept_form)
    (present_lawful (executes h) steady_form steady_lawful)
    (λ cpu. present_lawful (has_interrupted h) kept_form kept_lawful)))

read_threads_lawful : IsLawful read_threads
unfolding threads_form
read_threads_lawful =
    record_lawful (both (list_of read_form) (λ _. series id_form next_ready)) threads_with
    threads_parts (λ t. refl) (λ lists. refl)
    (both_lawful (list_of read_form) (λ _. series id_form next_ready)
    (list_lawful read_form threads_lawful)
    (λ live. series_lawful id_form next_ready ready_series))

-- the lists of objects from a kind on
abbrev pool_lists : Form (List variable.SavedPool × List fixed.SavedPool)
pool_lists = both (list_of variable_pool_form) (λ _. list_of fixed_pool_form)

abbrev mailbox_lists : Form (List SavedMailbox × (List variable.SavedPool × List fixed.SavedPool))
mailbox_lists = both (list_of mailbox_form) (λ _. pool_lists)

abbrev flag_lists : Form (List SavedFlag
    × (List SavedMailbox × (List variable.SavedPool × List fixed.SavedPool)))
flag_lists = both (list_of event_flag_form) (λ _. mailbox_lists)

objects_lawful : IsLawful objects_form
unfolding objects_form
objects_lawful =
    record_lawful objects_nest objects_with objects_parts (λ o. refl) (λ lists. refl)
    (both_lawful (list_of semaphore_form) (λ _. flag_lists)
    (list_lawful semaphore_form semaphore_lawful)
    (λ s. both_lawful (list_of event_flag_form) (λ _. mailbox_lists)
    (list_lawful event_flag_form event_flag_lawful)
    (λ e. both_lawful (list_of mailbox_form) (λ _. pool_lists)
    (list_lawful mailbox_form mailbox_lawful)
    (λ m. both_lawful (list_of variable_pool_form) (λ _. list_of fixed_pool_form)
    (list_lawful variable_pool_form variable_pool_lawful)
    (λ v. list_lawful fixed_pool_form fixed_pool_lawful)))))

timers_lawful : IsLawful timers_form
unfolding timers_form
timers_lawful =
    record_lawful (both (list_of alarm_form) (λ _. list_of delay_form)) timers_with timers_parts
    (λ t. refl) (λ lists. refl)
    (both_lawful (list_of alarm_form) (λ _. list_of delay_form)
    (list_lawful alarm_form alarm_lawful) (λ alarms. list_lawful delay_form delay_lawful))

next_lawful : IsLawful next_form
unfolding next_form
next_lawful =
    numbers_lawful NEXT next_of next_numbers (λ n. refl)
    (λ ns n long e. ap next_numbers (sym (same_Some _ n e)) ∙ numbers_from-all 0 7 ns long)

parts_lawful : IsLawful steady_form_of_parts
unfolding parts_form
parts_lawful =
    let first = executing_form read_head steady_form kept_form in
    let lines = both lines_form (λ _. next_form) in
    let timers = both timers_form (λ _. lines) in
    let objects = both objects_form (λ _. timers) in
    let threads = both read_threads (λ _. objects) in
    record_lawful (nest_form first read_threads) parts_with nest_of (λ p. refl) (λ nest. refl)
    (both_lawful first (λ _. threads) executing_lawful
    (λ e. both_lawful read_threads (λ _. objects) read_threads_lawful
    (λ t. both_lawful objects_form (λ _. timers) objects_lawful
    (λ o. both_lawful timers_form (λ _. lines) timers_lawful
    (λ m. both_lawful lines_form (λ _. next_form) lines_lawful (λ irqs. next_lawful))))))

-- ---- they are spelled as they are written

registers_spelled : (form other : Form Cpu) → ((cpu : Cpu) → form.spell cpu ≡ other.spell cpu)
    → (registers : Option Cpu) → spell_where form registers ≡ spell_where other registers
registers_spelled form other same None = refl
registers_spelled form other same (Some cpu) = same cpu

executing_spelled : (e : Executing) → (executing_form read_head steady_form kept_form).spell e
    ≡ (executing_form head_form cpu_form cpu_form).spell e
unfolding executing_form
executing_spelled e =
    λ i. head_form.spell e.head
    ++ (registers_spelled steady_form cpu_form (λ cpu. refl) e.cpu i
    ++ registers_spelled kept_form cpu_form (λ cpu. refl) e.kept i)

threads_spelled : (lists : ThreadLists) → read_threads.spell lists ≡ written_threads.spell lists
unfolding threads_form spell_list
threads_spelled lists =
    λ i. (spell_count (length lists.live) ++ flat_map (λ t. same_spelling t i) lists.live)
    ++ spell_list id_form lists.ready

core_spelled : (p : Parts) → core_form.spell p ≡ written_form.spell p
unfolding core_form parts_form
core_spelled p =
    λ i. executing_spelled p.executing i ++ (threads_spelled p.threads i
    ++ (objects_form.spell p.objects ++ (timers_form.spell p.timers
    ++ (lines_form.spell p.irqs ++ next_form.spell p.next))))

core_lawful : IsLawful core_form
unfolding core_form
core_lawful =
    tested_lawful steady_form_of_parts (λ p. is_some (core_back p)) parts_lawful

pub parts_are_lawful : PartsAreLawful
parts_are_lawful = record { lawful = core_lawful; same = core_spelled }
