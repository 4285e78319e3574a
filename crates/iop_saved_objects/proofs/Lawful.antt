-- The forms of objects, and of the lists of them that a table takes, are lawful.
use Rattle.std.proofs.Common.{◌≡◌, ℕ, Option, Some, List, length, refl, sym, ap, ◌∙◌}
use Rattle.std.proofs.lemmas.Option.{same_Some}
use Rattle.iop_snapshot.specs.Forms.{Form, IsLawful, item, seen_as, series}
use Rattle.iop_snapshot.specs.Putting.{next_form}
use Rattle.iop_snapshot.specs.declared.widths.TheConstants.{THREAD_ID, SEMAPHORE, EVENT_FLAG, EVENT_FLAG_WAITER, MAILBOX, MAILBOX_WAITER, MESSAGE, VARIABLE_POOL, POOL_RANGE, FIXED_POOL, POOL_BLOCK}
use Rattle.iop_snapshot.proofs.Combining.{item_lawful, seen_lawful, both_lawful}
use Rattle.iop_snapshot.proofs.Listing.{series_lawful}
use Rattle.iop_snapshot.proofs.Numbers.{numbers_from-all, fits_long}
use Rattle.iop_snapshot.proofs.Putting.{next_series}
use Rattle.iop_saved_objects.specs.EventFlags.{flag_head_numbers, flag_head_of, flag_head, event_flag_form, put_event_flag}
use Rattle.iop_saved_objects.specs.FixedPools as fixed
use Rattle.iop_saved_objects.specs.Laws.{FormsAreLawful}
use Rattle.iop_saved_objects.specs.Lists.{list_of, with_list}
use Rattle.iop_saved_objects.specs.Mailboxes.{mailbox_numbers, mailbox_of, mailbox_head, message_numbers, message_of, message_form, mailbox_form, put_mailbox}
use Rattle.iop_saved_objects.specs.Semaphores.{semaphore_numbers, semaphore_of, semaphore_head, semaphore_form, put_semaphore}
use Rattle.iop_saved_objects.specs.VariablePools as variable
use Rattle.iop_saved_objects.specs.Waiters.{plain_numbers, plain_of, plain_form, flag_numbers, flag_of, flag_form, asking_numbers, asking_of, asking_form}

-- so many numbers that are seen as a value, which tells them in their order
pub numbers_lawful : {X : Type 0} (widths : List ℕ) (of : List ℕ → Option X) (numbers : X → List ℕ)
    → ((x : X) → of (numbers x) ≡ Some x)
    → ((ns : List ℕ) (x : X) → length ns ≡ length widths → of ns ≡ Some x → numbers x ≡ ns)
    → IsLawful (seen_as (item widths) of numbers)
unfolding item
numbers_lawful widths of numbers there again =
    seen_lawful (item widths) of numbers (item_lawful widths) (λ x fits. there x)
    (λ ns x fits e. again ns x (fits_long widths ns fits) e)

plain_lawful : IsLawful plain_form
unfolding plain_form
plain_lawful =
    numbers_lawful THREAD_ID plain_of plain_numbers (λ x. refl)
    (λ ns x long e. ap plain_numbers (sym (same_Some _ x e)) ∙ numbers_from-all 0 1 ns long)

flag_lawful : IsLawful flag_form
unfolding flag_form
flag_lawful =
    numbers_lawful EVENT_FLAG_WAITER flag_of flag_numbers (λ x. refl)
    (λ ns x long e. ap flag_numbers (sym (same_Some _ x e)) ∙ numbers_from-all 0 4 ns long)

asking_lawful : IsLawful asking_form
unfolding asking_form
asking_lawful =
    numbers_lawful MAILBOX_WAITER asking_of asking_numbers (λ x. refl)
    (λ ns x long e. ap asking_numbers (sym (same_Some _ x e)) ∙ numbers_from-all 0 2 ns long)

semaphore_head_lawful : IsLawful semaphore_head
unfolding semaphore_head
semaphore_head_lawful =
    numbers_lawful SEMAPHORE semaphore_of semaphore_numbers (λ x. refl)
    (λ ns x long e. ap semaphore_numbers (sym (same_Some _ x e)) ∙ numbers_from-all 0 6 ns long)

flag_head_lawful : IsLawful flag_head
unfolding flag_head
flag_head_lawful =
    numbers_lawful EVENT_FLAG flag_head_of flag_head_numbers (λ x. refl)
    (λ ns x long e. ap flag_head_numbers (sym (same_Some _ x e)) ∙ numbers_from-all 0 5 ns long)

mailbox_head_lawful : IsLawful mailbox_head
unfolding mailbox_head
mailbox_head_lawful =
    numbers_lawful MAILBOX mailbox_of mailbox_numbers (λ x. refl)
    (λ ns x long e. ap mailbox_numbers (sym (same_Some _ x e)) ∙ numbers_from-all 0 3 ns long)

message_lawful : IsLawful message_form
unfolding message_form
message_lawful =
    numbers_lawful MESSAGE message_of message_numbers (λ x. refl)
    (λ ns x long e. ap message_numbers (sym (same_Some _ x e)) ∙ numbers_from-all 0 2 ns long)

variable_head_lawful : IsLawful variable.pool_head
unfolding variable.pool_head
variable_head_lawful =
    numbers_lawful VARIABLE_POOL variable.pool_of variable.pool_numbers (λ x. refl)
    (λ ns x long e.
    ap variable.pool_numbers (sym (same_Some _ x e)) ∙ numbers_from-all 0 5 ns long)

range_lawful : IsLawful variable.range_form
unfolding variable.range_form
range_lawful =
    numbers_lawful POOL_RANGE variable.range_of variable.range_numbers (λ x. refl)
    (λ ns x long e.
    ap variable.range_numbers (sym (same_Some _ x e)) ∙ numbers_from-all 0 2 ns long)

fixed_head_lawful : IsLawful fixed.pool_head
unfolding fixed.pool_head
fixed_head_lawful =
    numbers_lawful FIXED_POOL fixed.pool_of fixed.pool_numbers (λ x. refl)
    (λ ns x long e. ap fixed.pool_numbers (sym (same_Some _ x e)) ∙ numbers_from-all 0 6 ns long)

block_lawful : IsLawful fixed.block_form
unfolding fixed.block_form
block_lawful =
    numbers_lawful POOL_BLOCK fixed.block_of fixed.block_numbers (λ x. refl)
    (λ ns x long e. ap fixed.block_numbers (sym (same_Some _ x e)) ∙ numbers_from-all 0 1 ns long)

-- a list of items of one form
pub list_lawful : {X : Type 0} (form : Form X) → IsLawful form → IsLawful (list_of form)
list_lawful form law =
    series_lawful form (λ _. form) (record { lawful = λ before. law; same = λ before x. refl })

with_list_lawful : {H X : Type 0} (form : Form H) (item : Form X) → IsLawful form → IsLawful item
    → IsLawful (with_list form item)
with_list_lawful form item law item_law =
    both_lawful form (λ _. list_of item) law (λ _. list_lawful item item_law)

pub semaphore_lawful : IsLawful semaphore_form
unfolding semaphore_form
semaphore_lawful = with_list_lawful semaphore_head plain_form semaphore_head_lawful plain_lawful

pub event_flag_lawful : IsLawful event_flag_form
unfolding event_flag_form
event_flag_lawful = with_list_lawful flag_head flag_form flag_head_lawful flag_lawful

pub mailbox_lawful : IsLawful mailbox_form
unfolding mailbox_form
mailbox_lawful =
    with_list_lawful (with_list mailbox_head asking_form) message_form
    (with_list_lawful mailbox_head asking_form mailbox_head_lawful asking_lawful) message_lawful

pub variable_pool_lawful : IsLawful variable.variable_pool_form
unfolding variable.variable_pool_form
variable_pool_lawful =
    with_list_lawful (with_list variable.pool_head variable.range_form) asking_form
    (with_list_lawful variable.pool_head variable.range_form variable_head_lawful range_lawful)
    asking_lawful

pub fixed_pool_lawful : IsLawful fixed.fixed_pool_form
unfolding fixed.fixed_pool_form
fixed_pool_lawful =
    with_list_lawful (with_list fixed.pool_head fixed.block_form) plain_form
    (with_list_lawful fixed.pool_head fixed.block_form fixed_head_lawful block_lawful)
    plain_lawful

-- the lists of which a table takes each behind those before
taken_lawful : {T X : Type 0} (put : T → X → Option T) (form : Form X) → IsLawful form → (t : T)
    → IsLawful (series form (next_form put form t))
taken_lawful put form law t =
    series_lawful form (next_form put form t) (next_series put form law t)

pub forms_lawful : (priorities : ℕ → Option ℕ) → FormsAreLawful priorities
forms_lawful priorities = record {
  semaphores = taken_lawful (put_semaphore priorities) semaphore_form semaphore_lawful;
  event_flags = taken_lawful (put_event_flag priorities) event_flag_form event_flag_lawful;
  mailboxes = taken_lawful (put_mailbox priorities) mailbox_form mailbox_lawful;
  variable_pools =
      taken_lawful (variable.put_variable_pool priorities) variable.variable_pool_form
      variable_pool_lawful;
  fixed_pools =
      taken_lawful (fixed.put_fixed_pool priorities) fixed.fixed_pool_form fixed_pool_lawful;
  alike = refl;
}
