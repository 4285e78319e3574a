-- What is registered, set or made is as it was given.
use Rattle.std.proofs.Common.{◌≡◌, ℕ, ◌+◌, ◌*◌, ◌%◌, ◌^◌, ◌≤◌, ◌==◌, nat_lt, true, not, Option, Some, None, Result, Ok, [], Contains, bit_and, refl, ap, sym, ◌∙◌, subst}
use Rattle.std.proofs.lemmas.Bool.{cond_both, eq-eqb, ne_eqb, le-ltb}
use Rattle.std.proofs.lemmas.List.Elements.{Contains-push_cases}
use mathlib.Core.Logic.{◌⊎◌, inl, inr}
use Rattle.iop_base.specs.declared.code.Code.{Code}
use Rattle.iop_event.specs.EventFlags as flags
use Rattle.iop_intr.specs.InterruptLines.{handler_of, registering}
use Rattle.iop_mbx.specs.Mailboxes as mailboxes
use Rattle.iop_objects.specs.Objects as objects
use Rattle.iop_ready.specs.Priorities.{priority_of as priority_of_word}
use Rattle.iop_sema.specs.Semaphores as semaphores
use Rattle.iop_services.specs.declared.intrman_service.IntrmanService.TheVariants.{RegisterIntrHandler}
use Rattle.iop_services.specs.declared.thbase_service.ThbaseService.TheVariants.{CreateThread, SetAlarm}
use Rattle.iop_services.specs.declared.thevent_service.TheventService.TheVariants.{CreateEventFlag}
use Rattle.iop_services.specs.declared.thmsgbx_service.ThmsgbxService.TheVariants.{CreateMbx}
use Rattle.iop_services.specs.declared.thsemap_service.ThsemapService.TheVariants.{CreateSema}
use Rattle.iop_sysmem.specs.Allocating.{allocating}
use Rattle.iop_sysmem.specs.BlockMap.{BlockMap}
use Rattle.iop_thread.specs.ThreadTable.{ThreadTable, has_room}
use Rattle.iop_thread.specs.declared.param.Param.{Param}
use Rattle.iop_thread.specs.declared.thread.Thread.{Thread}
use Rattle.iop_time.specs.ClockTime.{moment_after}
use Rattle.iop_time.specs.Timers.{sets_alarm}
use Rattle.iop_kernel.specs.Boards.{Board, quiet, word_in}
use Rattle.iop_kernel.specs.EventFlags.{creates_flag_at, serves_thevent}
use Rattle.iop_kernel.specs.Interrupts.{serves_intrman}
use Rattle.iop_kernel.specs.Mailboxes.{creates_mbx_at, serves_thmsgbx}
use Rattle.iop_kernel_laws.specs.MakerLaws.{gp_of, param_at, CanBeMade, with_thread, IsAsked, MadeAsGiven}
use Rattle.iop_kernel.specs.Semaphores.{creates_sema_at, serves_thsemap}
use Rattle.iop_kernel.specs.Stacks.{with_priority, param_of, creates_on, creates_at, creates_with, creates_from}
use Rattle.iop_kernel.specs.System.{System, Served, argument, with_irqs, with_timers, with_semaphores, with_event_flags, with_mailboxes, answers, answers_result, silent, on_core, words_place}
use Rattle.iop_kernel.specs.SystemClock.{sets_alarm_at}
use Rattle.iop_kernel.specs.Thbase.{by_core, serves_thbase}
use Rattle.iop_kernel.specs.declared.event_flags.TheConstants.{FLAG_WORDS}
use Rattle.iop_kernel.specs.declared.mailboxes.TheConstants.{MAILBOX_WORDS}
use Rattle.iop_kernel.specs.declared.semaphores.TheConstants.{SEMAPHORE_WORDS}
use Rattle.iop_kernel.specs.declared.stacks.TheConstants.{ATTRIBUTES, LEAST_STACK, PARAM_WORDS}
use Rattle.iop_kernel.specs.declared.system_clock.TheConstants.{TIME_WORDS}

handler_as_given : (b : Board) → let c = b.core in
    let done = registering c.kernel.irqs (argument c 0)
    (handler_of (argument c 2) (argument c 3) (gp_of c)) in
    serves_intrman b RegisterIntrHandler ≡ quiet b.memory (answers (with_irqs c done.1) done.0)
unfolding serves_intrman
handler_as_given b = refl

alarm_as_given : (s : System) (place : ℕ) → let c = s.core in
    words_place s.memory (argument c 0) TIME_WORDS ≡ Some place
    → let ticks = word_in s.memory place 0 + 2 ^ 32 * word_in s.memory place 1 in
    let done = sets_alarm c.kernel.timers (moment_after c.kernel.clock ticks) (argument c 1)
    (argument c 2) (gp_of c) in
    serves_thbase s SetAlarm ≡ silent (on_core s (answers (with_timers c done.1) done.0))
unfolding serves_thbase
alarm_as_given s place there =
    ap (λ (o : Option ℕ). by_core s
    (sets_alarm_at s.core s.memory o (argument s.core 1) (argument s.core 2))) there

module _ (s : System) (place : ℕ) where
  abbrev word : ℕ → ℕ
  word = word_in s.memory place

  -- the words, as they are asked for
  abbrev asked : ℕ → Param
  asked priority = record {
    attr = word 0;
    option = word 1;
    entry = word 2;
    stack_size = word 3;
    priority = priority;
  }

  abbrev param : Result Param Code
  param = param_of (word 0) (word 1) (word 2) (word 3) (word 4)

  -- where they are good, a thread is made
  made_so : (priority stack : ℕ) (blocks : BlockMap) → CanBeMade s place priority stack blocks
      → (creates_from s (Some place)).left.state
      ≡ with_thread s (param_at s.memory place priority) stack blocks
  made_so priority stack blocks h =
      let attr = eq-eqb (bit_and (word 0) ATTRIBUTES) (word 0) h.attr in
      let entry = eq-eqb (word 2 % 4) 0 h.entry in
      let least = le-ltb (word 3) LEAST_STACK h.least in
      let good : param ≡ Ok (asked priority) = rw (attr, entry, h.within, least) refl in
      let some = ne_eqb stack 0 h.some in
      let on : creates_with s (Ok (asked priority))
      ≡ creates_on s (param_at s.memory place priority) stack blocks =
      rw (h.room, h.taken, some) refl in
      ap (λ (d : Served). d.left.state) (ap (creates_with s) good ∙ on)

  -- no other is
  module _ (there : words_place s.memory (argument s.core 0) PARAM_WORDS ≡ Some place) where
    abbrev Made : Served → Type 0
    Made d =
        (t : Thread) → Contains d.left.state.core.kernel.threads.live t
        → Contains s.core.kernel.threads.live t ⊎ IsAsked s t

    made_on : (priority stack : ℕ) (blocks : BlockMap)
        → priority_of_word (word 4) ≡ Some priority
        → Made (creates_on s (param_at s.memory place priority) stack blocks)
    made_on priority stack blocks is =
        let given = param_at s.memory place priority in
        let P : Result ℕ Code × ThreadTable → Type 0 = λ r. (t : Thread) → Contains r.1.live t
        → Contains s.core.kernel.threads.live t ⊎ IsAsked s t in
        cond_both (has_room s.core.kernel.threads) _ _ P
        (λ room t is_there. elim (Contains-push_cases s.core.kernel.threads.live _ t is_there) [
          | inl old ↦ inl old
          | inr same ↦ inr (subst (λ (u : Thread). IsAsked s u) same (record {
            place = place;
            there = there;
            priority = is;
            param = refl;
            gp = refl;
          }))
        ])
        (λ full t is_there. inl is_there)

    made_at : (priority : ℕ) (taken : ℕ × BlockMap) → priority_of_word (word 4) ≡ Some priority
        → Made (creates_at s (asked priority) taken)
    made_at priority taken is =
        cond_both (taken.0 == 0) _ _ Made (λ none t is_there. inl is_there)
        (λ some. made_on priority taken.0 taken.1 is)

    made_with : (priority : ℕ) → priority_of_word (word 4) ≡ Some priority
        → Made (creates_with s (Ok (asked priority)))
    made_with priority is =
        cond_both (has_room s.core.kernel.threads) _ _ Made
        (λ room. made_at priority (allocating s.blocks _ (word 3) 0) is)
        (λ full t is_there. inl is_there)

    made_by : (o : Option ℕ) → priority_of_word (word 4) ≡ o
        → (r : Result Param Code) → r ≡ with_priority (word 0) (word 1) (word 2) (word 3) o
        → Made (creates_with s r)
    made_by None is r same =
        subst (λ x. Made (creates_with s x)) (sym same) (λ t is_there. inl is_there)
    made_by (Some priority) is r same =
        subst (λ x. Made (creates_with s x)) (sym same)
        (cond_both (nat_lt (word 3) LEAST_STACK) _ _ (λ x. Made (creates_with s x))
        (λ less t is_there. inl is_there) (λ enough. made_with priority is))

    made_from : Made (creates_from s (Some place))
    made_from =
        cond_both (not (bit_and (word 0) ATTRIBUTES == word 0)) _ _
        (λ x. Made (creates_with s x)) (λ bad t is_there. inl is_there)
        (λ good. cond_both (not (word 2 % 4 == 0)) _ _ (λ x. Made (creates_with s x))
        (λ odd t is_there. inl is_there)
        (λ even. made_by (priority_of_word (word 4)) refl _ refl))

thread_as_given : (s : System) (place priority stack : ℕ) (blocks : BlockMap)
    → words_place s.memory (argument s.core 0) PARAM_WORDS ≡ Some place
    → CanBeMade s place priority stack blocks
    → (serves_thbase s CreateThread).left.state
    ≡ with_thread s (param_at s.memory place priority) stack blocks
unfolding serves_thbase
thread_as_given s place priority stack blocks there h =
    ap (λ (o : Option ℕ). (creates_from s o).left.state) there
    ∙ made_so s place priority stack blocks h

threads_as_given : (s : System) (t : Thread)
    → Contains (serves_thbase s CreateThread).left.state.core.kernel.threads.live t
    → Contains s.core.kernel.threads.live t ⊎ IsAsked s t
unfolding serves_thbase
threads_as_given s = by (words_place s.memory (argument s.core 0) PARAM_WORDS) refl
  where
    by : (o : Option ℕ) → words_place s.memory (argument s.core 0) PARAM_WORDS ≡ o
        → (t : Thread) → Contains (creates_from s o).left.state.core.kernel.threads.live t
        → Contains s.core.kernel.threads.live t ⊎ IsAsked s t
    by None none = λ t is_there. inl is_there
    by (Some place) there = made_from s place there

module _ (b : Board) (place : ℕ) where
  abbrev words : ℕ → ℕ
  words = word_in b.memory place

  semaphore_as_given : words_place b.memory (argument b.core 0) SEMAPHORE_WORDS ≡ Some place
      → semaphores.is_attribute (words 0) ≡ true → words 2 ≤ words 3
      → let done = objects.creates b.core.kernel.semaphores (record {
        attr = words 0;
        option = words 1;
        initial = words 2;
        max = words 3;
        count = words 2;
      }) in
      serves_thsemap b CreateSema
      ≡ quiet b.memory (answers_result (with_semaphores b.core done.1) done.0)
  unfolding serves_thsemap
  semaphore_as_given there attr most =
      let few = le-ltb (words 3) (words 2) most in
      ap (λ (o : Option ℕ). quiet b.memory (creates_sema_at b.core b.memory o)) there
      ∙ rw (attr, few) refl

  event_flag_as_given : words_place b.memory (argument b.core 0) FLAG_WORDS ≡ Some place
      → flags.is_attribute (words 0) ≡ true
      → let done = objects.creates b.core.kernel.event_flags (record {
        attr = words 0;
        option = words 1;
        first = words 2;
        pattern = words 2;
      }) in
      serves_thevent b CreateEventFlag
      ≡ quiet b.memory (answers_result (with_event_flags b.core done.1) done.0)
  unfolding serves_thevent
  event_flag_as_given there attr =
      ap (λ (o : Option ℕ). quiet b.memory (creates_flag_at b.core b.memory o)) there
      ∙ rw attr refl

  mailbox_as_given : words_place b.memory (argument b.core 0) MAILBOX_WORDS ≡ Some place
      → mailboxes.is_attribute (words 0) ≡ true
      → let done = objects.creates b.core.kernel.mailboxes
      (record { attr = words 0; option = words 1; messages = [] }) in
      serves_thmsgbx b CreateMbx
      ≡ quiet b.memory (answers_result (with_mailboxes b.core done.1) done.0)
  unfolding serves_thmsgbx
  mailbox_as_given there attr =
      ap (λ (o : Option ℕ). quiet b.memory (creates_mbx_at b.core b.memory o)) there
      ∙ rw attr refl

pub made_as_given : MadeAsGiven
made_as_given = record {
  handlers = handler_as_given;
  alarms = alarm_as_given;
  threads = thread_as_given;
  other_threads = threads_as_given;
  semaphores = semaphore_as_given;
  event_flags = event_flag_as_given;
  mailboxes = mailbox_as_given;
}
