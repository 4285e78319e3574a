-- Each service of the kernel does to the counts of semaphores what the history of calls counts.
use Rattle.std.proofs.Common.{◌≡◌, ℕ, ◌+◌, ◌-◌, ◌<◌, ◌==◌, nat_le, nat_lt, not, true, false, Option, Some, None, Result, Ok, Err, length, refl, arith}
use Rattle.std.specs.Prelude.{⊤}
use Rattle.std.proofs.lemmas.Bool.{and_left, and_right, cond_both, eq-eqb}
use Rattle.std.proofs.lemmas.Bool.Decides.{nat_tests}
use Rattle.iop_base.specs.declared.code.Code.{Code}
use Rattle.iop_base.specs.declared.code.TheConstants.Code.{OK, UNKNOWN_SEMAPHORE, SEMAPHORE_ZERO, SEMAPHORE_OVERFLOW, CANNOT_WAIT}
use Rattle.iop_base.specs.declared.guest_fault.GuestFault.TheVariants.{Address}
use Rattle.iop_objects.specs.Objects.{object_of, state_of, waiters_of, with_state}
use Rattle.iop_objects.specs.Objects as objects
use Rattle.iop_queues.specs.Queue.{Choice, chooses}
use Rattle.iop_objects.specs.declared.waiter.Waiter.{Waiter}
use Rattle.iop_objects.proofs.Others.{waiters_leave_states}
use Rattle.iop_sema.specs.Semaphores.{Semaphores, by_priority, with_count}
use Rattle.iop_sema.specs.Semaphores as semaphores
use Rattle.iop_sema.specs.declared.semaphore.Semaphore.{Semaphore}
use Rattle.iop_services.specs.declared.service.Service.{Service}
use Rattle.iop_services.specs.declared.service.Service.TheVariants.{Thsemap}
use Rattle.iop_services.specs.declared.thsemap_service.ThsemapService.TheVariants.{CreateSema, DeleteSema, SignalSema, WaitSema, PollSema, ReferSemaStatus}
use Rattle.iop_stubs.specs.Stubs.{Memory}
use Rattle.iop_thread.specs.declared.kind.Kind.TheVariants.{Semaphore as SemaphoreOf}
use Rattle.iop_kernel.specs.Boards.{word_in}
use Rattle.iop_kernel_laws.specs.Histories.{is_signal, is_take, signals_in, takes_in, has_waiter, call_with, called}
use Rattle.iop_kernel.specs.Semaphores.{creates_sema_at, signals_by, takes_or_waits, wait_sema, poll_sema, leaves_semaphores, semaphore_words, serves_thsemap}
use Rattle.iop_kernel.specs.Serving.{serves, services}
use Rattle.iop_kernel.specs.System.{Core, Left, System, argument, caller, may_switch, answers, code_word, words_place}
use Rattle.iop_kernel.specs.declared.semaphores.TheConstants.{SEMAPHORE_WORDS, SEMAPHORE_STATUS_WORDS}
use Rattle.iop_kernel_laws.proofs.Histories.Calls.{word_tells, one_waits, none_waits, CoreTells, waits_tell, deletes_tell, status_tells, ServiceTells, others_tell, services_tell}
use Rattle.iop_kernel_laws.proofs.Histories.Calls as telling
use Rattle.iop_kernel_laws.proofs.Histories.CountedHistories.{counts, elsewhere_counts, waited_counts}
use Rattle.iop_kernel_laws.proofs.Histories.Telling.{TellsBy, none_changes, one_changes, creates_told, unless}

-- the service that signals, and one that takes
abbrev Signal : Service
Signal = Thsemap SignalSema

abbrev Wait : Service
Wait = Thsemap WaitSema

abbrev Poll : Service
Poll = Thsemap PollSema

module _ (c : Core) (registers : 2 < length c.cpu.regs) where
  -- the semaphore that it names
  abbrev id : ℕ
  id = argument c 0

  abbrev s : Semaphores
  s = c.kernel.semaphores

  -- by what a call leaves
  abbrev Counts : Service → Left Core → Type 0
  Counts = CoreTells SemaphoreOf counts c

  -- a call that answers a code other than 0 counts nothing
  refused : (x : Service) (code : Code) → (code_word code == 0) ≡ false → Counts x (answers c code)
  refused x = telling.refused SemaphoreOf counts c x registers

  -- a signal by which the count grows, since none waits
  signal_grows : (x : Semaphore) → state_of s id ≡ Some x → nat_le x.max x.count ≡ false
      → has_waiter c Signal ≡ false
      → Counts Signal (signals_by c (Ok None, with_state s id (with_count x (x.count + 1))))
  signal_grows x live below free message =
      let y = with_count x (x.count + 1) in
      let call = call_with c Signal (signals_by c (Ok None, with_state s id y)) message in
      let counted : signals_in id call ≡ 1 =
      rw (eq-eqb id id refl, word_tells c registers 0, free) refl in
      one_changes counts s (Some call) id x y live
      (refl, omega (arith, counted), λ within. grind (arith, nat_tests, below))
      (λ n apart. elsewhere_counts n call apart refl)

  -- by the choice among those that wait
  signals_chosen : (x : Semaphore) → state_of s id ≡ Some x → (o : Option (Choice (Waiter ⊤)))
      → chooses (by_priority x) (waiters_of s id) ≡ o
      → Counts Signal (signals_by c (semaphores.signals_by s id x (objects.takes s id o)))
  signals_chosen x live None is message =
      cond_both (nat_le x.max x.count) (Err SEMAPHORE_OVERFLOW, s)
      (Ok None, with_state s id (with_count x (x.count + 1)))
      (λ (r : Result (Option ℕ) Code × Semaphores). Counts Signal (signals_by c r))
      (λ full. refused Signal SEMAPHORE_OVERFLOW refl)
      (λ below. signal_grows x live below (none_waits (by_priority x) (waiters_of s id) is)) message
  signals_chosen x live (Some one) is message =
      let left = signals_by c (semaphores.signals_by s id x (objects.takes s id (Some one))) in
      let call = call_with c Signal left message in
      let waited = one_waits (by_priority x) (waiters_of s id) one is in
      none_changes counts s (Some call) left.state.kernel.semaphores
      (λ n. waited_counts n call waited refl)
      (waiters_leave_states id one.others s) (omega arith)

  -- by what is known of the semaphore
  signals_counted : (o : Option Semaphore) → state_of s id ≡ o
      → Counts Signal (signals_by c (semaphores.signals_it s id o))
  signals_counted None live = refused Signal UNKNOWN_SEMAPHORE refl
  signals_counted (Some x) live =
      signals_chosen x live (chooses (by_priority x) (waiters_of s id)) refl

  -- one is taken: the count falls
  take_lowers : (called : Service) → is_take called ≡ true → is_signal called ≡ false
      → (x : Semaphore) → state_of s id ≡ Some x → (x.count == 0) ≡ false
      → Counts called (leaves_semaphores c (OK, with_state s id (with_count x (x.count - 1))))
  take_lowers called takes no_signal x live some message =
      let y = with_count x (x.count - 1) in
      let call = call_with c called (leaves_semaphores c (OK, with_state s id y)) message in
      let counted : takes_in id call ≡ 1 =
      rw (takes, eq-eqb id id refl, word_tells c registers 0) refl in
      let none : signals_in id call ≡ 0 = rw no_signal refl in
      let more : 0 < x.count = grind (arith, nat_tests, some) in
      one_changes counts s (Some call) id x y live
      (refl, omega (arith, counted, more, none), λ within. omega (arith, within))
      (λ n apart. elsewhere_counts n call (and_left _ (id == n) no_signal)
      (and_right (is_take called) (id == n) apart))

  -- by what is known of the semaphore, and whether its count is 0
  takes_by : (C : Code × Semaphores → Type 0) → C (UNKNOWN_SEMAPHORE, s) → C (SEMAPHORE_ZERO, s)
      → ((x : Semaphore) → state_of s id ≡ Some x → (x.count == 0) ≡ false
      → C (OK, with_state s id (with_count x (x.count - 1))))
      → (o : Option Semaphore) → state_of s id ≡ o → C (semaphores.takes_it s id o)
  takes_by C unknown zero some None live = unknown
  takes_by C unknown zero some (Some x) live =
      cond_both (x.count == 0) _ _ C (λ none. zero) (some x live)

  -- where another thread may run, the one that calls waits for a count that is 0
  wait_sema_counts : Counts Wait (wait_sema c id)
  wait_sema_counts =
      cond_both (may_switch c.kernel) _ _ (Counts Wait)
      (λ may. takes_by (λ (r : Code × Semaphores). Counts Wait (takes_or_waits c id r))
      (refused Wait UNKNOWN_SEMAPHORE refl)
      (waits_tell SemaphoreOf counts c Wait id tt (caller c)) (take_lowers Wait refl refl)
      (state_of s id) refl)
      (λ cannot. refused Wait CANNOT_WAIT refl)

  -- or it is refused
  poll_sema_counts : Counts Poll (poll_sema c id)
  poll_sema_counts =
      takes_by (λ (r : Code × Semaphores). Counts Poll (leaves_semaphores c r))
      (refused Poll UNKNOWN_SEMAPHORE refl) (refused Poll SEMAPHORE_ZERO refl)
      (take_lowers Poll refl refl) (state_of s id) refl

  -- one is made, by the place of the words
  creates_sema_counts : (memory : Memory) (o : Option ℕ)
      → Counts (Thsemap CreateSema) (creates_sema_at c memory o)
  creates_sema_counts memory None message =
      telling.faulted SemaphoreOf counts c (Thsemap CreateSema) Address message
  creates_sema_counts memory (Some place) message =
      let word : ℕ → ℕ = word_in memory place in
      let made = call_with c (Thsemap CreateSema) (creates_sema_at c memory (Some place)) message in
      let call = Some made in
      let nothing : (n : ℕ) → counts.Nothing n call = λ n. counts.silent n made (refl, refl) in
      unless counts s call nothing (not (semaphores.is_attribute (word 0))) _ _
      (λ legal. unless counts s call nothing (nat_lt (word 3) (word 2)) _ _
      (λ fits. creates_told counts s call nothing (record {
        attr = word 0;
        option = word 1;
        initial = word 2;
        max = word 3;
        count = word 2;
      }) (refl, grind (arith, nat_tests, fits))))

module _ (s : System) (registers : 2 < length s.core.cpu.regs) where
  -- each service
  each : (x : Service) → ServiceTells SemaphoreOf counts s x (serves s x)
  unfolding serves serves_thsemap
  each (Thsemap CreateSema) =
      creates_sema_counts s.core registers s.memory
      (words_place s.memory (argument s.core 0) SEMAPHORE_WORDS)
  each (Thsemap DeleteSema) =
      deletes_tell SemaphoreOf counts s.core (Thsemap DeleteSema) (refl, refl)
      (object_of s.core.kernel.semaphores.live (argument s.core 0))
  each (Thsemap SignalSema) =
      signals_counted s.core registers (state_of s.core.kernel.semaphores (argument s.core 0)) refl
  each (Thsemap WaitSema) = wait_sema_counts s.core registers
  each (Thsemap PollSema) = poll_sema_counts s.core registers
  each (Thsemap ReferSemaStatus) =
      status_tells SemaphoreOf counts s.core (Thsemap ReferSemaStatus) (refl, refl) s.memory
      semaphore_words (argument s.core 0)
      (words_place s.memory (argument s.core 1) SEMAPHORE_STATUS_WORDS)
  each other = others_tell SemaphoreOf counts s other (refl, refl) (λ is. absurd (cc is))

-- each service counts as it is called, where the processor has its registers
pub services_count : (s : System) (code : ℕ) → 2 < length s.core.cpu.regs
    → TellsBy counts s.core.kernel.semaphores (services s code).left.state.core.kernel.semaphores
    (called s code)
services_count s code registers =
    services_tell SemaphoreOf counts s registers (λ x. each s registers x _) code
