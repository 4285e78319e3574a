-- The services of thsemap (ps2sdk: thsemap.h; the codes are those of its kerr.h). The conditions
-- and the order of the refusals, and the words that ReferSemaStatus writes, are this project's own
-- profile.
use Rattle.std.specs.Prelude.{ℕ, if◌then◌else◌, Option, Some, None, Result, Ok, Err, List, [], ◌∷◌, length}
use Rattle.iop_base.specs.declared.code.Code.{Code}
use Rattle.iop_base.specs.declared.code.TheConstants.Code.{OK, SEMAPHORE_ZERO, CANNOT_WAIT}
use Rattle.iop_base.specs.declared.guest_fault.GuestFault.TheVariants.{Address}
use Rattle.iop_kernel.specs.Boards.{Board, quiet, word_in}
use Rattle.iop_kernel.specs.Kinds.{Live}
use Rattle.iop_kernel.specs.ObjectServices.{waits_for, delete_object, refer_status}
use Rattle.iop_kernel.specs.System.{Core, Left, Done, argument, may_switch, caller, with_semaphores, answers, answers_result, faults, words_place}
use Rattle.iop_kernel.specs.Waits.{is_code, wakes_with}
use Rattle.iop_kernel.specs.declared.semaphores.TheConstants.{SEMAPHORE_WORDS, SEMAPHORE_STATUS_WORDS}
use Rattle.iop_sema.specs.Semaphores.{Semaphores}
use Rattle.iop_sema.specs.Semaphores as semaphores
use Rattle.iop_services.specs.declared.thsemap_service.ThsemapService.{ThsemapService}
use Rattle.iop_services.specs.declared.thsemap_service.ThsemapService.TheVariants as service
use Rattle.iop_stubs.specs.Stubs.{Memory}
use Rattle.iop_thread.specs.declared.kind.Kind.TheVariants.{Semaphore}

-- a live semaphore
abbrev pub LiveSemaphore : Type 0
LiveSemaphore = Live Semaphore

module _ (c : Core) where
  -- an operation on semaphores answers a code
  abbrev pub leaves_semaphores : Code × Semaphores → Left Core
  leaves_semaphores (code, left) = answers (with_semaphores c left) code

  -- by the place of the words: attribute, option, first count, most
  abbrev pub creates_sema_at : Memory → Option ℕ → Left Core
  creates_sema_at memory None = faults c Address
  creates_sema_at memory (Some place) =
      let word : ℕ → ℕ = word_in memory place in
      let done = semaphores.creates c.kernel.semaphores (word 0) (word 1) (word 2) (word 3) in
      answers_result (with_semaphores c done.1) done.0

  -- CreateSema
  abbrev pub create_sema : Memory → (at : ℕ) → Left Core
  create_sema memory at = creates_sema_at memory (words_place memory at SEMAPHORE_WORDS)

  -- DeleteSema
  abbrev pub delete_sema : (id : ℕ) → Left Core
  delete_sema = delete_object Semaphore c

  -- by what the signal came to: a thread is woken with 0, or the count has grown
  abbrev pub signals_by : Result (Option ℕ) Code × Semaphores → Left Core
  signals_by (Err code, left) = answers c code
  signals_by (Ok None, left) = answers (with_semaphores c left) OK
  signals_by (Ok (Some thread), left) =
      answers (wakes_with (with_semaphores c left) thread OK) OK

  -- SignalSema
  abbrev pub signal_sema : (id : ℕ) → Left Core
  signal_sema id = signals_by (semaphores.signals c.kernel.semaphores id)

  -- the thread that calls waits for a semaphore
  abbrev pub waits_for_sema : (id : ℕ) → Option ℕ → Left Core
  waits_for_sema id = waits_for Semaphore c id tt

  -- it waits where the count is 0
  abbrev pub takes_or_waits : (id : ℕ) → Code × Semaphores → Left Core
  takes_or_waits id (code, left) =
      if is_code code SEMAPHORE_ZERO then waits_for_sema id (caller c)
      else leaves_semaphores (code, left)

  -- WaitSema
  abbrev pub wait_sema : (id : ℕ) → Left Core
  wait_sema id =
      if may_switch c.kernel then takes_or_waits id (semaphores.takes c.kernel.semaphores id)
      else answers c CANNOT_WAIT

  -- PollSema
  abbrev pub poll_sema : (id : ℕ) → Left Core
  poll_sema id = leaves_semaphores (semaphores.takes c.kernel.semaphores id)

-- the words of a semaphore's status
abbrev pub semaphore_words : LiveSemaphore → List ℕ
semaphore_words o =
    o.state.attr ∷ o.state.option ∷ o.state.initial ∷ o.state.max ∷ o.state.count
    ∷ length o.waiters ∷ []

-- ReferSemaStatus
abbrev pub refer_sema_status : Board → (id at : ℕ) → Done Board
refer_sema_status b = refer_status Semaphore semaphore_words b SEMAPHORE_STATUS_WORDS

-- a service of thsemap
unfoldable pub serves_thsemap : Board → ThsemapService → Done Board
serves_thsemap b service.CreateSema =
    quiet b.memory (create_sema b.core b.memory (argument b.core 0))
serves_thsemap b service.DeleteSema = quiet b.memory (delete_sema b.core (argument b.core 0))
serves_thsemap b service.SignalSema = quiet b.memory (signal_sema b.core (argument b.core 0))
serves_thsemap b service.WaitSema = quiet b.memory (wait_sema b.core (argument b.core 0))
serves_thsemap b service.PollSema = quiet b.memory (poll_sema b.core (argument b.core 0))
serves_thsemap b service.ReferSemaStatus =
    refer_sema_status b (argument b.core 0) (argument b.core 1)
