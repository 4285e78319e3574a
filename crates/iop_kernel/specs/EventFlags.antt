-- The services of thevent (ps2sdk: thevent.h; the codes are those of its kerr.h). The conditions
-- and the order of the refusals, and the words that ReferEventFlagStatus writes, are this project's
-- own profile.
use Rattle.std.specs.Prelude.{ℕ, if◌then◌else◌, Option, Some, None, Result, Ok, Err, List, [], ◌∷◌, ◌++◌, length, bit_or}
use Rattle.iop_base.specs.Piece.{Piece}
use Rattle.iop_base.specs.declared.code.Code.{Code}
use Rattle.iop_base.specs.declared.code.TheConstants.Code.{OK, UNKNOWN_EVENT_FLAG, FLAG_CONDITION, CANNOT_WAIT}
use Rattle.iop_base.specs.declared.guest_fault.GuestFault.TheVariants.{Address}
use Rattle.iop_event.specs.EventFlags.{EventFlags, with_pattern}
use Rattle.iop_event.specs.EventFlags as flags
use Rattle.iop_event.specs.WakeConditions.{settles}
use Rattle.iop_event.specs.declared.met.Met.{Met}
use Rattle.iop_event.specs.declared.wanted.Wanted.{Wanted}
use Rattle.iop_kernel.specs.Boards.{Board, quiet, writes, word_in, bytes_of_words, optional_place, place_of_word}
use Rattle.iop_kernel.specs.Kinds.{Live}
use Rattle.iop_kernel.specs.ObjectServices.{waits_for, delete_object, refer_status}
use Rattle.iop_kernel.specs.System.{Core, Left, Done, argument, may_switch, caller, with_event_flags, answers, answers_result, faults, words_place}
use Rattle.iop_kernel.specs.Waits.{is_code, wakes_with}
use Rattle.iop_kernel.specs.declared.event_flags.TheConstants.{FLAG_WORDS, FLAG_STATUS_WORDS}
use Rattle.iop_objects.specs.Objects.{object_of}
use Rattle.iop_objects.specs.Objects as objects
use Rattle.iop_services.specs.declared.thevent_service.TheventService.{TheventService}
use Rattle.iop_services.specs.declared.thevent_service.TheventService.TheVariants as service
use Rattle.iop_stubs.specs.Stubs.{Memory, after_store, store_lines}
use Rattle.iop_thread.specs.declared.kind.Kind.TheVariants.{EventFlag}

-- a live event flag
abbrev pub LiveFlag : Type 0
LiveFlag = Live EventFlag

module _ (c : Core) where
  -- an operation on event flags answers a code
  abbrev pub leaves_flags : Code × EventFlags → Left Core
  leaves_flags (code, left) = answers (with_event_flags c left) code

  -- by the place of the words: attribute, option, first pattern
  abbrev pub creates_flag_at : Memory → Option ℕ → Left Core
  creates_flag_at memory None = faults c Address
  creates_flag_at memory (Some place) =
      let word : ℕ → ℕ = word_in memory place in
      let done = flags.creates c.kernel.event_flags (word 0) (word 1) (word 2) in
      answers_result (with_event_flags c done.1) done.0

  -- CreateEventFlag
  abbrev pub create_event_flag : Memory → (at : ℕ) → Left Core
  create_event_flag memory at = creates_flag_at memory (words_place memory at FLAG_WORDS)

  -- DeleteEventFlag
  abbrev pub delete_event_flag : (id : ℕ) → Left Core
  delete_event_flag = delete_object EventFlag c

  -- ClearEventFlag
  abbrev pub clear_event_flag : (id mask : ℕ) → Left Core
  clear_event_flag id mask = leaves_flags (flags.clears c.kernel.event_flags id mask)

  -- the thread that calls waits for bits of an event flag
  abbrev pub waits_for_bits : (id : ℕ) → Wanted → Option ℕ → Left Core
  waits_for_bits = waits_for EventFlag c

module _ (b : Board) where
  -- where the pattern is written for a thread whose condition held
  abbrev pub met_place : Met → Option ℕ
  met_place one = place_of_word b.memory one.place

  -- such a thread is woken with 0, and the pattern is written to its place, if it has one
  abbrev pub meets_one : Met → Board
  meets_one one = record {
    core = wakes_with b.core one.thread OK;
    memory = after_store b.memory (met_place one) (bytes_of_words (one.pattern ∷ []));
  }

  abbrev pub meeting_lines : Met → List Piece
  meeting_lines one =
      store_lines b.core.kernel.clock b.memory (met_place one)
      (length (bytes_of_words (one.pattern ∷ [])))

-- several, one after the other
abbrev pub meets_all : Board → List Met → Board
meets_all b [] = b
meets_all b (one ∷ met) = meets_all (meets_one b one) met

abbrev pub meeting_all : Board → List Met → List Piece
meeting_all b [] = []
meeting_all b (one ∷ met) = meeting_lines b one ++ meeting_all (meets_one b one) met

-- the words of an event flag's status
abbrev pub flag_words : LiveFlag → List ℕ
flag_words o =
    o.state.attr ∷ o.state.option ∷ o.state.first ∷ o.state.pattern ∷ length o.waiters ∷ []

-- the caller goes on with 0 once those that were met are woken
abbrev pub wakes_met : Board → List Met → Done Board
wakes_met b met =
    let left = meets_all b met in
    record {
      left = record {
        state = record left { core = (answers left.core OK).state };
        after = (answers left.core OK).after;
      };
      pieces = meeting_all b met;
    }

module _ (b : Board) where
  -- by the event flag of the id: each thread that waits is looked at in order, on the pattern as it
  -- then stands
  abbrev pub sets_flag : (bits : ℕ) → Option LiveFlag → Done Board
  sets_flag bits None = quiet b.memory (answers b.core UNKNOWN_EVENT_FLAG)
  sets_flag bits (Some o) =
      let done = settles (bit_or o.state.pattern bits) o.waiters in
      let left = objects.changes b.core.kernel.event_flags o.id
      (λ u. record u {
        state = with_pattern u.state done.pattern;
        waiters = done.waiters;
      }) in
      wakes_met (record b { core = with_event_flags b.core left }) done.met

  -- SetEventFlag
  abbrev pub set_event_flag : (id bits : ℕ) → Done Board
  set_event_flag id bits = sets_flag bits (object_of b.core.kernel.event_flags.live id)

  -- by what the test came to: the pattern is written, if there is a place for it
  abbrev pub polls_by : Option ℕ → Result ℕ Code × EventFlags → Done Board
  polls_by place (Ok pattern, left) =
      writes b.memory place (pattern ∷ []) (with_event_flags b.core left)
  polls_by place (Err code, left) = quiet b.memory (answers b.core code)

  -- the thread that calls waits where the condition does not hold
  abbrev pub tests_or_waits : (id : ℕ) → Wanted → Option ℕ → Result ℕ Code × EventFlags
      → Done Board
  tests_or_waits id wanted place (Ok pattern, left) = polls_by place (Ok pattern, left)
  tests_or_waits id wanted place (Err code, left) =
      if is_code code FLAG_CONDITION
      then quiet b.memory (waits_for_bits b.core id wanted (caller b.core))
      else polls_by place (Err code, left)

  -- by the place for the pattern
  abbrev pub waits_flag_at : (id : ℕ) → Wanted → Option (Option ℕ) → Done Board
  waits_flag_at id wanted None = quiet b.memory (faults b.core Address)
  waits_flag_at id wanted (Some place) =
      if may_switch b.core.kernel
      then tests_or_waits id wanted place
      (flags.tests b.core.kernel.event_flags id wanted.bits wanted.mode)
      else quiet b.memory (answers b.core CANNOT_WAIT)

  -- WaitEventFlag
  abbrev pub wait_event_flag : (id : ℕ) → Wanted → Done Board
  wait_event_flag id wanted =
      waits_flag_at id wanted (optional_place b.memory wanted.place)

  abbrev pub polls_flag_at : (id : ℕ) → Wanted → Option (Option ℕ) → Done Board
  polls_flag_at id wanted None = quiet b.memory (faults b.core Address)
  polls_flag_at id wanted (Some place) =
      polls_by place (flags.tests b.core.kernel.event_flags id wanted.bits wanted.mode)

  -- PollEventFlag
  abbrev pub poll_event_flag : (id : ℕ) → Wanted → Done Board
  poll_event_flag id wanted = polls_flag_at id wanted (optional_place b.memory wanted.place)

-- ReferEventFlagStatus
abbrev pub refer_event_flag_status : Board → (id at : ℕ) → Done Board
refer_event_flag_status b = refer_status EventFlag flag_words b FLAG_STATUS_WORDS

-- what a thread asks of an event flag by the arguments of WaitEventFlag and PollEventFlag
abbrev pub wanted : Core → Wanted
wanted c = record { bits = argument c 1; mode = argument c 2; place = argument c 3 }

-- a service of thevent
unfoldable pub serves_thevent : Board → TheventService → Done Board
serves_thevent b service.CreateEventFlag =
    quiet b.memory (create_event_flag b.core b.memory (argument b.core 0))
serves_thevent b service.DeleteEventFlag =
    quiet b.memory (delete_event_flag b.core (argument b.core 0))
serves_thevent b service.SetEventFlag = set_event_flag b (argument b.core 0) (argument b.core 1)
serves_thevent b service.ClearEventFlag =
    quiet b.memory (clear_event_flag b.core (argument b.core 0) (argument b.core 1))
serves_thevent b service.WaitEventFlag = wait_event_flag b (argument b.core 0) (wanted b.core)
serves_thevent b service.PollEventFlag = poll_event_flag b (argument b.core 0) (wanted b.core)
serves_thevent b service.ReferEventFlagStatus =
    refer_event_flag_status b (argument b.core 0) (argument b.core 1)
