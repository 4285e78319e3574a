-- What the laws of single words say: what a service writes for its caller, or for a thread that it
-- wakes, is read there as the word that it leaves. A word has one place; 0 stands for none.
use Rattle.std.specs.Prelude.{◌≡◌, ◌≢◌, ℕ, ◌<◌, ◌==◌, if◌then◌else◌, Some, List, ◌∷◌, ◌++◌, All, bit_and, bit_or}
use Rattle.iop_base.specs.Numbers.{one_if, number_at, wrapped}
use Rattle.iop_event.specs.WakeConditions.{settles}
use Rattle.iop_event.specs.declared.event_flag.EventFlag.{EventFlag}
use Rattle.iop_event.specs.declared.met.Met.{Met}
use Rattle.iop_event.specs.declared.wanted.TheConstants.{CLEAR}
use Rattle.iop_exec.specs.Laws.{IsSteady}
use Rattle.iop_exec.specs.Row.{reg}
use Rattle.iop_intr.specs.declared.irqs.TheConstants.{IRQ_LINES}
use Rattle.iop_objects.specs.Objects.{object_of, state_of}
use Rattle.iop_services.specs.declared.intrman_service.IntrmanService.TheVariants.{DisableIntr, CpuSuspendIntr}
use Rattle.iop_services.specs.declared.thevent_service.TheventService.TheVariants.{SetEventFlag, WaitEventFlag, PollEventFlag}
use Rattle.iop_kernel.specs.Boards.{Board, place_of_word}
use Rattle.iop_kernel.specs.EventFlags.{LiveFlag, serves_thevent}
use Rattle.iop_kernel.specs.Interrupts.{serves_intrman}
use Rattle.iop_kernel.specs.System.{Done, argument, words_place}
use Rattle.iop_kernel.specs.declared.after.After.TheVariants.{Resume}

-- the word that stands at a physical place once a call is served
abbrev pub word_left : Done Board → (place : ℕ) → ℕ
word_left d place = number_at d.left.state.memory.ram place 4

-- the caller goes on with 0
abbrev pub AnswersZero : Done Board → Type 0
AnswersZero d = (d.left.after ≡ Resume) × (reg d.left.state.core.cpu 2 ≡ 0)

-- where a service that tests an event flag answers 0, the pattern that stood is read: the flag's id
-- is the first argument, the place for the pattern the fourth
abbrev pub ReadsPattern : Board → Done Board → Type 0
ReadsPattern b d =
    (x : EventFlag) (place : ℕ) → IsSteady b.core.cpu
    → state_of b.core.kernel.event_flags (argument b.core 0) ≡ Some x
    → place_of_word b.memory (argument b.core 3) ≡ Some place → AnswersZero d
    → word_left d place ≡ wrapped x.pattern

-- the pattern that is left once a condition held: a mode with the bit CLEAR leaves none of it
abbrev pub pattern_left : (mode pattern : ℕ) → ℕ
pattern_left mode pattern = if bit_and mode CLEAR == 0 then pattern else 0

-- and where it answers 0, the flag is left with that pattern by the mode, its third argument; it
-- is otherwise as it was
abbrev pub ClearsPattern : Board → Done Board → Type 0
ClearsPattern b d =
    (x : EventFlag) → IsSteady b.core.cpu
    → state_of b.core.kernel.event_flags (argument b.core 0) ≡ Some x → AnswersZero d
    → state_of d.left.state.core.kernel.event_flags (argument b.core 0)
    ≡ Some (record x { pattern = pattern_left (argument b.core 2) x.pattern })

-- the pattern of an event flag with the bits that SetEventFlag sets, its second argument
abbrev pub set_bits : Board → LiveFlag → ℕ
set_bits b o = bit_or o.state.pattern (argument b.core 1)

-- a thread is woken whose condition held on a pattern: that pattern is read at its place, unless it
-- is the place of one that is woken behind it, too
abbrev pub SetPatternsAreRead : Type 0
SetPatternsAreRead =
    (b : Board) (o : LiveFlag) (before behind : List Met) (one : Met) (place : ℕ)
    → object_of b.core.kernel.event_flags.live (argument b.core 0) ≡ Some o
    → (settles (set_bits b o) o.waiters).met ≡ before ++ one ∷ behind
    → place_of_word b.memory one.place ≡ Some place
    → All (λ other. place_of_word b.memory other.place ≢ Some place) behind
    → word_left (serves_thevent b SetEventFlag) place ≡ wrapped one.pattern

-- the first that is woken is told the pattern with the bits that are set
abbrev pub FirstPatternIsRead : Type 0
FirstPatternIsRead =
    (b : Board) (o : LiveFlag) (behind : List Met) (one : Met) (place : ℕ)
    → object_of b.core.kernel.event_flags.live (argument b.core 0) ≡ Some o
    → (settles (set_bits b o) o.waiters).met ≡ one ∷ behind
    → place_of_word b.memory one.place ≡ Some place
    → All (λ other. place_of_word b.memory other.place ≢ Some place) behind
    → word_left (serves_thevent b SetEventFlag) place ≡ wrapped (set_bits b o)

pub record WordsAreRead : Type 0 where
  -- WaitEventFlag and PollEventFlag
  pub waited : (b : Board) → ReadsPattern b (serves_thevent b WaitEventFlag)
  pub polled : (b : Board) → ReadsPattern b (serves_thevent b PollEventFlag)
  pub waited_clears : (b : Board) → ClearsPattern b (serves_thevent b WaitEventFlag)
  pub polled_clears : (b : Board) → ClearsPattern b (serves_thevent b PollEventFlag)
  -- SetEventFlag
  pub set : SetPatternsAreRead
  pub first : FirstPatternIsRead
  -- DisableIntr writes the number of its line, its first argument, at its second
  pub disabled : (b : Board) (place : ℕ) → argument b.core 0 < IRQ_LINES
      → place_of_word b.memory (argument b.core 1) ≡ Some place
      → word_left (serves_intrman b DisableIntr) place ≡ argument b.core 0
  -- CpuSuspendIntr tells at its first argument whether interrupts were on
  pub suspended : (b : Board) (place : ℕ) → words_place b.memory (argument b.core 0) 1 ≡ Some place
      → word_left (serves_intrman b CpuSuspendIntr) place ≡ one_if b.core.kernel.interrupts
