-- The pattern of an event flag, read where it was written: for the thread that asks, and for those
-- that are woken.
use Rattle.std.proofs.Common.{◌≡◌, ◌≢◌, ℕ, ◌+◌, ◌%◌, ◌≤◌, ◌==◌, true, false, if◌then◌else◌, Bool, not, bit_and, Option, Some, None, option_map, List, [], ◌∷◌, ◌++◌, length, All, bit_or, refl, ap, sym, ◌∙◌, subst, arith}
use Rattle.std.proofs.lemmas.Bool.{cond_both}
use Rattle.std.proofs.lemmas.List.Elements.{All-head, All-tail}
use Rattle.iop_base.specs.Numbers.{number_at, wrapped}
use Rattle.iop_base.specs.Places.{range_at}
use Rattle.iop_base.proofs.Memory.{length-with_bytes}
use Rattle.iop_event.specs.EventFlags.{with_pattern}
use Rattle.iop_event.specs.WakeConditions.{is_met, met_by, pattern_after, Settled, settles}
use Rattle.iop_event.specs.declared.event_flag.EventFlag.{EventFlag}
use Rattle.iop_event.specs.declared.met.Met.{Met}
use Rattle.iop_event.specs.declared.wanted.TheConstants.{CLEAR}
use Rattle.iop_event.specs.declared.wanted.Wanted.{Wanted}
use Rattle.iop_exec.specs.Laws.{IsSteady}
use Rattle.iop_objects.specs.Objects.{object_of, state_of}
use Rattle.iop_queues.specs.declared.queued.Queued.{Queued}
use Rattle.iop_objects.specs.declared.waiter.Waiter.{Waiter}
use Rattle.iop_objects.proofs.Changes.{state_of-with_state}
use Rattle.iop_services.specs.declared.thevent_service.TheventService.TheVariants.{WaitEventFlag, PollEventFlag}
use Rattle.iop_stubs.specs.Stubs.{after_store}
use Rattle.iop_kernel.specs.Boards.{Board, bytes_of_words, optional_place, place_of_word}
use Rattle.iop_kernel.specs.EventFlags.{LiveFlag, met_place, meets_one, meets_all, sets_flag, set_event_flag, waits_flag_at, polls_flag_at, wait_event_flag, poll_event_flag, wanted, serves_thevent}
use Rattle.iop_kernel.specs.System.{Done, argument, with_event_flags, words_place}
use Rattle.iop_kernel_laws.specs.WordLaws.{word_left, ReadsPattern, pattern_left, ClearsPattern, set_bits, SetPatternsAreRead, FirstPatternIsRead}
use Rattle.iop_kernel.proofs.Keeping.Meetings.{met_inside, set_flags}
use Rattle.iop_kernel.proofs.Keeping.Memory.{words_inside}
use Rattle.iop_kernel_laws.proofs.Readings.Tests.{Zero, told, waited_so, polled_so}
use Rattle.iop_kernel_laws.proofs.Readings.Times.{words_aligned, stays}
use Rattle.iop_kernel.proofs.Readings.WordBytes.{first_at}

-- a place that a word has is one where 0 stands for none
place_given : (zero : Bool) (o : Option ℕ) (place : ℕ) → (if zero then None else o) ≡ Some place
    → (if zero then Some None else option_map (λ p. Some p) o) ≡ Some (Some place)
place_given true o place is = absurd (cc is)
place_given false o place is = ap (option_map (λ p. Some p)) is

pub optional_given : (b : Board) (at place : ℕ) → place_of_word b.memory at ≡ Some place
    → optional_place b.memory at ≡ Some (Some place)
optional_given b at = place_given (at == 0) (words_place b.memory at 1)

-- what holds of a word's place holds of one where 0 stands for none
word_given : (zero : Bool) (o : Option ℕ) (place : ℕ) → (if zero then None else o) ≡ Some place
    → o ≡ Some place
word_given true o place is = absurd (cc is)
word_given false o place is = is

pub word_inside : (b : Board) (at place : ℕ) → place_of_word b.memory at ≡ Some place
    → place + 4 ≤ length b.memory.ram
word_inside b at place is =
    words_inside b.memory at 1 place (word_given (at == 0) (words_place b.memory at 1) place is)

word_aligned : (b : Board) (at place : ℕ) → place_of_word b.memory at ≡ Some place
    → place % 4 ≡ 0
word_aligned b at place is =
    words_aligned b.memory at 1 place (word_given (at == 0) (words_place b.memory at 1) place is)

-- the place of a word in a memory of this size
abbrev place_in : (size at : ℕ) → Option ℕ
place_in size at =
    if at == 0 then None else if at % 4 == 0 then range_at size at 4 else None

-- what is written of one that is met keeps memory's size
meets_size : (b : Board) (one : Met)
    → length (meets_one b one).memory.ram ≡ length b.memory.ram
meets_size b one = by (met_place b one) refl
  where
    by : (o : Option ℕ) → met_place b one ≡ o
        → length (after_store b.memory o (bytes_of_words (one.pattern ∷ []))).ram
        ≡ length b.memory.ram
    by None is = refl
    by (Some p) is =
        length-with_bytes b.memory.ram p (bytes_of_words (one.pattern ∷ [])) (met_inside b one p is)

-- so does what is written of several
all_size : (met : List Met) (b : Board)
    → length (meets_all b met).memory.ram ≡ length b.memory.ram
all_size [] b = refl
all_size (one ∷ met) b = all_size met (meets_one b one) ∙ meets_size b one

-- several, and then others
meets_append : (before met : List Met) (b : Board)
    → meets_all b (before ++ met) ≡ meets_all (meets_all b before) met
meets_append [] met b = refl
meets_append (one ∷ before) met b = meets_append before met (meets_one b one)

module _ (size place : ℕ) (aligned : place % 4 ≡ 0) where
  -- another place
  abbrev Elsewhere : Met → Type 0
  Elsewhere one = place_in size one.place ≢ Some place

  -- a word stays where the pattern of one is written elsewhere
  kept_one : (b : Board) (one : Met) → length b.memory.ram ≡ size → Elsewhere one
      → number_at (meets_one b one).memory.ram place 4 ≡ number_at b.memory.ram place 4
  kept_one b one same elsewhere = by (met_place b one) refl
    where
      by : (o : Option ℕ) → met_place b one ≡ o
          → number_at (after_store b.memory o (bytes_of_words (one.pattern ∷ []))).ram place 4
          ≡ number_at b.memory.ram place 4
      by None is = refl
      by (Some p) is =
          stays b.memory.ram p place (bytes_of_words (one.pattern ∷ [])) refl
          (met_inside b one p is) (word_aligned b one.place p is) aligned
          (λ here. elsewhere (sym (ap (λ n. place_in n one.place) same) ∙ is
          ∙ ap Some (sym here)))

  -- and where those of several are
  kept_all : (met : List Met) (b : Board) → length b.memory.ram ≡ size → All Elsewhere met
      → number_at (meets_all b met).memory.ram place 4 ≡ number_at b.memory.ram place 4
  kept_all [] b same elsewhere = refl
  kept_all (one ∷ met) b same elsewhere =
      kept_all met (meets_one b one) (meets_size b one ∙ same)
      (All-tail Elsewhere one met elsewhere)
      ∙ kept_one b one same (All-head Elsewhere one met elsewhere)

-- the pattern of one that is met stands at its place
met_stands : (b : Board) (one : Met) (place : ℕ) → met_place b one ≡ Some place
    → number_at (meets_one b one).memory.ram place 4 ≡ wrapped one.pattern
met_stands b one place is =
    rw is (first_at b.memory.ram place (one.pattern ∷ []) (met_inside b one place is)
    (omega arith))

-- so it is once bits are set
set_pattern : (b : Board) (id bits : ℕ) (o : LiveFlag) (before behind : List Met) (one : Met)
    (place : ℕ) → object_of b.core.kernel.event_flags.live id ≡ Some o
    → (settles (bit_or o.state.pattern bits) o.waiters).met ≡ before ++ one ∷ behind
    → place_of_word b.memory one.place ≡ Some place
    → All (λ other. place_of_word b.memory other.place ≢ Some place) behind
    → word_left (set_event_flag b id bits) place ≡ wrapped one.pattern
set_pattern b id bits o before behind one place found split is elsewhere =
    let now : Board =
    record b { core = with_event_flags b.core (set_flags b.core o bits) } in
    let woken = meets_all now before in
    let size = length b.memory.ram in
    let same : length woken.memory.ram ≡ size = all_size before now in
    let there : met_place woken one ≡ Some place =
    ap (λ n. place_in n one.place) same ∙ is in
    let aligned = word_aligned b one.place place is in
    ap (λ (u : Option LiveFlag). word_left (sets_flag b bits u) place) found
    ∙ ap (λ (met : List Met). number_at (meets_all now met).memory.ram place 4) split
    ∙ ap (λ (d : Board). number_at d.memory.ram place 4) (meets_append before (one ∷ behind) now)
    ∙ kept_all size place aligned behind (meets_one woken one) (meets_size woken one ∙ same)
    elsewhere
    ∙ met_stands woken one place there

-- the first that is met is met on the pattern itself
first_pattern : (waiters : List (Queued (Waiter Wanted))) (pattern : ℕ) (one : Met)
    (behind : List Met) → (settles pattern waiters).met ≡ one ∷ behind → one.pattern ≡ pattern
first_pattern [] pattern one behind = λ is. absurd (cc is)
first_pattern (x ∷ waiters) pattern one behind =
    cond_both (is_met pattern x.item) _ _
    (λ (s : Settled). s.met ≡ one ∷ behind → one.pattern ≡ pattern)
    (λ met is. let same : met_by pattern x.item ≡ one = cc is in
    sym (ap (λ (m : Met). m.pattern) same))
    (λ unmet is. first_pattern waiters pattern one behind is)

-- the services, by their arguments
pub set_patterns_are_read : SetPatternsAreRead
unfolding serves_thevent
set_patterns_are_read b = set_pattern b (argument b.core 0) (argument b.core 1)

pub first_pattern_is_read : FirstPatternIsRead
first_pattern_is_read b o behind one place found met is elsewhere =
    set_patterns_are_read b o [] behind one place found met is elsewhere
    ∙ ap wrapped (first_pattern o.waiters (set_bits b o) one behind met)

-- a condition that held
module _ (b : Board) (x : EventFlag) (place : ℕ) (steady : IsSteady b.core.cpu)
    (known : state_of b.core.kernel.event_flags (argument b.core 0) ≡ Some x)
    (is : place_of_word b.memory (argument b.core 3) ≡ Some place) where
  abbrev Reads : Done Board → Type 0
  Reads d = word_left d place ≡ wrapped x.pattern

  -- its pattern is written
  pattern_told : Reads (told b (argument b.core 0) (wanted b.core) x (Some place))
  pattern_told =
      first_at b.memory.ram place (x.pattern ∷ [])
      (word_inside b (argument b.core 3) place is) (omega arith)

  waited : Zero Reads (serves_thevent b WaitEventFlag)
  unfolding serves_thevent
  waited =
      waited_so b (argument b.core 0) (wanted b.core) x steady known Reads (Some place)
      (optional_given b (argument b.core 3) place is) pattern_told

  polled : Zero Reads (serves_thevent b PollEventFlag)
  unfolding serves_thevent
  polled =
      polled_so b (argument b.core 0) (wanted b.core) x steady known Reads (Some place)
      (optional_given b (argument b.core 3) place is) pattern_told

pub waited_is_read : (b : Board) → ReadsPattern b (serves_thevent b WaitEventFlag)
waited_is_read b x place steady known is = waited b x place steady known is

pub polled_is_read : (b : Board) → ReadsPattern b (serves_thevent b PollEventFlag)
polled_is_read b x place steady known is = polled b x place steady known is

-- a test and its negation
other_way : (zero : Bool) (pattern : ℕ) → (if not zero then 0 else pattern)
    ≡ (if zero then pattern else 0)
other_way true pattern = refl
other_way false pattern = refl

-- and the flag is cleared as the mode says
module _ (b : Board) (x : EventFlag) (steady : IsSteady b.core.cpu)
    (known : state_of b.core.kernel.event_flags (argument b.core 0) ≡ Some x) where
  abbrev Clears : Done Board → Type 0
  Clears d =
      state_of d.left.state.core.kernel.event_flags (argument b.core 0)
      ≡ Some (record x { pattern = pattern_left (argument b.core 2) x.pattern })

  cleared : (place : Option ℕ) → Clears (told b (argument b.core 0) (wanted b.core) x place)
  cleared place =
      let mode = argument b.core 2 in
      state_of-with_state b.core.kernel.event_flags (argument b.core 0) x known
      (with_pattern x (pattern_after mode x.pattern))
      ∙ ap (λ n. Some (with_pattern x n)) (other_way (bit_and mode CLEAR == 0) x.pattern)

  -- by the place for the pattern; where it is bad the call faults
  waited_by : (o : Option (Option ℕ)) → optional_place b.memory (argument b.core 3) ≡ o
      → Zero Clears (wait_event_flag b (argument b.core 0) (wanted b.core))
  waited_by None is =
      subst (λ (o : Option (Option ℕ)).
      Zero Clears (waits_flag_at b (argument b.core 0) (wanted b.core) o)) (sym is)
      (λ zero. absurd (cc zero.0))
  waited_by (Some place) is =
      waited_so b (argument b.core 0) (wanted b.core) x steady known Clears place is
      (cleared place)

  polled_by : (o : Option (Option ℕ)) → optional_place b.memory (argument b.core 3) ≡ o
      → Zero Clears (poll_event_flag b (argument b.core 0) (wanted b.core))
  polled_by None is =
      subst (λ (o : Option (Option ℕ)).
      Zero Clears (polls_flag_at b (argument b.core 0) (wanted b.core) o)) (sym is)
      (λ zero. absurd (cc zero.0))
  polled_by (Some place) is =
      polled_so b (argument b.core 0) (wanted b.core) x steady known Clears place is
      (cleared place)

pub waited_clears : (b : Board) → ClearsPattern b (serves_thevent b WaitEventFlag)
unfolding serves_thevent
waited_clears b x steady known =
    waited_by b x steady known (optional_place b.memory (argument b.core 3)) refl

pub polled_clears : (b : Board) → ClearsPattern b (serves_thevent b PollEventFlag)
unfolding serves_thevent
polled_clears b x steady known =
    polled_by b x steady known (optional_place b.memory (argument b.core 3)) refl
