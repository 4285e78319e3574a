-- The words of a time, read where they were written.
use Rattle.std.proofs.Common.{◌≡◌, ◌≢◌, ℕ, ◌+◌, ◌*◌, ◌/◌, ◌%◌, ◌^◌, ◌≤◌, ◌==◌, Some, None, List, [], ◌∷◌, length, refl, ◌∙◌, arith}
use Rattle.std.proofs.lemmas.Bool.{cases_lt, cond_both}
use Rattle.std.proofs.lemmas.Bool.Decides.{nat_tests}
use Rattle.std.proofs.lemmas.Option.{cond_some, option_and_then_some}
use mathlib.Core.Logic.{inl, inr}
use Rattle.iop_base.specs.Numbers.{number_at, wrapped, with_bytes}
use Rattle.iop_base.specs.Places.{phys}
use Rattle.iop_base.proofs.Lists.{number_at_behind}
use Rattle.iop_base.proofs.Memory.{length-with_bytes, number_at_before}
use Rattle.iop_stubs.specs.Stubs.{Memory, range_place}
use Rattle.iop_time.specs.ClockTime.{ticks_of, micros_of}
use Rattle.iop_kernel.specs.Boards.{Board, board_of, bytes_of_words}
use Rattle.iop_kernel.specs.System.{argument, words_place}
use Rattle.iop_kernel.specs.SystemClock.{time_words, ticks_in, writes_time, writes_seconds}
use Rattle.iop_kernel.specs.Thbase.{serves_thbase}
use Rattle.iop_kernel_laws.specs.TimeLaws.{HasTimeWords, SystemTimeIsRead, TicksAreRead, HasSeconds, SecondsAreRead}
use Rattle.iop_kernel.specs.declared.system_clock.TheConstants.{TIME_WORDS, MICROS_OF_SECOND}
use Rattle.iop_kernel.proofs.Keeping.Memory.{words_inside}
use Rattle.iop_kernel.proofs.Readings.WordBytes.{written, word_at, first_at}

-- the two words of a time give it, as far as two words do
whole : (low high ticks : ℕ) → low ≡ wrapped ticks → high ≡ wrapped (ticks / 2 ^ 32)
    → low + 2 ^ 32 * high ≡ ticks % 2 ^ 64
whole low high ticks l h = omega arith

-- a time in ticks is read where it was written
time_is_read : (b : Board) (ticks at place : ℕ) → words_place b.memory at TIME_WORDS ≡ Some place
    → let d = writes_time b ticks (words_place b.memory at TIME_WORDS) in
    HasTimeWords d.left.state.memory place ticks
time_is_read b ticks at place stands =
    let words = time_words ticks in
    let fits = words_inside b.memory at TIME_WORDS place stands in
    let read = word_at b.memory.ram place words fits in
    let low : wrapped (ticks % 2 ^ 32) ≡ wrapped ticks = omega arith in
    rw stands (record {
      low = first_at b.memory.ram place words fits (omega arith) ∙ low;
      high = read 1 (omega arith);
      both = whole _ _ ticks (read 0 (omega arith) ∙ low) (read 1 (omega arith));
    })

-- so is the moment
pub system_time_is_read : SystemTimeIsRead
unfolding serves_thbase
system_time_is_read s =
    time_is_read (board_of s) s.core.kernel.clock (argument s.core 0)

-- so are the ticks of so many microseconds
pub ticks_are_read : TicksAreRead
unfolding serves_thbase
ticks_are_read s =
    time_is_read (board_of s) (ticks_of (argument s.core 0)) (argument s.core 1)

-- each place of words is a multiple of 4
pub words_aligned : (memory : Memory) (at count q : ℕ) → words_place memory at count ≡ Some q
    → q % 4 ≡ 0
words_aligned memory at count q =
    cond_both (at % 4 == 0) (range_place memory at (4 * count)) None (λ o. o ≡ Some q → q % 4 ≡ 0)
    (λ is there. option_and_then_some _ (phys (length memory.ram) at) q there (λ p found within.
    let low = (cond_some _ (at % 0x20000000) p found).1 in
    let same = (cond_some _ p q within).1 in
    let aligned : at % 4 ≡ 0 = grind (arith, nat_tests, is) in
    omega (arith, low, same, aligned)))
    (λ is there. absurd (cc there))

-- a word stays where four bytes are put at another place
pub stays : (memory : List ℕ) (p q : ℕ) (bytes : List ℕ) → length bytes ≡ 4 → p + 4 ≤ length memory
    → p % 4 ≡ 0 → q % 4 ≡ 0 → q ≢ p
    → number_at (with_bytes memory p bytes) q 4 ≡ number_at memory q 4
stays memory p q bytes four fits p_aligned q_aligned apart =
    elim (cases_lt q p) [
      | inl before ↦
          number_at_before memory p bytes (omega (arith, four, fits)) q 4
          (omega (arith, p_aligned, q_aligned, before))
      | inr behind ↦
          number_at_behind memory p bytes (omega (arith, four, fits)) q 4
          (omega (arith, four, p_aligned, q_aligned, behind, apart))
    ]

-- seconds and what is left of them
seconds_stand : (b : Board) (seconds rest micros : ℕ) → seconds + 4 ≤ length b.memory.ram
    → rest + 4 ≤ length b.memory.ram → seconds % 4 ≡ 0 → rest % 4 ≡ 0
    → HasSeconds (writes_seconds b seconds rest micros).left.state.memory.ram seconds rest micros
seconds_stand b seconds rest micros seconds_fit rest_fits seconds_aligned rest_aligned =
    let first = wrapped (micros / MICROS_OF_SECOND) in
    let last = micros % MICROS_OF_SECOND in
    let ram = written b.memory.ram seconds (first ∷ []) in
    let size : length ram ≡ length b.memory.ram =
    length-with_bytes b.memory.ram seconds (bytes_of_words (first ∷ [])) seconds_fit in
    let room : rest + 4 ≤ length ram = omega (arith, size, rest_fits) in
    let small : wrapped last ≡ last = omega arith in
    let ends = first_at ram rest (last ∷ []) room (omega arith) ∙ small in
    let once : wrapped first ≡ first = omega arith in
    let begins = λ (apart : seconds ≢ rest).
    stays ram rest seconds (bytes_of_words (last ∷ [])) refl room rest_aligned seconds_aligned apart
    ∙ first_at b.memory.ram seconds (first ∷ []) seconds_fit (omega arith) ∙ once in
    record {
      seconds = begins;
      rest = ends;
      below = omega (arith, ends);
      both = λ apart few. omega (arith, few, begins apart, ends);
    }

-- the microseconds of a time are read
pub seconds_are_read : SecondsAreRead
unfolding serves_thbase
seconds_are_read s time seconds rest is_time is_seconds is_rest =
    let seconds_at = argument s.core 1 in
    let rest_at = argument s.core 2 in
    rw (is_time, is_seconds, is_rest)
    (seconds_stand (board_of s) seconds rest (micros_of (ticks_in s.memory time))
    (words_inside s.memory seconds_at 1 seconds is_seconds)
    (words_inside s.memory rest_at 1 rest is_rest)
    (words_aligned s.memory seconds_at 1 seconds is_seconds)
    (words_aligned s.memory rest_at 1 rest is_rest))
