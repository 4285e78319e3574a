-- The laws of what strtol leaves at `end`.
use Rattle.std.proofs.Common.{◌≡◌, ℕ, ◌+◌, ◌%◌, ◌^◌, ◌<◌, Bool, true, false, cond, ne_eqb, Option, Some, None, List, length, take, drop, refl, ap, sym, ◌∙◌, arith}
use Rattle.std.specs.Prelude.{◌==◌}
use Rattle.iop_base.specs.Numbers.{bytes_of, number_at, wrapped}
use Rattle.iop_base.specs.Places.{load_at, range_at}
use Rattle.iop_base.specs.declared.width.Width.TheVariants.{Word}
use Rattle.iop_base.proofs.Lists.{number_at-word, length-bytes_of}
use Rattle.iop_printf.specs.Texts.{string_at}
use Rattle.iop_stubs.specs.Stubs.{Memory}
use Rattle.iop_sysclib.specs.NumeralLaws.{EndsAreLeft, ReadsNothing}
use Rattle.iop_sysclib.specs.Numerals.{reading_of, strtol}
use Rattle.iop_sysclib.specs.Outcomes.{Outcome, answers, writes, bytes_at}
use Rattle.iop_sysclib.specs.WritingLaws.{ram_after}
use Rattle.iop_sysclib.specs.declared.reading.Reading.{Reading}
use Rattle.iop_sysclib.proofs.Writings.{writes_is, writes_answer, written_is}

-- a word that stands in a range is loaded there
module _ (ram : List ℕ) (end value : ℕ) (aligned : (end % 4 == 0) ≡ true) (small : value < 2 ^ 32)
    (held : bytes_at ram end 4 ≡ Some (bytes_of 4 value)) where
  load_by : (place : Option ℕ) → range_at (length ram) end 4 ≡ place
      → load_at ram end Word ≡ Some value
  load_by None is =
      let none : bytes_at ram end 4 ≡ None = rw is refl in absurd (cc (none, held))
  load_by (Some p) is =
      let bytes : bytes_at ram end 4 ≡ Some (take 4 (drop p ram)) = rw is refl in
      let same : take 4 (drop p ram) ≡ bytes_of 4 value = cc (bytes, held) in
      let loaded : load_at ram end Word ≡ Some (number_at ram p 4) = rw (aligned, is) refl in
      loaded ∙ ap Some (number_at-word ram p value small same)

  pub loaded_word : load_at ram end Word ≡ Some value
  loaded_word = load_by (range_at (length ram) end 4) refl

module _ (memory : Memory) (at end base : ℕ) (outcome : Outcome) where
  abbrev reading : Reading
  reading = reading_of base (string_at memory.ram at)

  abbrev left : ℕ
  left = wrapped (at + reading.len)

  -- the answer and what is written, by the tests of `end`
  abbrev told : (none aligned : Bool) → Option Outcome
  told none aligned =
      cond none (answers reading.word)
      (cond aligned (writes memory.ram end (bytes_of 4 left) reading.word) None)

  left_by : (none aligned : Bool) → none ≡ false → (end % 4 == 0) ≡ aligned
      → told none aligned ≡ Some outcome → load_at (ram_after memory outcome) end Word ≡ Some left
  left_by true aligned some test is = cc
  left_by false true some test is =
      let small : left < 2 ^ 32 = omega arith in
      loaded_word (ram_after memory outcome) end left test small
      (ap (bytes_at (ram_after memory outcome) end) (sym (length-bytes_of 4 left))
      ∙ (written_is memory end (bytes_of 4 left) outcome
      (writes_is memory.ram end (bytes_of 4 left) reading.word outcome is)).written)
  left_by false false some test is = absurd (cc is)

  answer_by : (none aligned : Bool) → told none aligned ≡ Some outcome
      → outcome.answer ≡ reading.word
  answer_by true aligned is = cc
  answer_by false true is =
      writes_answer memory.ram end (bytes_of 4 left) reading.word outcome is
  answer_by false false is = absurd (cc is)

pub ends_are_left : EndsAreLeft
unfolding strtol
ends_are_left memory at end base outcome some is =
    left_by memory at end base outcome (end == 0) (end % 4 == 0) (ne_eqb end 0 some) refl is

answer_is : (memory : Memory) (at end base : ℕ) (outcome : Outcome)
    → strtol memory.ram at end base ≡ Some outcome
    → outcome.answer ≡ (reading_of base (string_at memory.ram at)).word
unfolding strtol
answer_is memory at end base outcome is =
    answer_by memory at end base outcome (end == 0) (end % 4 == 0) is

-- where nothing was read
pub nothing_read : (memory : Memory) (at end base : ℕ) (outcome : Outcome)
    → reading_of base (string_at memory.ram at) ≡ record { word = 0; len = 0 }
    → strtol memory.ram at end base ≡ Some outcome → ReadsNothing memory at end outcome
nothing_read memory at end base outcome none is = record {
  answer = answer_is memory at end base outcome is ∙ ap (λ (r : Reading). r.word) none;
  left = λ some.
      ends_are_left memory at end base outcome some is
      ∙ ap (λ (r : Reading). Some (wrapped (at + r.len))) none
      ∙ (let same : at + 0 ≡ at = omega arith in ap (λ n. Some (wrapped n)) same);
}
