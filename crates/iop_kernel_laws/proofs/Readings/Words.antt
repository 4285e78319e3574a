-- Single words that services write, read where they were written.
use Rattle.std.proofs.Common.{◌≡◌, ℕ, ◌<◌, nat_lt, Bool, true, false, Option, Some, List, [], ◌∷◌, refl, ap, ◌∙◌, arith}
use Rattle.std.proofs.lemmas.Bool.{cond_both}
use Rattle.std.proofs.lemmas.Bool.Decides.{nat_tests}
use Rattle.iop_base.specs.Numbers.{one_if, wrapped}
use Rattle.iop_base.specs.declared.code.Code.{Code}
use Rattle.iop_base.specs.declared.code.TheConstants.Code.{ILLEGAL_INTERRUPT}
use Rattle.iop_intr.specs.InterruptLines.{line_of, disable_line, disabling}
use Rattle.iop_intr.specs.declared.irq_line.IrqLine.{IrqLine}
use Rattle.iop_intr.specs.declared.irqs.TheConstants.{IRQ_LINES}
use Rattle.iop_services.specs.declared.intrman_service.IntrmanService.TheVariants.{DisableIntr, CpuSuspendIntr}
use Rattle.iop_kernel.specs.Boards.{Board, place_of_word}
use Rattle.iop_kernel.specs.Interrupts.{disables_by, disables_at, suspends_at}
use Rattle.iop_kernel.specs.Interrupts as services
use Rattle.iop_kernel.specs.System.{argument, words_place}
use Rattle.iop_kernel.specs.Waits.{is_code}
use Rattle.iop_kernel_laws.specs.WordLaws.{word_left, WordsAreRead}
use Rattle.iop_kernel.proofs.Keeping.Memory.{words_inside}
use Rattle.iop_kernel_laws.proofs.Readings.Patterns.{optional_given, word_inside, waited_is_read, polled_is_read, waited_clears, polled_clears, set_patterns_are_read, first_pattern_is_read}
use Rattle.iop_kernel.proofs.Readings.WordBytes.{first_at}

-- to disable a line is not refused
line_disabled : (l : IrqLine) → is_code (disable_line l).0 ILLEGAL_INTERRUPT ≡ false
line_disabled l =
    cond_both l.enabled _ _ (λ (r : Code × IrqLine). is_code r.0 ILLEGAL_INTERRUPT ≡ false)
    (λ on. refl) (λ off. refl)

pub is_disabled : (lines : List IrqLine) (line : ℕ) → line < IRQ_LINES
    → is_code (disabling lines line).0 ILLEGAL_INTERRUPT ≡ false
is_disabled lines line below =
    let is : nat_lt line IRQ_LINES ≡ true = grind (arith, nat_tests, below) in
    rw is (line_disabled (line_of lines line))

-- the number of a line
module _ (b : Board) (line at place : ℕ) (is : place_of_word b.memory at ≡ Some place) where
  disables_line : (r : Code × List IrqLine) → is_code r.0 ILLEGAL_INTERRUPT ≡ false
      → word_left (disables_by b line (Some place) r) place ≡ wrapped line
  disables_line r other =
      rw other (first_at b.memory.ram place (line ∷ []) (word_inside b at place is) (omega arith))

  disabled_read : line < IRQ_LINES → word_left (services.disable_line b line at) place ≡ line
  disabled_read below =
      let small : wrapped line ≡ line = omega (arith, below) in
      ap (λ (o : Option (Option ℕ)). word_left (disables_at b line o) place)
      (optional_given b at place is)
      ∙ disables_line (disabling b.core.kernel.irqs line)
      (is_disabled b.core.kernel.irqs line below)
      ∙ small

-- whether interrupts were on
truth_is_word : (on : Bool) → wrapped (one_if on) ≡ one_if on
truth_is_word true = refl
truth_is_word false = refl

suspended_read : (b : Board) (at place : ℕ) → words_place b.memory at 1 ≡ Some place
    → word_left (services.suspend_interrupts b at) place ≡ one_if b.core.kernel.interrupts
suspended_read b at place is =
    let on = b.core.kernel.interrupts in
    ap (λ (o : Option ℕ). word_left (suspends_at b o) place) is
    ∙ first_at b.memory.ram place (one_if on ∷ []) (words_inside b.memory at 1 place is)
    (omega arith)
    ∙ truth_is_word on

-- the services, by their arguments
disabled_is_read : (b : Board) (place : ℕ) → argument b.core 0 < IRQ_LINES
    → place_of_word b.memory (argument b.core 1) ≡ Some place
    → word_left (services.serves_intrman b DisableIntr) place ≡ argument b.core 0
unfolding services.serves_intrman
disabled_is_read b place below is =
    disabled_read b (argument b.core 0) (argument b.core 1) place is below

suspended_is_read : (b : Board) (place : ℕ)
    → words_place b.memory (argument b.core 0) 1 ≡ Some place
    → word_left (services.serves_intrman b CpuSuspendIntr) place
    ≡ one_if b.core.kernel.interrupts
unfolding services.serves_intrman
suspended_is_read b = suspended_read b (argument b.core 0)

pub words_are_read : WordsAreRead
words_are_read = record {
  waited = waited_is_read;
  polled = polled_is_read;
  waited_clears = waited_clears;
  polled_clears = polled_clears;
  set = set_patterns_are_read;
  first = first_pattern_is_read;
  disabled = disabled_is_read;
  suspended = suspended_is_read;
}
