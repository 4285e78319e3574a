-- What WaitEventFlag and PollEventFlag leave where they answer 0: the condition held then.
use Rattle.std.proofs.Common.{◌≡◌, ℕ, ◌==◌, true, false, Option, Some, None, Result, Ok, Err, refl, sym, ◌∙◌, subst, arith}
use Rattle.std.proofs.lemmas.Bool.{cond_both, eq-eqb}
use Rattle.iop_base.specs.declared.code.Code.{Code}
use Rattle.iop_base.specs.declared.code.TheConstants.Code.{FLAG_CONDITION, EMPTY_PATTERN, SECOND_WAITER, CANNOT_WAIT}
use Rattle.iop_event.specs.EventFlags.{EventFlags, with_pattern}
use Rattle.iop_event.specs.EventFlags as flags
use Rattle.iop_event.specs.WakeConditions.{holds, pattern_after}
use Rattle.iop_event.specs.declared.event_flag.EventFlag.{EventFlag}
use Rattle.iop_event.specs.declared.wanted.Wanted.{Wanted}
use Rattle.iop_exec.specs.Laws.{IsSteady}
use Rattle.iop_objects.specs.Objects.{state_of, with_state}
use Rattle.iop_thread.specs.declared.kind.Kind.TheVariants.{EventFlag as FlagOf}
use Rattle.iop_kernel.specs.Boards.{Board, quiet, optional_place}
use Rattle.iop_kernel.specs.EventFlags.{polls_by, tests_or_waits, waits_flag_at, polls_flag_at, wait_event_flag, poll_event_flag}
use Rattle.iop_kernel.specs.ObjectServices.{waits_for}
use Rattle.iop_kernel.specs.System.{Done, may_switch, caller, code_word, answers}
use Rattle.iop_kernel_laws.specs.WordLaws.{AnswersZero}
use Rattle.iop_kernel_laws.proofs.Histories.Calls.{word_tells}

-- this holds where 0 is answered
abbrev pub Zero : (Done Board → Type 0) → Done Board → Type 0
Zero P d = AnswersZero d → P d

module _ (b : Board) (id : ℕ) (wanted : Wanted) (x : EventFlag) where
  abbrev those : EventFlags
  those = b.core.kernel.event_flags

  -- the event flags, once the condition held
  abbrev passed : EventFlags
  passed = with_state those id (with_pattern x (pattern_after wanted.mode x.pattern))

  -- what the call leaves then, by the place for the pattern
  abbrev pub told : Option ℕ → Done Board
  told place = polls_by b place (Ok x.pattern, passed)

  module _ (steady : IsSteady b.core.cpu) (known : state_of those id ≡ Some x)
      (P : Done Board → Type 0) (place : Option ℕ)
      (given : optional_place b.memory wanted.place ≡ Some place) (holds_then : P (told place))
    where
      -- a code other than 0 is answered
      refused : (code : Code) → (code_word code == 0) ≡ false
          → Zero P (quiet b.memory (answers b.core code))
      refused code other zero =
          let is : (code_word code == 0) ≡ true =
          sym (word_tells b.core (omega (arith, steady.registers)) (code_word code))
          ∙ eq-eqb _ 0 zero.1 in
          absurd (cc (is, other))

      -- the thread that calls does not go on
      waiting : (who : Option ℕ) → Zero P (quiet b.memory (waits_for FlagOf b.core id wanted who))
      waiting None zero = absurd (cc zero.0)
      waiting (Some thread) zero = absurd (cc zero.0)

      -- by what the test comes to
      tests_by : (C : Result ℕ Code × EventFlags → Type 0) → C (Err EMPTY_PATTERN, those)
          → C (Err SECOND_WAITER, those) → C (Err FLAG_CONDITION, those)
          → C (Ok x.pattern, passed) → C (flags.tests those id wanted.bits wanted.mode)
      tests_by C empty second unmet met =
          subst (λ (o : Option EventFlag). C (flags.tests_it those id wanted.bits wanted.mode o))
          (sym known)
          (cond_both (wanted.bits == 0) (Err EMPTY_PATTERN, those) _ C (λ is. empty)
          (λ some. cond_both (flags.is_taken those id x) (Err SECOND_WAITER, those) _ C
          (λ is. second)
          (λ free. cond_both (holds wanted.bits wanted.mode x.pattern) (Ok x.pattern, passed)
          (Err FLAG_CONDITION, those) C (λ is. met) (λ other. unmet))))

      pub polled_so : Zero P (poll_event_flag b id wanted)
      polled_so =
          subst (λ (o : Option (Option ℕ)). Zero P (polls_flag_at b id wanted o)) (sym given)
          (tests_by (λ (r : Result ℕ Code × EventFlags). Zero P (polls_by b place r))
          (refused EMPTY_PATTERN refl) (refused SECOND_WAITER refl) (refused FLAG_CONDITION refl)
          (λ zero. holds_then))

      pub waited_so : Zero P (wait_event_flag b id wanted)
      waited_so =
          subst (λ (o : Option (Option ℕ)). Zero P (waits_flag_at b id wanted o)) (sym given)
          (cond_both (may_switch b.core.kernel) _ _ (Zero P)
          (λ may. tests_by
          (λ (r : Result ℕ Code × EventFlags). Zero P (tests_or_waits b id wanted place r))
          (refused EMPTY_PATTERN refl) (refused SECOND_WAITER refl) (waiting (caller b.core))
          (λ zero. holds_then))
          (λ cannot. refused CANNOT_WAIT refl))
