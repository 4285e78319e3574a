-- What holds after each service of event flags.
use Rattle.std.proofs.Common.{◌≡◌, ℕ, ◌==◌, not, true, false, Option, Some, None, Result, Ok, Err, List, [], ◌∷◌, refl, sym, subst, ap, arith}
use Rattle.std.specs.Prelude.{is_some}
use Rattle.std.proofs.lemmas.Bool.{cond_both}
use Rattle.std.proofs.lemmas.Bool.Decides.{nat_tests}
use Rattle.iop_base.specs.Piece.{Piece}
use Rattle.iop_base.specs.declared.code.Code.{Code}
use Rattle.iop_base.specs.declared.code.TheConstants.Code.{OK, FLAG_CONDITION, EMPTY_PATTERN, SECOND_WAITER}
use Rattle.iop_event.specs.EventFlags as flags
use Rattle.iop_event.specs.EventFlags.{EventFlags, with_pattern}
use Rattle.iop_event.specs.WakeConditions.{holds, pattern_after}
use Rattle.iop_event.specs.declared.event_flag.EventFlag as declared_flag
use Rattle.iop_event.specs.declared.wanted.Wanted.{Wanted}
use Rattle.iop_objects.specs.Objects.{object_of, state_of, with_state}
use Rattle.iop_thread.specs.declared.kind.Kind.TheVariants.{EventFlag}
use Rattle.iop_kernel.specs.Boards.{Board, board_of, optional_place, word_in}
use Rattle.iop_kernel.specs.EventFlags.{LiveFlag, creates_flag_at, clear_event_flag, leaves_flags, meets_all, sets_flag, polls_by, tests_or_waits, waits_flag_at, polls_flag_at}
use Rattle.iop_kernel.specs.System.{Core, Left, System, Done, may_switch, caller, with_event_flags, answers_result}
use Rattle.iop_kernel.specs.Waits.{is_code}
use Rattle.iop_kernel.specs.declared.after.After.{After}
use Rattle.iop_kernel.proofs.Keeping.Meetings.{met_of, set_flags, meets_core}
use Rattle.iop_kernel.proofs.Keeping.Memory.{PlaceFits, optional_fits}
use Rattle.iop_kernel.proofs.Walk.Changes.FlagChanges.{clears, tests}
use Rattle.iop_kernel.proofs.Walk.Moves.{EachMoves, ObjectMoves, Sets, CoreEnds, BoardEnds}
use Rattle.iop_kernel.proofs.Walk.Objects.{waits_goes}
use Rattle.iop_kernel.proofs.Walk.Stores.{written, either_board, met_stored, own_id}
use Rattle.iop_kernel.proofs.Walk.Threads.{answers_after, only}

module _ {P : System → List Piece → Type 0} {Q : After → System → List Piece → Type 0}
    {Asks MayLeave : Type 0} {s : System} (e : EachMoves P Q Asks s)
    (m : ObjectMoves P Q Asks s MayLeave EventFlag) where
  abbrev c : Core
  c = s.core

  abbrev b : Board
  b = board_of s

  abbrev CoreGoes : Left Core → Type 0
  CoreGoes = CoreEnds Q s

  abbrev BoardGoes : Done Board → Type 0
  BoardGoes = BoardEnds Q s

  abbrev those : EventFlags
  those = s.core.kernel.event_flags

  -- event flags: one is made
  flag_made : (attr option first : ℕ) → let done = flags.creates those attr option first in
      CoreGoes (answers_result (with_event_flags c done.1) done.0)
  flag_made attr option first =
      cond_both (not (flags.is_attribute attr)) _ _
      (λ (r : Result ℕ Code × EventFlags). CoreGoes (answers_result (with_event_flags c r.1) r.0))
      (λ illegal. only e _)
      (λ legal. answers_after e _ _
      (m.makes (record { attr = attr; option = option; first = first; pattern = first })
      s.blocks (grind (arith, nat_tests, legal), refl) refl))

  pub creates_flag_goes : (o : Option ℕ) → CoreGoes (creates_flag_at c s.memory o)
  creates_flag_goes None = e.bad_place
  creates_flag_goes (Some place) =
      let word : ℕ → ℕ = word_in s.memory place in flag_made (word 0) (word 1) (word 2)

  clears_by : (id mask : ℕ) (o : Option declared_flag.EventFlag) → state_of those id ≡ o
      → CoreGoes (leaves_flags c (flags.clears_it those id mask o))
  clears_by id mask None known = only e _
  clears_by id mask (Some x) known = answers_after e _ _ (m.changes id x _ known (clears mask))

  pub clears_go : (id mask : ℕ) → CoreGoes (clear_event_flag c id mask)
  clears_go id mask = clears_by id mask (state_of those id) refl

  -- bits are set, by the event flag
  sets_flag_by : Sets P Q Asks s → (id bits : ℕ) (o : Option LiveFlag)
      → object_of those.live id ≡ o → BoardGoes (sets_flag b bits o)
  sets_flag_by set id bits None found = only e _
  sets_flag_by set id bits (Some o) found =
      let now : Board = record b { core = with_event_flags c (set_flags c o bits) } in
      let met = met_of o bits in
      let core = subst (λ (d : Core). P (record s { core = d }) []) (sym (meets_core met now))
      (set bits o (own_id those id o found)) in
      e.goes_on _ _ _ (met_stored e met now (record s { core = (meets_all now met).core }) [] refl
      (ap (λ (d : Core). d.kernel.clock) (meets_core met now)) core)

  pub sets_flag_goes : Sets P Q Asks s → (id bits : ℕ)
      → BoardGoes (sets_flag b bits (object_of those.live id))
  sets_flag_goes set id bits = sets_flag_by set id bits (object_of those.live id) refl

  -- a condition is tested, by what is known
  module _ (id : ℕ) (wanted : Wanted) where
    tests_by : (C : Result ℕ Code × EventFlags → Type 0) (o : Option declared_flag.EventFlag)
        → state_of those id ≡ o
        → ((code : Code) → is_code code FLAG_CONDITION ≡ false → C (Err code, those))
        → ((x : declared_flag.EventFlag) → state_of those id ≡ Some x
        → holds wanted.bits wanted.mode x.pattern ≡ true → C (
          Ok x.pattern,
          with_state those id (with_pattern x (pattern_after wanted.mode x.pattern)),
        ))
        → ((x : declared_flag.EventFlag) → state_of those id ≡ Some x
        → (wanted.bits == 0) ≡ false → flags.is_taken those id x ≡ false
        → holds wanted.bits wanted.mode x.pattern ≡ false → C (Err FLAG_CONDITION, those))
        → C (flags.tests_it those id wanted.bits wanted.mode o)
    tests_by C None known refused met unmet = refused _ refl
    tests_by C (Some x) known refused met unmet =
        cond_both (wanted.bits == 0) (Err EMPTY_PATTERN, those) _ C (λ empty. refused _ refl)
        (λ some. cond_both (flags.is_taken those id x) (Err SECOND_WAITER, those) _ C
        (λ taken. refused _ refl)
        (λ free. cond_both (holds wanted.bits wanted.mode x.pattern) _ (Err FLAG_CONDITION, those) C
        (met x known) (unmet x known some free)))

    polls_flag_by : (o : Option (Option ℕ)) → PlaceFits s o
        → BoardGoes (polls_flag_at b id wanted o)
    polls_flag_by None fits = e.bad_place
    polls_flag_by (Some place) fits =
        tests_by (λ (r : Result ℕ Code × EventFlags). BoardGoes (polls_by b place r))
        (state_of those id) refl (λ code other. only e _)
        (λ x known met. written e place (x.pattern ∷ []) _ OK (fits place refl)
        (m.changes id x _ known (tests wanted met)))
        (λ x known some free unmet. only e _)

    refused : (place : Option ℕ) (code : Code) → is_code code FLAG_CONDITION ≡ false
        → BoardGoes (tests_or_waits b id wanted place (Err code, those))
    refused place code other = rw other (only e _)

    waits_flag_by : Asks → MayLeave → (o : Option (Option ℕ))
        → optional_place s.memory wanted.place ≡ o → PlaceFits s o
        → BoardGoes (waits_flag_at b id wanted o)
    waits_flag_by asks leave None is fits = e.bad_place
    waits_flag_by asks leave (Some place) is fits =
        either_board e (may_switch c.kernel) _ _ (λ may.
        tests_by
        (λ (r : Result ℕ Code × EventFlags). BoardGoes (tests_or_waits b id wanted place r))
        (state_of those id) refl (refused place)
        (λ x known met. written e place (x.pattern ∷ []) _ OK (fits place refl)
        (m.changes id x _ known (tests wanted met)))
        (λ x known some free unmet.
        waits_goes e EventFlag m asks leave id x wanted may known (some, free, unmet)
        (ap is_some is) (caller c) refl))
        (λ cannot. only e _)

    pub waits_flag_goes : Asks → MayLeave
        → BoardGoes (waits_flag_at b id wanted (optional_place s.memory wanted.place))
    waits_flag_goes asks leave =
        waits_flag_by asks leave (optional_place s.memory wanted.place) refl
        (optional_fits s wanted.place)

    pub polls_flag_goes : BoardGoes
        (polls_flag_at b id wanted (optional_place s.memory wanted.place))
    polls_flag_goes =
        polls_flag_by (optional_place s.memory wanted.place) (optional_fits s wanted.place)
