-- What each call leaves, by what stands in the lists.
use Rattle.std.proofs.Common.{◌≡◌, ◌≢◌, ℕ, ◌+◌, ◌<◌, ◌≤◌, ◌⊎◌, inl, inr, ◌==◌, nat_lt, Bool, true, false, cond, not, Option, Some, None, option_map, option_and_then, MatchOption, IfSome, List, [], ◌∷◌, ◌++◌, map, filter, find, length, get_or, pos, negsuc, suc, zero, refl, ap, ◌∙◌, sym, subst, arith}
use Rattle.std.specs.Option.{option_or}
use Rattle.std.specs.List.{list_any, AllPairs, Contains}
use Rattle.std.proofs.lemmas.Bool.{cases_lt, false≢true}
use Rattle.std.proofs.lemmas.Bool.Decides.{nat_tests}
use Rattle.std.proofs.lemmas.List.{get_or_default, get_or-map, length-map}
use Rattle.std.proofs.lemmas.List.Elements.{All-contains, All-filter, All-contains_itself, filter_passes, Contains-get_or, Contains-append_left, Contains-push, Contains-push_cases}
use Rattle.iop_base.specs.declared.code.Code.{Code}
use Rattle.iop_base.specs.declared.code.TheConstants.Code.{OK, HANDLER_FOUND, HANDLER_NOT_FOUND, NO_MEMORY}
use Rattle.iop_time.specs.ClockTime.{moment_after}
use Rattle.iop_time.specs.Timers.{Timers, AreTimers, DelaysDiffer, is_alarm_of, is_delay_of, sets_alarm, cancels, later, sets_again}
use Rattle.iop_time.specs.Turns.{due}
use Rattle.iop_time.specs.Taking.{timer_of, without_due, takes_due}
use Rattle.iop_time.specs.Laws.{IsWithout, HasOneMore, IsTaken, alarm_with, IsSet, IsSetAgain, AlarmsAreGone, CallsLeave, EachCallLeaves}
use Rattle.iop_time.specs.declared.alarm.Alarm.{Alarm}
use Rattle.iop_time.specs.declared.delay.Delay.{Delay}
use Rattle.iop_time.specs.declared.due.Due.{Due}
use Rattle.iop_time.specs.declared.due.Due.TheVariants as due_variants
use Rattle.iop_time.specs.declared.clock.TheConstants.{MOST_ALARMS}

-- a refusal is not OK
refused : {P : Type 0} (n : ℕ) (code : Code) → code.0 ≡ negsuc n → code ≡ OK → P
refused n code number ok =
    let is_ok : negsuc n ≡ pos 0 = sym number ∙ ap (λ (c : Code). c.0) ok in
    let never : ⊥ = cc in
    absurd never

module _ {X : Type 0} where
  behind : (x y : X) (xs : List X) → Contains xs x → Contains (y ∷ xs) x
  behind x y xs (k, below, at) = (suc k, omega arith, at)

  -- what passes is kept
  kept : (x y : X) (xs : List X) (b : Bool) → b ≡ true → y ≡ x → Contains (cond b (y ∷ xs) xs) x
  kept x y xs true passes at = (zero, omega arith, at)
  kept x y xs false passes at = absurd (false≢true passes)

  kept_behind : (x y : X) (xs : List X) (b : Bool) → Contains xs x → Contains (cond b (y ∷ xs) xs) x
  kept_behind x y xs true has = behind x y xs has
  kept_behind x y xs false has = has

  Contains-filter : (p : X → Bool) (xs : List X) (x : X) → Contains xs x → p x ≡ true
      → Contains (filter p xs) x
  Contains-filter p [] x has passes = has
  Contains-filter p (y ∷ ys) x (zero, below, at) passes =
      kept x y (filter p ys) (p y) (ap p at ∙ passes) at
  Contains-filter p (y ∷ ys) x (suc k, below, at) passes =
      kept_behind x y (filter p ys) (p y)
      (Contains-filter p ys x (k, omega arith, at) passes)

  -- a filter takes out what fails
  filter-without : (p : X → Bool) (IsGone : X → Type 0) (xs : List X)
      → ((x : X) → Contains xs x → p x ≡ true → IsGone x → ⊥)
      → ((x : X) → Contains xs x → (IsGone x → ⊥) → p x ≡ true)
      → IsWithout xs (filter p xs) IsGone
  filter-without p IsGone xs stays passes x = (
    λ has.
        let old = All-contains (Contains xs) (filter p xs) x
        (All-filter p (Contains xs) xs (All-contains_itself xs)) has in
        (old, stays x old (All-contains (λ y. p y ≡ true) (filter p xs) x (filter_passes p xs) has)),
    λ old. Contains-filter p xs x old.0 (passes x old.0 old.1),
  )

  push-one : (xs : List X) (one : X) → HasOneMore xs (xs ++ one ∷ []) one
  push-one xs one x = (
    λ has. elim (Contains-push_cases xs one x has) [
      | inl old ↦ inl old
      | inr new ↦ inr (sym new)
    ],
    λ has. elim has [
      | inl old ↦ Contains-append_left xs (one ∷ []) x old
      | inr new ↦ subst (Contains (xs ++ one ∷ [])) (sym new) (Contains-push xs one)
    ],
  )

  Contains-map : (f : X → X) (xs : List X) (x : X) → Contains xs x → Contains (map f xs) (f x)
  Contains-map f xs x (k, below, at) =
      (k, omega (arith, length-map xs f), get_or-map f xs k x (f x) below ∙ ap f at)

  Contains-map_back : (f : X → X) (xs : List X) (y : X) → Contains (map f xs) y
      → (x : X) × Contains xs x × (f x ≡ y)
  Contains-map_back f xs y (k, below, at) =
      let short : k < length xs = omega (arith, length-map xs f) in
      (get_or xs k y, Contains-get_or xs k y short, sym (get_or-map f xs k y y short) ∙ at)

  -- what is found stands in the list
  found_by : (x : X) (xs : List X) (b : Bool) (rest : Option X) → IfSome rest (Contains xs)
      → IfSome (cond b (Some x) rest) (Contains (x ∷ xs))
  found_by x xs true rest has = (zero, omega arith, refl)
  found_by x xs false None has = has
  found_by x xs false (Some y) has = behind y x xs has

  found-stands : (p : X → Bool) (xs : List X) → IfSome (find p xs) (Contains xs)
  found-stands p [] = tt
  found-stands p (x ∷ xs) = found_by x xs (p x) (find p xs) (found-stands p xs)

differ_by_thread : (a b : Delay) → a.thread ≡ b.thread → DelaysDiffer a b → ⊥
differ_by_thread a b same differ =
    let other = differ.1 in
    grind (arith, nat_tests)

-- of two delays of one thread there is one alone
same_thread : (xs : List Delay) (a b : Delay) → AllPairs DelaysDiffer xs → Contains xs a
    → Contains xs b → a.thread ≡ b.thread → a ≡ b
same_thread xs a b differ (i, a_below, a_at) (j, b_below, b_at) same =
    at (cases_lt i j) (cases_lt j i)
  where
    b_there : get_or xs j a ≡ b
    b_there = get_or_default xs j a b b_below ∙ b_at

    at : (i < j) ⊎ (j ≤ i) → (j < i) ⊎ (i ≤ j) → a ≡ b
    at (inl before) any =
        absurd (differ_by_thread a b same
        (subst (λ d. DelaysDiffer d b) a_at
        (subst (DelaysDiffer (get_or xs i a)) b_there (differ i j a before b_below))))
    at (inr no_before) (inl after) =
        absurd (differ_by_thread b a (sym same)
        (subst (λ d. DelaysDiffer d a) b_there
        (subst (DelaysDiffer (get_or xs j a)) a_at (differ j i a after a_below))))
    at (inr no_before) (inr no_after) =
        let place : i ≡ j = omega arith in
        sym a_at ∙ ap (λ k. get_or xs k a) place ∙ b_there

-- an alarm or a delay that stands
abbrev IsThere : Timers → Due → Type 0
IsThere timers (due_variants.Alarm alarm) = Contains timers.alarms alarm
IsThere timers (due_variants.Delay delay) = Contains timers.delays delay

either_there : (timers : Timers) (alarm : Option Alarm) (delay : Option Delay)
    → IfSome alarm (Contains timers.alarms) → IfSome delay (Contains timers.delays)
    → IfSome (option_or (option_map due_variants.Alarm alarm) (option_map due_variants.Delay delay))
    (IsThere timers)
either_there timers (Some alarm) delay has has_delay = has
either_there timers None (Some delay) none has = has
either_there timers None None none neither = tt

timer_there : (timers : Timers) (number : Option ℕ)
    → IfSome (option_and_then (timer_of timers) number) (IsThere timers)
timer_there timers None = tt
timer_there timers (Some number) =
    either_there timers (find (λ alarm. alarm.number == number) timers.alarms)
    (find (λ delay. delay.number == number) timers.delays)
    (found-stands (λ alarm. alarm.number == number) timers.alarms)
    (found-stands (λ delay. delay.number == number) timers.delays)

not_thread : (thread : ℕ) (delay : Delay) → delay.thread ≢ thread
    → not (is_delay_of thread delay) ≡ true
not_thread thread delay other = grind (arith, nat_tests)

a_thread : (thread : ℕ) (delay : Delay) → not (is_delay_of thread delay) ≡ true
    → delay.thread ≡ thread → ⊥
a_thread thread delay passes same = grind (arith, nat_tests)

module _ (timers : Timers) (h : AreTimers timers) where
  taken : (what : Option Due) → IfSome what (IsThere timers)
      → MatchOption what (without_due timers what ≡ timers)
      (IsTaken timers (without_due timers what))
  taken None there = refl
  taken (Some (due_variants.Alarm alarm)) there = (there, refl)
  taken (Some (due_variants.Delay delay)) there = (
    there,
    (refl, refl),
    filter-without (λ other. not (is_delay_of delay.thread other)) (λ other. other ≡ delay)
        timers.delays
        (λ other stands passes same. a_thread delay.thread other passes
        (ap (λ d. d.thread) same))
        (λ other stands differs. not_thread delay.thread other
        (λ same. differs
        (same_thread timers.delays other delay h.delays_differ stands there same))),
  )

  dropped : (thread : ℕ)
      → IsWithout timers.delays
      (filter (λ delay. not (is_delay_of thread delay)) timers.delays)
      (λ delay. delay.thread ≡ thread)
  dropped thread =
      filter-without (λ delay. not (is_delay_of thread delay)) (λ delay. delay.thread ≡ thread)
      timers.delays (λ delay stands. a_thread thread delay)
      (λ delay stands. not_thread thread delay)

  removed : (number : ℕ)
      → IsWithout timers.alarms (filter (λ alarm. not (alarm.number == number)) timers.alarms)
      (λ alarm. alarm.number ≡ number)
  removed number =
      filter-without (λ alarm. not (alarm.number == number)) (λ alarm. alarm.number ≡ number)
      timers.alarms (λ alarm stands passes same. grind (arith, nat_tests))
      (λ alarm stands other. grind (arith, nat_tests))

  without : (handler arg : ℕ)
      → IsWithout timers.alarms
      (filter (λ alarm. not (is_alarm_of handler arg alarm)) timers.alarms)
      (λ alarm. (alarm.handler ≡ handler) × (alarm.arg ≡ arg))
  without handler arg =
      filter-without (λ alarm. not (is_alarm_of handler arg alarm))
      (λ alarm. (alarm.handler ≡ handler) × (alarm.arg ≡ arg)) timers.alarms
      (λ alarm stands passes same. grind (arith, nat_tests))
      (λ alarm stands other. grind (arith, nat_tests))

  cancelled : (handler arg : ℕ) (b : Bool) → list_any (is_alarm_of handler arg) timers.alarms ≡ b
      → (cancels timers handler arg).0 ≡ OK
      → AlarmsAreGone timers (cancels timers handler arg).1
      (λ alarm. (alarm.handler ≡ handler) × (alarm.arg ≡ arg))
  cancelled handler arg true stands =
      rw stands (λ ok. record { alone = (refl, refl); alarms = without handler arg })
  cancelled handler arg false none = rw none (refused 104 HANDLER_NOT_FOUND refl)

  set : (moment handler arg gp : ℕ) (b c : Bool)
      → list_any (is_alarm_of handler arg) timers.alarms ≡ b
      → nat_lt (length timers.alarms) MOST_ALARMS ≡ c
      → (sets_alarm timers moment handler arg gp).0 ≡ OK
      → IsSet timers (sets_alarm timers moment handler arg gp).1
      (alarm_with timers.next moment handler arg gp)
  set moment handler arg gp true c stands room = rw stands (refused 103 HANDLER_FOUND refl)
  set moment handler arg gp false true none room =
      rw (none, room) (λ ok.
      record { next = refl; delays = refl; alarms = push-one timers.alarms _ })
  set moment handler arg gp false false none full =
      rw (none, full) (refused 399 NO_MEMORY refl)

  module _ (number ticks : ℕ) where
    stays : (alarm : Alarm) → alarm.number ≢ number → later number ticks alarm ≡ alarm
    stays alarm other =
        let not_it : (alarm.number == number) ≡ false = grind (arith, nat_tests) in
        rw not_it refl

    comes_later : (alarm : Alarm) → alarm.number ≡ number
        → later number ticks alarm
        ≡ alarm_with number (alarm.moment + ticks) alarm.handler alarm.arg alarm.gp
    comes_later alarm same =
        let it : (alarm.number == number) ≡ true = grind (arith, nat_tests) in
        rw it (ap (λ n. alarm_with n (alarm.moment + ticks) alarm.handler alarm.arg alarm.gp) same)

    same_number : (alarm : Alarm) (b : Bool)
        → (cond b (record alarm { moment = moment_after alarm.moment ticks }) alarm).number
        ≡ alarm.number
    same_number alarm true = refl
    same_number alarm false = refl

    was_there : (alarm : Alarm) → alarm.number ≢ number
        → Contains (map (later number ticks) timers.alarms) alarm → Contains timers.alarms alarm
    was_there alarm other has =
        let (was, stands, put) = Contains-map_back (later number ticks) timers.alarms alarm has in
        let number_is = sym (same_number was (was.number == number)) ∙ ap (λ a. a.number) put in
        subst (Contains timers.alarms) (sym (stays was (λ e. other (sym number_is ∙ e))) ∙ put)
        stands

    again : IsSetAgain timers (sets_again timers number ticks) number ticks
    again = record {
      alone = (refl, refl);
      again = λ alarm stands same.
          subst (Contains (map (later number ticks) timers.alarms)) (comes_later alarm same)
          (Contains-map (later number ticks) timers.alarms alarm stands);
      others = λ alarm other. (
        was_there alarm other,
        λ stands.
            subst (Contains (map (later number ticks) timers.alarms)) (stays alarm other)
            (Contains-map (later number ticks) timers.alarms alarm stands),
      );
    }

  calls : CallsLeave timers
  calls = record {
    takes_due = λ t. taken (takes_due timers t).0 (timer_there timers (due timers t));
    sets_alarm = λ moment handler arg gp. set moment handler arg gp _ _ refl refl;
    cancels = λ handler arg. cancelled handler arg _ refl;
    delays = λ moment thread.
        record { next = refl; alarms = refl; delays = push-one timers.delays _ };
    drops_delay = λ thread. ((refl, refl), dropped thread);
    sets_again = again;
    removes = λ number. record { alone = (refl, refl); alarms = removed number };
  }

pub each_call_leaves : EachCallLeaves
each_call_leaves timers h = calls timers h
