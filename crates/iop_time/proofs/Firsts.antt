-- Which turn comes first, where one more is there.
use Rattle.std.proofs.Common.{◌≡◌, Bool, true, false, cond, Option, Some, None, List, [], ◌∷◌, ◌++◌, map, fold, refl, ap, ◌∙◌, sym}
use Rattle.std.proofs.lemmas.List.{map-append}
use Rattle.std.proofs.lemmas.List.Sums.{fold-append}
use Rattle.iop_time.specs.Turns.{comes, is_before, sooner, first_with, turn_of_alarm, turn_of_delay, first_turn}
use Rattle.iop_time.specs.declared.alarm.Alarm.{Alarm}
use Rattle.iop_time.specs.declared.delay.Delay.{Delay}
use Rattle.iop_time.specs.declared.turn.Turn.{Turn}
use Rattle.iop_time.proofs.Comparing.{before-asym, before-later, same_turn}

of_two : (x y : Turn) (b c : Bool) → is_before x y ≡ b → is_before y x ≡ c
    → cond b x y ≡ cond c y x
of_two x y true true first second = let other = before-asym x y first in cc
of_two x y true false first second = refl
of_two x y false true first second = refl
of_two x y false false first second = same_turn y x second first

-- the first of one and two more
of_three : (o x y : Turn) (b c : Bool) → is_before o x ≡ b → is_before o y ≡ c
    → sooner (Some (cond b o x)) y ≡ sooner (Some (cond c o y)) x
of_three o x y true true first second = rw (first, second) refl
of_three o x y true false first second =
    let later = before-later o x y first second in rw (second, later) refl
of_three o x y false true first second =
    let later = before-later o y x second first in rw (first, later) refl
of_three o x y false false first second = of_two x y (is_before x y) (is_before y x) refl refl

-- it does not matter in which order two are looked at
of_both : (o : Option Turn) (x y : Turn)
    → sooner (Some (sooner o x)) y ≡ sooner (Some (sooner o y)) x
of_both None x y = of_two x y (is_before x y) (is_before y x) refl refl
of_both (Some o) x y = of_three o x y (is_before o x) (is_before o y) refl refl

first_with-swap : (o : Option Turn) (x y : Turn) (b c : Bool) → comes x ≡ b → comes y ≡ c
    → first_with (first_with o x) y ≡ first_with (first_with o y) x
first_with-swap o x y true true one two = rw (one, two) (ap Some (of_both o x y))
first_with-swap o x y true false one two = rw (one, two) refl
first_with-swap o x y false true one two = rw (one, two) refl
first_with-swap o x y false false one two = rw (one, two) refl

pub fold-moved : (o : Option Turn) (x : Turn) (ys : List Turn)
    → fold first_with (first_with o x) ys ≡ first_with (fold first_with o ys) x
fold-moved o x [] = refl
fold-moved o x (y ∷ ys) =
    ap (λ p. fold first_with p ys) (first_with-swap o x y (comes x) (comes y) refl refl)
    ∙ fold-moved (first_with o y) x ys

pub with_alarm-first : (alarms : List Alarm) (alarm : Alarm) (delays : List Delay)
    → first_turn (alarms ++ alarm ∷ []) delays
    ≡ first_with (first_turn alarms delays) (turn_of_alarm alarm)
with_alarm-first alarms alarm delays =
    let before = map turn_of_alarm alarms in
    let behind = map turn_of_delay delays in
    let turn = turn_of_alarm alarm in
    ap (λ l. fold first_with None (l ++ behind)) (map-append turn_of_alarm alarms (alarm ∷ []))
    ∙ fold-append first_with None (before ++ turn ∷ []) behind
    ∙ ap (λ o. fold first_with o behind) (fold-append first_with None before (turn ∷ []))
    ∙ fold-moved (fold first_with None before) turn behind
    ∙ ap (λ o. first_with o turn) (sym (fold-append first_with None before behind))

pub with_delay-first : (alarms : List Alarm) (delays : List Delay) (delay : Delay)
    → first_turn alarms (delays ++ delay ∷ [])
    ≡ first_with (first_turn alarms delays) (turn_of_delay delay)
with_delay-first alarms delays delay =
    let before = map turn_of_alarm alarms in
    let behind = map turn_of_delay delays in
    let turn = turn_of_delay delay in
    ap (λ l. fold first_with None (before ++ l)) (map-append turn_of_delay delays (delay ∷ []))
    ∙ fold-append first_with None before (behind ++ turn ∷ [])
    ∙ fold-append first_with (fold first_with None before) behind (turn ∷ [])
    ∙ ap (λ o. first_with o turn) (sym (fold-append first_with None before behind))
