-- What lasts over whole runs.
use Rattle.std.proofs.Common.{◌≡◌, ℕ, zero, suc, ◌+◌, ◌-◌, ◌*◌, ◌<◌, ◌≤◌, Bool, true, false, Option, Some, None, List, [], ◌++◌, refl, ap, sym, ◌∙◌, arith, subst, inl, inr}
use Rattle.std.specs.Prelude.{◌⊎◌}
use Rattle.iop_base.specs.Numbers.{one_if}
use Rattle.iop_base.specs.Piece.{Piece}
use Rattle.iop_base.specs.declared.stop.Stop.{Stop}
use Rattle.iop_machine.specs.Laws.{IsMachine, RunsCompose, RunsAreDetermined, OverStays, RunsEnd, RunsAreComputed}
use Rattle.iop_machine.specs.Running.{Ends, GoesOn, GoesOnFor}
use Rattle.iop_machine.specs.Stepping.{step, steps, executes, executed, stop_at, stops_by, Ran, ran_by, run_within, run_of, most_between, most_steps}
use Rattle.iop_machine.specs.World.{World}
use Rattle.iop_machine.specs.Iop.{Transition, silent, and_then}
use Rattle.iop_machine.proofs.Composing.{steps_more, steps_front, executed_front, one_left, within, at_shift, goes_on_with, goes_on_both}
use Rattle.iop_machine.proofs.KeepingMachine.{keeps_machine, steps_keep_machine}
use Rattle.iop_machine.proofs.Reaching.{not_over}
use Rattle.iop_machine.proofs.Rests.{rest, rest_few}
use Rattle.iop_machine.proofs.Resting.{rest_step}
use Rattle.iop_machine.proofs.Stepping.{step_over, stop_over}

over_steps : (w : World) (k : ℕ) (stop : Stop) → w.iop.over ≡ Some stop → steps k w ≡ silent w
unfolding steps
over_steps w zero stop e = refl
over_steps w (suc k) stop e =
    ap (λ d. and_then d step) (over_steps w k stop e)
    ∙ ap (λ (d : Transition World). record {
      state = d.state;
      pieces = [] ++ d.pieces;
      bound = [] ++ d.bound;
    }) (step_over w stop e)

-- at the first step all is left
at_first : (w : World) (n : ℕ) → stop_at (steps 0 w).state (n - executed 0 w) ≡ stop_at w n
unfolding steps executed
at_first w n = let all : n - 0 ≡ n = omega arith in ap (stop_at w) all

ends_now : (w : World) (n : ℕ) (stop : Stop) → stop_at w n ≡ Some stop → Ends w n 0 stop
ends_now w n stop e =
    record { before = λ j lt. absurd (omega (arith, lt)); now = at_first w n ∙ e }

pub over_stays : OverStays
over_stays = λ w n k stop e. (ends_now w n stop (stop_over w n stop e), over_steps w k stop e)

not_before : (w : World) (n k j : ℕ) (a b : Stop) → Ends w n k a → Ends w n j b → k < j → ⊥
not_before w n k j a b p q lt = let x = p.now in let y = q.before k lt in cc (x, y)

pub runs_are_determined : RunsAreDetermined
runs_are_determined = λ w n k j a b p q.
    let one = not_before w n k j a b p q in
    let two = not_before w n j k b a q p in
    let same : k ≡ j = omega (arith, one, two) in
    let x = p.now in
    let y = q.now in
    (same, cc (same, x, y))

at_end : (o : Option Stop) (x : Bool) (l : ℕ) (stop : Stop) → stops_by o x l ≡ Some stop
    → (o ≡ Some stop) ⊎ (l ≡ 0)
at_end (Some s) x l stop e = inl e
at_end None false l stop e = cc
at_end None true zero stop e = inr refl
at_end None true (suc l) stop e = cc

compose_over : (w : World) (n m k j : ℕ) (a b : Stop) → Ends w n k a → Ends (steps k w).state m j b
    → (steps k w).state.iop.over ≡ Some a → Ends w (n + m) (k + j) b
compose_over w n m k j a b p q o =
    let v = (steps k w).state in
    let same = runs_are_determined v m j 0 b a q (ends_now v m a (stop_over v m a o)) in
    let sum : k ≡ k + j = omega (arith, same.0) in
    let here : Ends w (n + m) k a = record {
      before = goes_on_with w n m k p.before;
      now = stop_over v (n + m - executed k w) a o;
    } in
    subst (λ i. Ends w (n + m) i b) sum (subst (Ends w (n + m) k) (sym same.1) here)

compose_budget : (w : World) (n m k j : ℕ) (a b : Stop) → Ends w n k a
    → Ends (steps k w).state m j b → n - executed k w ≡ 0 → Ends w (n + m) (k + j) b
compose_budget w n m k j a b p q z =
    let all : executed k w ≡ n = omega (arith, z, within w n k p.before) in
    record {
      before = goes_on_both w n m k j all (goes_on_with w n m k p.before) q.before;
      now = at_shift w n m k j all ∙ q.now;
    }

pub runs_compose : RunsCompose
runs_compose = λ w n m k j a b p q.
    elim (at_end _ _ _ a p.now)
    [ inl o ↦ compose_over w n m k j a b p q o | inr z ↦ compose_budget w n m k j a b p q z ]

goes_later : (w : World) (n j : ℕ)
    → stop_at (steps j (step w).state).state (n - one_if (executes w) - executed j (step w).state) ≡
    stop_at (steps (suc j) w).state (n - executed (suc j) w)
goes_later w n j =
    let less : n - one_if (executes w) - executed j (step w).state ≡ n - executed (suc j) w =
    omega (arith, executed_front w j) in
    ap (stop_at (steps j (step w).state).state) less
    ∙ sym (ap (λ (d : Transition World). stop_at d.state (n - executed (suc j) w))
    (steps_front w j))

ends_later : (w : World) (n k : ℕ) (stop : Stop) → Ends w n (suc k) stop
    → Ends (step w).state (n - one_if (executes w)) k stop
ends_later w n k stop h = record {
  before = λ j lt. goes_later w n j ∙ h.before (suc j) (omega (arith, lt));
  now = goes_later w n k ∙ h.now;
}

computed_at : (f : ℕ) (w : World) (n k : ℕ) (stop : Stop) → Ends w n k stop → k < f
    → run_within f n w ≡ record
    { world = (steps k w).state; pieces = (steps k w).pieces; stop = stop }
unfolding run_within steps
computed_at zero w n k stop h lt = absurd (omega (arith, lt))
computed_at (suc f) w n zero stop h lt =
    ap (λ o. ran_by o w (run_within f (n - one_if (executes w)) (step w).state))
    (sym (at_first w n) ∙ h.now)
computed_at (suc f) w n (suc k) stop h lt =
    ap (λ o. ran_by o w (run_within f (n - one_if (executes w)) (step w).state))
    (sym (at_first w n) ∙ h.before 0 (omega arith))
    ∙ ap (ran_by None w) (computed_at f (step w).state (n - one_if (executes w)) k stop
    (ends_later w n k stop h) (omega (arith, lt)))
    ∙ sym (ap (λ (d : Transition World). record { world = d.state; pieces = d.pieces; stop = stop })
    (steps_front w k))

-- the steps without an instruction are few
few_steps : (w : World) (n k : ℕ) → IsMachine w → GoesOnFor w n k
    → k + rest (steps k w).state ≤ (most_between + 1) * executed k w + rest w
unfolding steps executed
few_steps w n zero machine f = omega arith
few_steps w n (suc k) machine f =
    let v = (steps k w).state in
    let so_far = few_steps w n k machine (λ j lt. f j (omega (arith, lt))) in
    let next = rest_step v (steps_keep_machine w k machine) (not_over v _ (f k (omega arith))) in
    omega (arith, so_far, next)

-- so a run ends within so many steps
ends_soon : (w : World) (n k : ℕ) (stop : Stop) → IsMachine w → Ends w n k stop
    → k < most_steps n w
ends_soon w n k stop machine h =
    omega (
      arith,
      few_steps w n k machine h.before,
      within w n k h.before,
      rest_few w machine,
    )

pub runs_are_computed : RunsAreComputed
unfolding run_of
runs_are_computed = λ w n k stop machine h.
    computed_at (most_steps n w) w n k stop h (ends_soon w n k stop machine h)

-- a run that goes on behind a step goes on with it
before_cons : (w : World) (n k : ℕ) → stop_at w n ≡ None
    → GoesOnFor (step w).state (n - one_if (executes w)) k → (j : ℕ) → j < suc k → GoesOn w n j
before_cons w n k e f zero lt = at_first w n ∙ e
before_cons w n k e f (suc j) lt = sym (goes_later w n j) ∙ f j (omega (arith, lt))

-- and it ends one step later
ends_cons : (w : World) (n k : ℕ) (stop : Stop) → stop_at w n ≡ None
    → Ends (step w).state (n - one_if (executes w)) k stop → Ends w n (suc k) stop
ends_cons w n k stop e h =
    record { before = before_cons w n k e h.before; now = sym (goes_later w n k) ∙ h.now }

-- where a run ends, and how
record Ending (w : World) (n : ℕ) : Type 0 where
  k : ℕ
  stop : Stop
  ends : Ends w n k stop

-- what bounds the instructions and the other steps that are left
abbrev most_left : World → ℕ → ℕ
most_left w n = (most_between + 1) * n + rest w

-- f bounds them
any_by : (f : ℕ) → ((v : World) (m : ℕ) → IsMachine v → most_left v m < f → Ending v m)
    → (w : World) (n : ℕ) → IsMachine w → (o : Option Stop) → stop_at w n ≡ o
    → most_left w n < suc f → Ending w n
any_by f less w n machine (Some stop) e lt =
    record { k = 0; stop = stop; ends = ends_now w n stop e }
any_by f less w n machine None e lt =
    let over = not_over w n e in
    let next = rest_step w machine over in
    let one = one_left _ _ _ e in
    let h = less (step w).state (n - one_if (executes w)) (keeps_machine w machine)
    (omega (arith, lt, next, one)) in
    record { k = suc h.k; stop = h.stop; ends = ends_cons w n h.k h.stop e h.ends }

any_ends : (f : ℕ) (w : World) (n : ℕ) → IsMachine w → most_left w n < f → Ending w n
any_ends zero w n machine lt = absurd (omega (arith, lt))
any_ends (suc f) w n machine lt = any_by f (any_ends f) w n machine (stop_at w n) refl lt

pub runs_end : RunsEnd
runs_end = λ w n machine.
    let h = any_ends (suc (most_left w n)) w n machine (omega arith) in
    (h.k, h.stop, ends_soon w n h.k h.stop machine h.ends, h.ends)

not_ended : (w : World) (n k later : ℕ) (stop : Stop) → GoesOnFor w n k → Ends w n later stop
    → later < k → ⊥
not_ended w n k later stop before h lt = let x = h.now in let y = before later lt in cc (x, y)

-- what a run has given when it goes on is the front of what it gives in all
pub goes_further : (w : World) (n k : ℕ) → IsMachine w → GoesOnFor w n k
    → (rest : List Piece) × ((run_of n w).pieces ≡ (steps k w).pieces ++ rest)
goes_further w n k machine before =
    let end = runs_end w n machine in
    let after = not_ended w n k end.0 end.1 before end.3 in
    let sum : k + (end.0 - k) ≡ end.0 = omega (arith, after) in (
      (steps (end.0 - k) (steps k w).state).pieces,
      ap (λ (r : Ran). r.pieces) (runs_are_computed w n end.0 end.1 machine end.3)
          ∙ ap (λ i. (steps i w).pieces) (sym sum)
          ∙ ap (λ (d : Transition World). d.pieces) (steps_more w k (end.0 - k)),
    )
