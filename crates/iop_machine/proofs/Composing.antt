-- The steps of a run, and what they execute, in two parts, and how far runs go on.
use Rattle.std.proofs.Common.{◌≡◌, ℕ, zero, suc, ◌+◌, ◌-◌, ◌<◌, ◌≤◌, nat_lt, Bool, true, false, Option, Some, None, List, [], ◌++◌, append-nil, append_assoc, add-zero, add-suc, refl, ap, sym, ◌∙◌, subst, arith}
use Rattle.std.proofs.lemmas.Bool.Decides.{nat_tests}
use Rattle.iop_base.specs.Numbers.{one_if}
use Rattle.iop_base.specs.Piece.{Piece}
use Rattle.iop_base.specs.declared.stop.Stop.{Stop}
use Rattle.iop_stubs.specs.declared.live_stub.Stub.{Stub}
use Rattle.iop_machine.specs.Laws.{StepsCompose}
use Rattle.iop_machine.specs.Stepping.{step, steps, executes, executed, stop_at, stops_by}
use Rattle.iop_machine.specs.World.{World}
use Rattle.iop_machine.specs.Iop.{Transition, and_then}
use Rattle.iop_machine.specs.Running.{GoesOn, GoesOnFor}

-- a transition to this state, which gives these pieces and binds these stubs
abbrev leading_to : World → List Piece → List Stub → Transition World
leading_to w pieces bound = record { state = w; pieces = pieces; bound = bound }

-- nothing behind it changes nothing
then_nothing : (w : World) (t : Transition World)
    → leading_to w t.pieces t.bound ≡ leading_to w (t.pieces ++ []) (t.bound ++ [])
then_nothing w t = simp append-nil

-- what three transitions give and bind, the first two together or the last two
then_both : (a b c : Transition World)
    → leading_to c.state ((a.pieces ++ b.pieces) ++ c.pieces) ((a.bound ++ b.bound) ++ c.bound)
    ≡ leading_to c.state (a.pieces ++ (b.pieces ++ c.pieces)) (a.bound ++ (b.bound ++ c.bound))
then_both a b c = simp append_assoc

-- more steps go on from the state that the first ones reach
pub steps_more : (w : World) (k j : ℕ)
    → steps (k + j) w ≡ record {
      state = (steps j (steps k w).state).state;
      pieces =
          (steps k w).pieces ++ (steps j (steps k w).state).pieces;
      bound =
          (steps k w).bound ++ (steps j (steps k w).state).bound;
    }
unfolding steps
steps_more w k zero =
    ap (λ n. steps n w) (add-zero k) ∙ then_nothing (steps k w).state (steps k w)
steps_more w k (suc j) =
    let now = (steps k w).state in
    ap (λ n. steps n w) (add-suc k j) ∙ ap (λ d. and_then d step) (steps_more w k j)
    ∙ then_both (steps k w) (steps j now) (step (steps j now).state)

pub steps_compose : StepsCompose
steps_compose = λ w k j. steps_more w k j

-- and so does what they execute
pub executed_more : (w : World) (k j : ℕ)
    → executed (k + j) w ≡ executed k w + executed j (steps k w).state
unfolding executed
executed_more w k zero = ap (λ n. executed n w) (add-zero k) ∙ sym (add-zero (executed k w))
executed_more w k (suc j) =
    let more = ap (λ n. executed n w) (add-suc k j) in
    let same = ap (λ (d : Transition World). one_if (executes d.state)) (steps_more w k j) in
    omega (arith, more, same, executed_more w k j)

-- the first step comes first
pub steps_front : (w : World) (j : ℕ)
    → steps (suc j) w ≡ record {
      state = (steps j (step w).state).state;
      pieces =
          (step w).pieces ++ (steps j (step w).state).pieces;
      bound =
          (step w).bound ++ (steps j (step w).state).bound;
    }
unfolding steps
steps_front w zero = then_nothing (step w).state (step w)
steps_front w (suc j) =
    let now = (step w).state in
    ap (λ d. and_then d step) (steps_front w j)
    ∙ then_both (step w) (steps j now) (step (steps j now).state)

-- and so does what it executes
pub executed_front : (w : World) (j : ℕ)
    → executed (suc j) w ≡ one_if (executes w) + executed j (step w).state
unfolding executed steps
executed_front w zero = omega arith
executed_front w (suc j) =
    let same = ap (λ (d : Transition World). one_if (executes d.state)) (steps_front w j) in
    omega (arith, same, executed_front w j)

-- where the run goes on it does so with more left
more_left : (o : Option Stop) (x : Bool) (l m : ℕ) → stops_by o x l ≡ None → l ≤ m
    → stops_by o x m ≡ None
more_left (Some s) x l m e le = cc
more_left None false l m e le = refl
more_left None true zero m e le = cc
more_left None true (suc l) zero e le = absurd (omega (arith, le))
more_left None true (suc l) (suc m) e le = refl

-- it goes on to an instruction where one is left
pub one_left : (o : Option Stop) (x : Bool) (l : ℕ) → stops_by o x l ≡ None → one_if x ≤ l
one_left (Some s) x l e = cc
one_left None false l e = omega arith
one_left None true zero e = cc
one_left None true (suc l) e = omega arith

-- a run executes no more than is allowed
pub within : (w : World) (n k : ℕ) → GoesOnFor w n k → executed k w ≤ n
unfolding executed
within w n zero f = omega arith
within w n (suc k) f =
    let so_far = within w n k (λ j lt. f j (omega (arith, lt))) in
    let one = one_left _ _ _ (f k (omega arith)) in
    omega (arith, so_far, one)

-- whether it stops behind the first k steps, in which it executed n
pub at_shift : (w : World) (n m k i : ℕ) → executed k w ≡ n
    → stop_at (steps (k + i) w).state (n + m - executed (k + i) w) ≡ stop_at
    (steps i (steps k w).state).state (m - executed i (steps k w).state)
at_shift w n m k i e =
    let less : n + m - executed (k + i) w ≡ m - executed i (steps k w).state =
    omega (arith, executed_more w k i, e) in
    ap (λ (d : Transition World). stop_at d.state (n + m - executed (k + i) w)) (steps_more w k i)
    ∙ ap (stop_at (steps i (steps k w).state).state) less

-- more is allowed
pub goes_on_with : (w : World) (n m k : ℕ) → GoesOnFor w n k → GoesOnFor w (n + m) k
goes_on_with w n m k f = λ i lt. more_left _ _ (n - executed i w) (n + m - executed i w) (f i lt)
    (omega arith)

-- by whether it is one of the first k steps
both_by : (w : World) (n m k j : ℕ) → executed k w ≡ n → GoesOnFor w (n + m) k
    → GoesOnFor (steps k w).state m j
    → (i : ℕ) → i < k + j → (t : Bool) → nat_lt i k ≡ t → GoesOn w (n + m) i
both_by w n m k j e f g i lt true t = f i (grind (arith, nat_tests, t))
both_by w n m k j e f g i lt false t =
    let later : k ≤ i = grind (arith, nat_tests, t) in
    let sum : k + (i - k) ≡ i = omega (arith, later) in
    subst (GoesOn w (n + m)) sum (at_shift w n m k (i - k) e ∙ g (i - k) (omega (arith, lt, later)))

-- the run goes on for k steps, and for j more
pub goes_on_both : (w : World) (n m k j : ℕ) → executed k w ≡ n → GoesOnFor w (n + m) k
    → GoesOnFor (steps k w).state m j
    → GoesOnFor w (n + m) (k + j)
goes_on_both w n m k j e f g = λ i lt. both_by w n m k j e f g i lt (nat_lt i k) refl
