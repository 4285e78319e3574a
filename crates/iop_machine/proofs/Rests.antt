-- How many steps execute no instruction at most, if no more instruction is executed.
use Rattle.std.proofs.Common.{◌≡◌, ℕ, ◌+◌, ◌*◌, ◌<◌, ◌≤◌, Bool, true, false, not, Option, Some, None, length, refl, ap, sym, ◌∙◌, arith, subst}
use Rattle.std.specs.Prelude.{is_some}
use Rattle.iop_base.specs.declared.stop.Stop.{Stop}
use Rattle.iop_kernel.specs.Deliveries.{delivers}
use Rattle.iop_kernel.specs.Dispatching.{dispatches}
use Rattle.iop_kernel.specs.System.{in_handler, is_active}
use Rattle.iop_time.specs.declared.clock.TheConstants.{MOST_DELAYS}
use Rattle.iop_machine.specs.Iop.{Iop, core_of}
use Rattle.iop_machine.specs.Laws.{IsMachine}
use Rattle.iop_machine.specs.Looking.{takes_events}
use Rattle.iop_machine.specs.Stepping.{most_between}
use Rattle.iop_machine.specs.World.{World, booted}
use Rattle.iop_machine.proofs.CallsLeft.{left_of, one_at_most}
use Rattle.iop_machine.proofs.EventLemmas.{AreLater, left_few}
use Rattle.iop_machine.proofs.LookingLemmas.{takes_none, taken_kernel}

-- how many steps are left that deliver nothing: where nothing executes, one in which the clock goes
-- on and one in which a thread is dispatched
abbrev pub turns_by : (active delivering dispatching : Bool) → ℕ
turns_by true delivering false = 0
turns_by true delivering true = 1
turns_by false true dispatching = 1
turns_by false false dispatching = 2

-- they are two at most
turns_few : (active delivering dispatching : Bool) → turns_by active delivering dispatching ≤ 2
turns_few true delivering false = omega arith
turns_few true delivering true = omega arith
turns_few false true dispatching = omega arith
turns_few false false dispatching = omega arith

-- a delivery leaves one more at most, if it leaves what executes
pub turns_delivered : (active dispatching now : Bool) (delivering later : Bool)
    → (now ≡ false → active ≡ false)
    → turns_by now delivering later ≤ turns_by active true dispatching + 1
turns_delivered active dispatching true delivering false idle = omega arith
turns_delivered active dispatching true delivering true idle = omega arith
turns_delivered true dispatching false delivering later idle = absurd (cc (idle refl))
turns_delivered false dispatching false true later idle = omega arith
turns_delivered false dispatching false false later idle = omega arith

-- a dispatch leaves none of them
pub turns_dispatched : (active delivering now dispatching : Bool) → now ≡ true → dispatching ≡ false
    → (later : Bool) → turns_by now later dispatching + 1 ≤ turns_by active delivering true
turns_dispatched active delivering false dispatching on none later = absurd (cc on)
turns_dispatched active delivering true true on none later = absurd (cc none)
turns_dispatched true delivering true false on none later = omega arith
turns_dispatched false true true false on none later = omega arith
turns_dispatched false false true false on none later = omega arith

-- the same of a state whose events that are due were taken
abbrev pub turns : Iop → ℕ
turns v =
    turns_by (is_active v.kernel) (is_some (delivers (core_of v)))
    (is_some (dispatches (core_of v)))

-- how many steps execute no instruction at most from such a state on
pub behind : Iop → ℕ
behind v = length v.events + 2 * left_of v.kernel + turns v + 1

-- by its parts
pub behind_is : (v : Iop) → behind v ≡ length v.events + 2 * left_of v.kernel + turns v + 1
unfolding behind
behind_is v = refl

-- by what is to be done
pub turns_are : (v : Iop) (active delivering dispatching : Bool) → is_active v.kernel ≡ active
    → is_some (delivers (core_of v)) ≡ delivering → is_some (dispatches (core_of v)) ≡ dispatching
    → turns v ≡ turns_by active delivering dispatching
turns_are v active delivering dispatching e f g = rw (e, f, g) refl

-- how many steps at most execute no instruction from here on, if no more instruction is executed
abbrev rest_by : Option Stop → (is_new : Bool) → Iop → ℕ
rest_by (Some stop) is_new s = 0
rest_by None true s = length s.events + most_between
rest_by None false s = behind (takes_events s)

pub rest : World → ℕ
rest w = rest_by w.iop.over w.is_new w.iop

-- where it is not stopped
pub rest_is : (w : World) (is_new : Bool) → w.iop.over ≡ None → w.is_new ≡ is_new
    → rest w ≡ rest_by None is_new w.iop
unfolding rest
rest_is w is_new over new = rw (over, new) refl

-- where it is, none
pub rest_over : (w : World) (stop : Stop) → w.iop.over ≡ Some stop → rest w ≡ 0
unfolding rest
rest_over w stop over = ap (λ o. rest_by o w.is_new w.iop) over

-- once it was booted
pub rest_booted : (s : Iop) → rest (booted s) ≤ behind (takes_events s)
unfolding rest
rest_booted s = by s.over
  where
    by : (o : Option Stop) → rest_by o false s ≤ behind (takes_events s)
    by None = omega arith
    by (Some stop) = omega arith

-- where no event is due
pub rest_later : (s : Iop) → AreLater s.kernel.clock s.events → rest (booted s) ≤ behind s
rest_later s later =
    subst (λ v. rest (booted s) ≤ behind v) (takes_none s later) (rest_booted s)

-- as many deliveries are left once the events that are due were taken
pub taken_deliveries : (s : Iop) → left_of (takes_events s).kernel ≡ left_of s.kernel
taken_deliveries s = ap left_of (taken_kernel s)

-- the delays of a machine are few
abbrev pub HasFewDelays : Iop → Type 0
HasFewDelays s = length s.kernel.timers.delays ≤ MOST_DELAYS

pub few_delays : (w : World) → IsMachine w → HasFewDelays w.iop
few_delays w machine = machine.sound.core.placed.delays.kept.few_delays

-- so the steps are few
pub rest_bounded : (s : Iop) → HasFewDelays s → rest (booted s) < length s.events + most_between
rest_bounded s few =
    let v = takes_events s in
    let left = left_few s.kernel.clock s.events in
    let same = taken_deliveries s in
    let is = behind_is v in
    let least = rest_booted s in
    let one = one_at_most (not (in_handler s.kernel)) in
    let turning = turns_few (is_active v.kernel) (is_some (delivers (core_of v)))
    (is_some (dispatches (core_of v))) in
    omega (arith, few, left, same, is, least, one, turning)

-- by whether it is stopped, and is to be booted
few_by : (w : World) → IsMachine w → (o : Option Stop) (is_new : Bool) → w.iop.over ≡ o
    → w.is_new ≡ is_new → rest w ≤ length w.iop.events + most_between
few_by w machine (Some stop) is_new over new =
    let none = rest_over w stop over in omega (arith, none)
few_by w machine None true over new =
    let same = rest_is w true over new in omega (arith, same)
few_by w machine None false over new =
    let same = rest_is w false over new ∙ sym (rest_is (booted w.iop) false over refl) in
    let few = rest_bounded w.iop (few_delays w machine) in
    omega (arith, same, few)

-- from the first on they are so many at most
pub rest_few : (w : World) → IsMachine w → rest w ≤ length w.iop.events + most_between
rest_few w machine = few_by w machine w.iop.over w.is_new refl refl
