-- How many deliveries can be made before the clock goes on, and how many calls that execute no
-- instruction are left.
use Rattle.std.proofs.Common.{◌≡◌, ℕ, ◌+◌, ◌-◌, ◌*◌, ◌^◌, ◌<◌, ◌≤◌, ◌==◌, Bool, true, false, cond, ◌&&◌, not, Option, Some, None, List, [], ◌∷◌, length, refl, ap, sym, ◌∙◌, subst, arith}
use Rattle.std.specs.Prelude.{option_map, is_some, filter, find}
use Rattle.std.specs.Option.{option_or}
use Rattle.std.proofs.lemmas.Bool.Decides.{nat_tests}
use Rattle.std.proofs.lemmas.List.Filters.{length-filter_both}
use Rattle.std.proofs.lemmas.Option.{option_and_then_some}
use Rattle.iop_base.specs.Numbers.{one_if}
use Rattle.iop_base.specs.declared.stop.Stop.{Stop}
use Rattle.iop_kernel.specs.System.{Kernel, Core}
use Rattle.iop_kernel.specs.declared.active_handler.ActiveHandler.{ActiveHandler}
use Rattle.iop_kernel.specs.Deliveries.{Delivered, is_in_slot, delivers}
use Rattle.iop_kernel.proofs.Walk.Steps.{delivers_goes}
use Rattle.iop_time.specs.Timers.{Timers, is_delay_of, drops_delay}
use Rattle.iop_time.specs.declared.clock.TheConstants.{MOST_DELAYS}
use Rattle.iop_time.specs.Taking.{timer_of, takes_due}
use Rattle.iop_time.specs.Turns.{due}
use Rattle.iop_time.specs.declared.alarm.Alarm.{Alarm}
use Rattle.iop_time.specs.declared.delay.Delay.{Delay}
use Rattle.iop_time.specs.declared.due.Due.TheVariants as due
use Rattle.iop_machine.specs.Advancing.{turns_by, calls_by, IsLess}
use Rattle.iop_machine.specs.Iop.{Iop}
use Rattle.iop_machine.specs.Standing.{Stands}
use Rattle.iop_machine.specs.Stepping.{most_between}
use Rattle.iop_machine.specs.declared.iop.Iop.{Iop as Program}
use Rattle.iop_machine.specs.declared.progress.Progress.TheVariants.{Advanced}

-- what is found passes; without what passes the list is shorter
module _ {X : Type 0} (q r : X → Bool) (x : X) (passes : r x ≡ true) where
  -- no more are kept than there are
  kept_few : (xs : List X) → length (filter (λ y. not (r y)) xs) ≤ length xs
  kept_few xs =
      let all = length-filter_both r (λ y. not (r y)) (λ y. refl) xs in omega (arith, all)

  -- by whether the first passes
  shorter_by : (y : X) (kept ys : List X) (b : Bool) → r y ≡ b → length kept < length ys
      → length (cond (not (r y)) (y ∷ kept) kept) < length (y ∷ ys)
  shorter_by y kept ys true is lt =
      subst (λ b. length (cond (not b) (y ∷ kept) kept) < length (y ∷ ys)) (sym is)
      (omega (arith, lt))
  shorter_by y kept ys false is lt =
      subst (λ b. length (cond (not b) (y ∷ kept) kept) < length (y ∷ ys)) (sym is)
      (omega (arith, lt))

  -- by whether it is the one that is found
  found_by : (y : X) (ys : List X) (b : Bool) → cond b (Some y) (find q ys) ≡ Some x
      → (find q ys ≡ Some x → length (filter (λ z. not (r z)) ys) < length ys)
      → length (filter (λ z. not (r z)) (y ∷ ys)) < length (y ∷ ys)
  found_by y ys true is shorter =
      let same : y ≡ x = cc is in
      let few = kept_few ys in
      subst (λ b. length (cond (not b) (y ∷ filter (λ z. not (r z)) ys)
      (filter (λ z. not (r z)) ys)) < length (y ∷ ys)) (sym (ap r same ∙ passes))
      (omega (arith, few))
  found_by y ys false is shorter =
      shorter_by y (filter (λ z. not (r z)) ys) ys (r y) refl (shorter is)

  -- where one is found, fewer are kept
  found_shorter : (xs : List X) → find q xs ≡ Some x
      → length (filter (λ z. not (r z)) xs) < length xs
  found_shorter [] is = absurd (cc is)
  found_shorter (y ∷ ys) is = found_by y ys (q y) is (found_shorter ys)

-- a delay that is taken is one of those that stand
module _ (timers : Timers) (delay : Delay) where
  delay_found : (number : ℕ) (o : Option Alarm) (p : Option Delay)
      → option_or (option_map due.Alarm o) (option_map due.Delay p) ≡ Some (due.Delay delay)
      → p ≡ Some delay
  delay_found number (Some alarm) p is = absurd (cc is)
  delay_found number None None is = absurd (cc is)
  delay_found number None (Some other) is = cc is

  -- so fewer stand once it is dropped
  delay_dropped : (t : ℕ) → (takes_due timers t).0 ≡ Some (due.Delay delay)
      → length (drops_delay timers delay.thread).delays < length timers.delays
  delay_dropped t is =
      option_and_then_some (timer_of timers) (due timers t) (due.Delay delay) is
      (λ number number_is taken.
      let own : is_delay_of delay.thread delay ≡ true = grind (arith, nat_tests) in
      found_shorter (λ x. x.number == number) (is_delay_of delay.thread) delay own timers.delays
      (delay_found number (find (λ alarm. alarm.number == number) timers.alarms)
      (find (λ x. x.number == number) timers.delays) taken))

-- one for each delay, and one more unless a handler is active
abbrev pub left_by : Timers → Option ActiveHandler → ℕ
left_by timers handler = length timers.delays + one_if (not (is_some handler))

-- one at most is counted for a handler
pub one_at_most : (b : Bool) → one_if b ≤ 1
one_at_most true = omega arith
one_at_most false = omega arith

-- those of a kernel
abbrev pub left_of : Kernel → ℕ
left_of k = left_by k.timers k.handler

-- a delivery takes no time, and leaves fewer
pub record LeavesFewer (c d : Core) : Type 0 where
  pub clock : d.kernel.clock ≡ c.kernel.clock
  pub fewer : left_of d.kernel < left_of c.kernel

-- where something may be delivered a handler is to begin
one_more : (interrupts : Bool) (o : Option ActiveHandler) (slot : Bool)
    → (interrupts && not (is_some o) && not slot) ≡ true → one_if (not (is_some o)) ≡ 1
one_more true None slot is = refl
one_more true (Some handler) slot is = absurd (cc is)
one_more false o slot is = absurd (cc is)

-- each delivery leaves fewer
pub delivery_leaves_fewer : (c : Core) (d : Delivered) → delivers c ≡ Some d → LeavesFewer c d.core
delivery_leaves_fewer c = delivers_goes (λ left line. LeavesFewer c left) c (λ may.
    let one = one_more c.kernel.interrupts c.kernel.handler (is_in_slot c) may in
    record {
      begins_line = λ line handler found has. record { clock = refl; fewer = omega (arith, one) };
      due = λ none. record {
        begins_alarm = λ alarm taken. record { clock = refl; fewer = omega (arith, one) };
        wakes = λ delay taken.
            let dropped = delay_dropped c.kernel.timers delay c.kernel.clock taken in
            record { clock = refl; fewer = omega (arith, dropped) };
      };
    })

-- the deliveries that can be made, at each moment to which the clock can go on by itself
abbrev pub calls_left : Kernel → ℕ
calls_left k = left_of k + most_between * (2 ^ 63 - k.clock)

-- those of the program are those of the state for which it stands
pub calls_are : {m : Program} {s : Iop} → Stands m s → (over : Option Stop) (is_new : Bool)
    → calls_by over is_new m.kernel ≡ turns_by over is_new + calls_left s.kernel
calls_are {m} {s} h over is_new =
    let timers = ap (λ (t : Timers). length t.delays) h.kernel.holds.timers in
    let handler = ap (λ (o : Option ActiveHandler). one_if (not (is_some o)))
    h.kernel.holds.handler in
    let clock = ap (λ n. most_between * (2 ^ 63 - n)) h.kernel.holds.clock in
    omega (arith, timers, handler, clock)

-- a booted machine is stopped, or finds at most once that nothing is left to do
pub few_turns : (over : Option Stop) → turns_by over false ≤ 1
few_turns None = omega arith
few_turns (Some stop) = omega arith

-- a call that advanced left fewer instructions or fewer such calls
module _ {m new : Program} {s v : Iop} (h : Stands m s) (g : Stands new v) (left budget : ℕ)
    (over : Option Stop) (is_new : Bool) where
  pub is_less : most_between * left + (turns_by v.over false + calls_left v.kernel)
      < most_between * budget + (turns_by over is_new + calls_left s.kernel)
      → (failed : Bool) → IsLess (Advanced left) failed new.over false new.kernel
      (most_between * budget + calls_by over is_new m.kernel)
  is_less lt true = tt
  is_less lt false =
      let before = calls_are h over is_new in
      let after = calls_are g new.over false in
      let same = ap (λ (x : Iop). turns_by x.over false) g.rest in
      omega (arith, lt, before, after, same)

-- at most 255 delays stand
pub few_left : {m : Program} {s : Iop} → Stands m s → left_of s.kernel ≤ MOST_DELAYS + 1
few_left {m} {s} h =
    let few = h.kernel.placed.delays.kept.few_delays in
    omega (arith, few, one_at_most (not (is_some s.kernel.handler)))
