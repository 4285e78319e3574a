-- What is done before anything executes: a delivery, or a dispatch and perhaps a delivery behind
-- it.
use Rattle.std.proofs.Common.{◌≡◌, ℕ, ◌+◌, ◌*◌, ◌≤◌, ◌-◌, ◌^◌, Bool, true, false, Some, None, [], refl, ap, sym, ◌∙◌, arith, subst, append-nil}
use Rattle.std.specs.Prelude.{is_some}
use Rattle.std.specs.Bool.{OnTrue}
use Rattle.iop_base.specs.Output.{Output, Gives}
use Rattle.iop_base.proofs.Giving.{gives_then, nothing_fails}
use Rattle.iop_kernel.specs.Deliveries.{Delivered, delivers}
use Rattle.iop_kernel.specs.Dispatching.{Dispatched, dispatches}
use Rattle.iop_kernel.specs.System.{Kernel}
use Rattle.iop_kernel_laws.proofs.Keeping.Settled.{dispatch_settles}
use Rattle.iop_machine.specs.Advancing.{Reached, Advances, Delivers, Dispatches, IsSettled, Settles, IsLess, calls_by}
use Rattle.iop_machine.specs.Iop.{Iop, Transition, core_of, with_core}
use Rattle.iop_machine.specs.Looking.{takes_events}
use Rattle.iop_machine.specs.Standing.{Stands, StandsBooted}
use Rattle.iop_machine.specs.Stepping.{step, steps, most_between}
use Rattle.iop_machine.specs.World.{World, booted}
use Rattle.iop_machine.specs.declared.iop.Iop.{Iop as Program}
use Rattle.iop_machine.specs.declared.progress.Progress.TheVariants.{Advanced}
use Rattle.iop_machine.proofs.Advancing.{then_advances}
use Rattle.iop_machine.proofs.CallsLeft.{calls_left, calls_are, few_turns, is_less, delivery_leaves_fewer}
use Rattle.iop_machine.proofs.Elements.{there}
use Rattle.iop_machine.proofs.EventLemmas.{AreLater}
use Rattle.iop_machine.proofs.LookingLemmas.{taken_kernel, taken_later, takes_none}
use Rattle.iop_machine.proofs.LinesAside.{dispatch_kernel}
use Rattle.iop_machine.proofs.Reaching.{reached_none, reached_more}
use Rattle.iop_machine.proofs.Stepping.{next_delivers, next_dispatches}

-- where nothing was given no write failed
pub still_well : {a b : Output} → Gives a b [] → a.failed ≡ false → b.failed ≡ false
still_well {a} {b} gives well = by b.failed refl
  where
    by : (failed : Bool) → b.failed ≡ failed → failed ≡ false
    by true is = absurd (nothing_fails gives well is)
    by false is = refl

-- the state after one step
after_one : (w : World) (t : Transition World) → step w ≡ t → (steps 1 w).state ≡ t.state
unfolding steps
after_one w t e = ap (λ (d : Transition World). d.state) e

module _ (s : Iop) (over : s.over ≡ None) where
  -- a delivery leaves fewer calls
  delivered_calls : (d : Delivered) → delivers (core_of (takes_events s)) ≡ Some d
      → calls_left (steps 1 (booted s)).state.iop.kernel + 1 ≤ calls_left s.kernel
  delivered_calls d is =
      let v = takes_events s in
      let left = delivery_leaves_fewer (core_of v) d is in
      let after = ap (λ (x : World). calls_left x.iop.kernel)
      (after_one (booted s) _ (next_delivers s 0 over d is).step_is) in
      let before = ap calls_left (taken_kernel s) in
      let clock = ap (λ n. most_between * (2 ^ 63 - n)) left.clock in
      omega (arith, after, before, clock, left.fewer)

  module _ (none : delivers (core_of (takes_events s)) ≡ None) (d : Dispatched)
      (is : dispatches (core_of (takes_events s)) ≡ Some d) where
    -- what a dispatch leaves
    abbrev left : Iop
    left = with_core (takes_events s) d.core

    -- the state after it
    leaves : (steps 1 (booted s)).state ≡ booted left
    leaves = after_one (booted s) _ (next_dispatches s 0 over d none is).step_is

    -- no event is due
    left_later : AreLater left.kernel.clock left.events
    left_later = subst (λ n. AreLater n left.events)
        (sym (ap (λ (k : Kernel). k.clock) (dispatch_kernel (core_of (takes_events s)) d is)))
        (taken_later s)

    -- none is to be made behind it
    left_none : dispatches (core_of (takes_events left)) ≡ None
    left_none = ap (λ (x : Iop). dispatches (core_of x)) (takes_none left left_later)
        ∙ dispatch_settles (core_of (takes_events s)) d is

    -- nothing of the kernel changes but its threads and its lines
    left_kernel : left.kernel
        ≡ record s.kernel { threads = left.kernel.threads; irqs = left.kernel.irqs }
    left_kernel =
        let changed = dispatch_kernel (core_of (takes_events s)) d is in
        let irqs = ap (λ (k : Kernel). k.irqs) changed in
        changed
        ∙ ap (λ (k : Kernel). record k { threads = d.core.kernel.threads }) (taken_kernel s)
        ∙ ap (λ x. record s.kernel { threads = d.core.kernel.threads; irqs = x })
        (sym (irqs ∙ ap (λ (k : Kernel). k.irqs) (taken_kernel s)))

-- a dispatch was made behind which nothing is to be dispatched
pub record HasDispatched (s : Iop) : Type 0 where
  pub over : (steps 1 (booted s)).state.iop.over ≡ None
  pub dispatch : dispatches (core_of (takes_events (steps 1 (booted s)).state.iop)) ≡ None
  pub kernel : (steps 1 (booted s)).state.iop.kernel
      ≡ record s.kernel {
        threads = (steps 1 (booted s)).state.iop.kernel.threads;
        irqs = (steps 1 (booted s)).state.iop.kernel.irqs;
      }

-- so it is behind each that is made
has_dispatched : (s : Iop) → s.over ≡ None → delivers (core_of (takes_events s)) ≡ None
    → is_some (dispatches (core_of (takes_events s))) ≡ true → HasDispatched s
has_dispatched s over none some =
    let d = there (dispatches (core_of (takes_events s))) some in
    let is = sym (leaves s over none d.0 d.1) in
    record {
      over = subst (λ (v : World). v.iop.over ≡ None) is over;
      dispatch = subst (λ (v : World). dispatches (core_of (takes_events v.iop)) ≡ None) is
          (left_none s over none d.0 d.1);
      kernel = subst (λ (v : World). v.iop.kernel
          ≡ record s.kernel { threads = v.iop.kernel.threads; irqs = v.iop.kernel.irqs }) is
          (left_kernel s over none d.0 d.1);
    }

-- it leaves as many calls
pub same_calls : (v s : Kernel) → v ≡ record s { threads = v.threads; irqs = v.irqs }
    → calls_left v ≡ calls_left s
same_calls v s is = ap calls_left is

-- a delivery leaves fewer calls
pub delivers_less : {m new : Program} {s : Iop} {a b : Output} (budget : ℕ) → Stands m s
    → s.over ≡ None → Delivers StandsBooted true (booted s) budget new a b → (failed : Bool)
    → IsLess (Advanced budget) failed new.over false new.kernel
    (most_between * budget + calls_by None false m.kernel)
delivers_less {s = s} budget h over did =
    let d = there (delivers (core_of (takes_events s))) did.1 in
    let fewer = delivered_calls s over d.0 d.1 in
    let turns = few_turns (steps 1 (booted s)).state.iop.over in
    is_less h did.0.state.1 budget budget None false (omega (arith, fewer, turns))

module _ {s : Iop} (over : s.over ≡ None) (budget : ℕ) {middle : Program} {a b : Output}
    (well : a.failed ≡ false)
    (none : Delivers StandsBooted false (booted s) budget middle a b) where
  -- nothing is delivered or dispatched
  pub settles_at_once : {new : Program} {c : Output}
      → Dispatches StandsBooted false (booted s) budget new b c
      → (k : ℕ) × IsSettled StandsBooted (booted s) budget k new a c
  unfolding steps
  settles_at_once {new} {c} dispatch =
      let gives = gives_then none.1 dispatch.1 in (
        0,
        record {
          reached = reached_none (booted s) budget new a c (refl, dispatch.0.1) gives
              (still_well gives well);
          over = over;
          delivery = none.2;
          dispatch = dispatch.2;
          kernel = refl;
        },
      )

  module _ {switched : Program} {c : Output}
      (did : Dispatches StandsBooted true (booted s) budget switched b c) where
    -- a thread is dispatched, behind what gave nothing
    dispatch_advances : Advances StandsBooted (booted s) budget 0 budget switched a c
    dispatch_advances = record {
      before = did.0.before;
      state = did.0.state;
      left_is = did.0.left_is;
      seen = did.0.seen;
      first = gives_then none.1 did.0.first;
      well = did.0.well;
      last = did.0.last;
    }

    -- the state that it leaves
    abbrev behind : Iop
    behind = (steps 1 (booted s)).state.iop

    -- the program stands for it
    stands_behind : Stands switched behind
    stands_behind = did.0.state.1

    -- nothing is to be dispatched in it
    left_so : HasDispatched s
    left_so = has_dispatched s over none.2 did.1

    -- the run has gone on, where a write failed in it
    pub settles_failed : (went : Bool) → went ≡ true
        → Settles StandsBooted went (booted s) budget switched a c
    settles_failed true is = (0, dispatch_advances)
    settles_failed false is = absurd (cc is)

    module _ (fine : c.failed ≡ false) where
      -- the run has gone on to there
      reached : Reached StandsBooted (booted s) budget 1 budget switched a c
      reached = reached_more dispatch_advances fine

      -- by whether something is delivered then
      pub settles_behind : (new : Program) (e : Output) (went : Bool)
          → ((v : Iop) → Stands switched v → v.over ≡ None
          → Delivers StandsBooted went (booted v) budget new c e)
          → Settles StandsBooted went (booted s) budget new a e
      settles_behind new e true delivers = (
        1,
        then_advances reached
            (subst (λ (v : World). Advances StandsBooted v budget 0 budget new c e)
            (sym did.0.state.0) (delivers behind stands_behind left_so.over).0),
      )
      settles_behind new e false delivers =
          let h = delivers behind stands_behind left_so.over in
          let gives = gives_then reached.gives h.1 in (
            1,
            record {
              reached = record {
                before = reached.before;
                state = (did.0.state.0, h.0.1);
                gives = subst (Gives a e) (append-nil (steps 1 (booted s)).pieces) gives;
                well = still_well h.1 fine;
                left_is = reached.left_is;
              };
              over = left_so.over;
              delivery = h.2;
              dispatch = left_so.dispatch;
              kernel = left_so.kernel;
            },
          )

      -- a delivery leaves fewer calls then
      pub less_behind : {m : Program} (new : Program) (e : Output) → Stands m s → (went : Bool)
          → ((v : Iop) → Stands switched v → v.over ≡ None
          → Delivers StandsBooted went (booted v) budget new c e) → (failed : Bool)
          → OnTrue went (IsLess (Advanced budget) failed new.over false new.kernel
          (most_between * budget + calls_by None false m.kernel))
      less_behind new e stands false delivers failed = tt
      less_behind {m} new e stands true delivers failed =
          let before = calls_are stands None false in
          let after = calls_are stands_behind None false in
          let same = same_calls behind.kernel s.kernel left_so.kernel in
          subst (λ n. IsLess (Advanced budget) failed new.over false new.kernel
          (most_between * budget + n)) (omega (arith, before, after, same))
          (delivers_less budget stands_behind left_so.over
          (delivers behind stands_behind left_so.over) failed)
