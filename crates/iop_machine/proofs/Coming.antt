-- The next moment at which something comes: it is later than now, and the least one.
use Rattle.std.proofs.Common.{◌≡◌, ℕ, ◌+◌, ◌^◌, ◌<◌, ◌≤◌, min, Bool, true, false, ◌&&◌, ◌||◌, not, if◌then◌else◌, Option, Some, None, List, [], refl, ap, sym, ◌∙◌, subst, arith, inl, inr}
use Rattle.std.proofs.lemmas.Bool.{cases_lt}
use Rattle.std.specs.Prelude.{IfSome, is_some, MatchOption, All}
use Rattle.std.proofs.lemmas.List.Elements.{All-nil}
use Rattle.iop_kernel.specs.Deliveries.{delivers, may_deliver, is_in_slot, next_look}
use Rattle.iop_kernel.specs.Laws.{IsCore}
use Rattle.iop_kernel.specs.System.{Core, in_handler, is_active}
use Rattle.iop_kernel.specs.declared.active_handler.ActiveHandler.{ActiveHandler}
use Rattle.iop_kernel_laws.proofs.Order.First.{deliveries_are_in_order}
use Rattle.iop_kernel_laws.proofs.Keeping.Settled.{settled_later}
use Rattle.iop_script.specs.declared.raise.Raise.{Raise}
use Rattle.iop_time.specs.Laws.{Stands, NoneHasCome, IsNextMoment}
use Rattle.iop_time.specs.Timers.{Timers}
use Rattle.iop_time.specs.Turns.{next_moment}
use Rattle.iop_time.specs.declared.ticks.TheConstants.{NEVER}
use Rattle.iop_time.proofs.Nexts.{next_moment_is_least}
use Rattle.iop_machine.specs.EventLaws.{IsNextComing, NothingComes, NextComingIsLeast}
use Rattle.iop_machine.specs.Events.{CanCome, earlier, next_tick}
use Rattle.iop_machine.specs.Iop.{Iop, core_of}
use Rattle.iop_machine.specs.Laws.{IsMachine}
use Rattle.iop_machine.specs.Looking.{IsAhead, takes_events, next_coming}
use Rattle.iop_machine.specs.Running.{Runs, RunsFor}
use Rattle.iop_machine.specs.Standing as standing
use Rattle.iop_machine.specs.World.{booted}
use Rattle.iop_machine.specs.declared.iop.Iop.{Iop as Program}
use Rattle.iop_machine.proofs.EventLemmas.{AreLater, HasTick, IsNextTick, of_next, next_tick_is, left_comes}
use Rattle.iop_machine.proofs.LookingLemmas.{taken_core, taken_later}

-- what holds of each of two moments holds of the earlier
earlier_is : (P : ℕ → Type 0) (one other : Option ℕ) → IfSome one P → IfSome other P
    → IfSome (earlier one other) P
earlier_is P None other a b = b
earlier_is P (Some x) None a b = a
earlier_is P (Some x) (Some y) a b = elim (cases_lt x y) [
  | inl before ↦ let is : x ≡ min x y = omega (arith, before) in subst P is a
  | inr behind ↦ let is : y ≡ min x y = omega (arith, behind) in subst P is b
]

-- what holds of all ticks holds of the next one, if there is one
tick_is : (P : ℕ → Type 0) (events : List Raise) (o : Option ℕ)
    → MatchOption o (events ≡ []) (IsNextTick events) → All (λ e. P e.at) events → IfSome o P
tick_is P events None h all = tt
tick_is P events (Some tick) h all = of_next P h all

-- what holds of moments that are later than now and before 2^63 holds of the least of what stands,
-- if none has come
moment_is : (P : ℕ → Type 0) (timers : Timers) (now : ℕ) (o : Option ℕ)
    → MatchOption o ((m n : ℕ) → Stands timers m n → NEVER ≤ m) (IsNextMoment timers)
    → NoneHasCome timers now → ((m : ℕ) → now < m → m < NEVER → P m) → IfSome o P
moment_is P timers now None h none all = tt
moment_is P timers now (Some moment) h none all =
    let comes = h.comes in
    let not_yet : moment ≤ now → ⊥ = λ come. none moment h.number (h.stands, come, comes) in
    all moment (omega (arith, not_yet)) comes

-- what holds of all of these holds of what comes next
pub coming_of : (P : ℕ → Type 0) (v : Iop) (now : ℕ) → All (λ e. P e.at) v.events
    → NoneHasCome v.kernel.timers now → ((m : ℕ) → now < m → m < NEVER → P m)
    → IfSome (next_coming v) P
coming_of P v now events none all =
    earlier_is P (next_tick v.events) (next_moment v.kernel.timers)
    (tick_is P v.events (next_tick v.events) (next_tick_is v.events) events)
    (moment_is P v.kernel.timers now (next_moment v.kernel.timers)
    (next_moment_is_least v.kernel.timers) none all)

module _ (c : Core) (none : delivers c ≡ None) where
  -- by what keeps it from being delivered
  look_by : (handler interrupts slot : Bool)
      → ((interrupts && not handler && not slot) ≡ true
      → IfSome (next_moment c.kernel.timers) (λ look. c.kernel.clock < look))
      → IfSome (if handler || not interrupts then None
      else if slot then Some (c.kernel.clock + 1) else next_moment c.kernel.timers)
      (λ look. c.kernel.clock < look)
  look_by true interrupts slot later = tt
  look_by false false slot later = tt
  look_by false true true later = omega arith
  look_by false true false later = later refl

  -- the next look is later than now
  look_later : IfSome (next_look c) (λ look. c.kernel.clock < look)
  look_later =
      look_by (in_handler c.kernel) c.kernel.interrupts (is_in_slot c)
      (λ may. moment_is (λ look. c.kernel.clock < look) c.kernel.timers c.kernel.clock
      (next_moment c.kernel.timers) (next_moment_is_least c.kernel.timers)
      (deliveries_are_in_order.no_moment c none may) (λ m late comes. late))

-- so many ticks are ahead of the same moments
pub ahead_as : {now now' most ticks : ℕ} {o o' : Option ℕ} → now ≡ now' → o ≡ o'
    → IsAhead now o most ticks → IsAhead now' o' most ticks
ahead_as {now} {now'} {most} {ticks} {o} {o'} e f h =
    subst (λ n. IsAhead n o' most ticks) e (subst (λ x. IsAhead now x most ticks) f h)

-- where so many ticks are ahead, a moment among them comes before that one
ahead_of : (now most ticks moment : ℕ) (o : Option ℕ) → IsAhead now o most ticks
    → IfSome o (λ m. now < m) → moment < now + ticks → IfSome o (λ m. moment < m)
ahead_of now most ticks moment None ahead later lt = tt
ahead_of now most ticks moment (Some m) ahead later lt =
    let ends = ahead.ends later in omega (arith, ends, lt)

-- and before all events
events_ahead : (events : List Raise) (now most ticks moment : ℕ) (o : Option ℕ)
    → MatchOption o (events ≡ []) (IsNextTick events) → IsAhead now o most ticks
    → AreLater now events → moment < now + ticks → AreLater moment events
events_ahead events now most ticks moment None h ahead later lt =
    subst (AreLater moment) (sym h) (λ k d below. absurd (omega (arith, below)))
events_ahead events now most ticks moment (Some tick) h ahead later lt =
    let ends = ahead.ends (of_next (λ m. now < m) h later) in
    λ k d below. let behind = h.all k d below in omega (arith, ends, lt, behind)

-- so nothing is to be done before any of these instructions
pub runs_ahead : (s : Iop) (budget most ticks : ℕ) → Runs s
    → IsAhead s.kernel.clock (next_tick s.events) budget most
    → IsAhead s.kernel.clock (next_look (core_of s)) most ticks → RunsFor s ticks
runs_ahead s budget most ticks runs events look = record {
  now = runs;
  ahead = λ cpu moment late lt.
      let within = look.within in
      record {
        over = runs.over;
        events = events_ahead s.events s.kernel.clock budget most moment (next_tick s.events)
            (next_tick_is s.events) events runs.events (omega (arith, lt, within));
        delivery = deliveries_are_in_order.look (core_of s) moment cpu runs.delivery
            (omega (arith, late)) (λ same. absurd (omega (arith, late, same)))
            (ahead_of s.kernel.clock most ticks moment (next_look (core_of s)) look
            (look_later (core_of s) runs.delivery) lt);
        dispatch = settled_later (core_of s) moment cpu runs.dispatch;
        active = runs.active;
      };
}

-- where nothing executes no handler runs, and no thread
pub idle_by : (handler : Option ActiveHandler) (running : Option ℕ)
    → (is_some handler || is_some running) ≡ false → (handler ≡ None) × (running ≡ None)
idle_by None None e = (refl, refl)
idle_by None (Some id) e = absurd (cc e)
idle_by (Some handler) running e = absurd (cc e)

-- so interrupts are on, and something may be delivered
pub idle_may : (c : Core) → IsCore c → is_active c.kernel ≡ false → may_deliver c ≡ true
idle_may c core idle =
    let none = idle_by c.kernel.handler c.kernel.threads.running idle in
    let on = (core.awake none.1).interrupts none.0 in
    rw (on, none.0, none.1) refl

-- a moment is later than now, and before 2^63 where the script's events can come
abbrev pub IsComing : Iop → ℕ → Type 0
IsComing s moment =
    ((takes_events s).kernel.clock < moment) × (CanCome s.events → moment < 2 ^ 63)

-- where nothing executes, what comes next is one
pub coming_later : (s : Iop) → IsCore (core_of s) → delivers (core_of (takes_events s)) ≡ None
    → is_active s.kernel ≡ false → IfSome (next_coming (takes_events s)) (IsComing s)
coming_later s core none idle =
    let v = takes_events s in
    let may : may_deliver (core_of v) ≡ true =
    ap may_deliver (taken_core s) ∙ idle_may (core_of s) core idle in
    coming_of (IsComing s) v v.kernel.clock
    (λ k d below. (
      taken_later s k d below,
      λ come. (left_comes s.kernel.clock s.events come).ticks k d below,
    ))
    (deliveries_are_in_order.no_moment (core_of v) none may) (λ m late comes. (late, λ come. comes))

-- what comes next, as the program looks for it
pub coming_is : {m : Program} {v : Iop} {tick moment found : Option ℕ} → standing.Stands m v
    → tick ≡ next_tick m.events → moment ≡ next_moment v.kernel.timers
    → found ≡ earlier tick moment → found ≡ next_coming v
coming_is {v = v} {tick} h e f g =
    g ∙ ap (earlier tick) f
    ∙ ap (λ x. earlier x (next_moment v.kernel.timers))
    (e ∙ ap (λ (x : Iop). next_tick x.events) (sym h.rest))

-- it is no earlier than now
pub coming_after : {s : Iop} {found : Option ℕ} (moment clock : ℕ) → IsMachine (booted s)
    → delivers (core_of (takes_events s)) ≡ None → is_active s.kernel ≡ false
    → found ≡ next_coming (takes_events s) → found ≡ Some moment
    → (takes_events s).kernel.clock ≡ clock → clock ≤ moment
coming_after {s} moment clock machine none idle is some same =
    let v = takes_events s in
    let later = subst (λ o. IfSome o (IsComing s)) (sym is ∙ some)
    (coming_later s machine.sound.core none idle) in
    let after = later.0 in omega (arith, after, same)

module _ (s : Iop) where
  -- of the events and of what stands in time, the earlier comes
  comes_by : (tick moment : Option ℕ) → MatchOption tick (s.events ≡ []) (IsNextTick s.events)
      → MatchOption moment ((m n : ℕ) → Stands s.kernel.timers m n → NEVER ≤ m)
      (IsNextMoment s.kernel.timers)
      → MatchOption (earlier tick moment) (NothingComes s) (IsNextComing s)
  comes_by None None ticks moments = record { events = ticks; moments = moments }
  comes_by None (Some moment) ticks moments = record {
    comes = inr (moments.number, moments.stands);
    events = subst (All (λ e. moment ≤ e.at)) (sym ticks) (All-nil (λ (e : Raise). moment ≤ e.at));
    moments = λ m n stands before. moments.least m n stands;
  }
  comes_by (Some tick) None ticks moments = record {
    comes = inl ticks.has;
    events = ticks.all;
    moments = λ m n stands before.
        let never = moments m n stands in absurd (omega (arith, never, before));
  }
  comes_by (Some tick) (Some moment) ticks moments = record {
    comes = elim (cases_lt tick moment) [
      | inl before ↦
          let is : tick ≡ min tick moment = omega (arith, before) in
          inl (subst (HasTick s.events) is ticks.has)
      | inr behind ↦
          let is : moment ≡ min tick moment = omega (arith, behind) in
          let there = subst (λ m. Stands s.kernel.timers m moments.number) is moments.stands in
          inr (moments.number, there)
    ];
    events = λ k d below. let first = ticks.all k d below in omega (arith, first);
    moments = λ m n stands before. let least = moments.least m n stands in omega (arith, least);
  }

-- the next moment that comes is the least one
pub next_coming_is_least : NextComingIsLeast
next_coming_is_least = λ s.
    comes_by s (next_tick s.events) (next_moment s.kernel.timers) (next_tick_is s.events)
    (next_moment_is_least s.kernel.timers)
