-- Whether something is delivered. Where nothing is, no line can be, and no alarm and no delay has
-- come, nor does one before the next look.
use Rattle.std.proofs.Common.{◌≡◌, ℕ, ◌+◌, ◌<◌, ◌≤◌, ◌==◌, ◌||◌, not, nat_le, Bool, true, false, if◌then◌else◌, Option, Some, None, is_some, ◌&&◌, option_map, IfSome, MatchOption, List, [], ◌∷◌, length, refl, sym, ap, subst, ◌∙◌, arith}
use Rattle.std.specs.List.{Any, find, list_any}
use Rattle.std.specs.Option.{option_or, option_and_then}
use Rattle.std.proofs.Math.Bool.{and-false}
use Rattle.std.proofs.Math.ListN.{get_or-eq_default}
use Rattle.std.proofs.lemmas.Bool.{cases_lt, eq-eqb, or_left, or_parts, or_right}
use Rattle.std.proofs.lemmas.Bool.Decides.{nat_tests}
use Rattle.std.proofs.lemmas.List.Folds.{list_any-from_Any}
use mathlib.Core.Logic.{inl, inr}
use Rattle.iop_exec.specs.declared.cpu.Cpu.{Cpu}
use Rattle.iop_intr.specs.InterruptLines.{idle, line_of, deliverable}
use Rattle.iop_intr.specs.Laws.{CanBeDelivered, IsLowest}
use Rattle.iop_intr.specs.declared.handler.Handler.{Handler}
use Rattle.iop_intr.specs.declared.irq_line.IrqLine.{IrqLine}
use Rattle.iop_intr.proofs.Keeping.{deliverable-lowest}
use Rattle.iop_time.specs.Laws.{Stands, NoneHasCome, IsNext}
use Rattle.iop_time.specs.Taking.{timer_of, takes_due}
use Rattle.iop_time.specs.Timers.{Timers}
use Rattle.iop_time.specs.Turns.{number_if_due, first_turn, due, next_moment}
use Rattle.iop_time.specs.declared.alarm.Alarm.{Alarm}
use Rattle.iop_time.specs.declared.delay.Delay.{Delay}
use Rattle.iop_time.specs.declared.due.Due.{Due}
use Rattle.iop_time.specs.declared.due.Due.TheVariants as due_variants
use Rattle.iop_time.specs.declared.turn.Turn.{Turn}
use Rattle.iop_time.proofs.Nexts.{due_is_next}
use Rattle.iop_kernel.specs.Deliveries.{is_in_slot, may_deliver, delivers_line, delivers_due, delivers_by, delivers, next_look}
use Rattle.iop_kernel.specs.DeliveryLaws.{NoLineComes, at_moment}
use Rattle.iop_kernel.specs.Overdue.{NoMomentHasCome}
use Rattle.iop_kernel.specs.System.{Kernel, Core, in_handler}

-- of the lines that there are, none can be delivered
abbrev pub NoneCanBe : List IrqLine → Type 0
NoneCanBe irqs = (n : ℕ) → n < length irqs → CanBeDelivered (line_of irqs n) → ⊥

-- what is found where the lowest line is looked for
abbrev pub FindsLowest : List IrqLine → Option ℕ → Type 0
FindsLowest irqs o = MatchOption o (NoneCanBe irqs) (IsLowest irqs)

-- by what is found
pub lowest_is : (irqs : List IrqLine) (o : Option ℕ) → deliverable irqs ≡ o → FindsLowest irqs o
lowest_is irqs o found = subst (FindsLowest irqs) found (deliverable-lowest irqs)

-- where none is found, none can be delivered, nor is there a line past the last
pub no_line_comes : (k : Kernel) → NoneCanBe k.irqs → NoLineComes k
no_line_comes k none n can =
    elim (cases_lt n (length k.irqs)) [
      | inl below ↦ none n below can
      | inr past ↦
          let raised = ap (λ (l : IrqLine). l.raised) (get_or-eq_default k.irqs idle past) in
          absurd (cc (raised, can.raised))
    ]

module _ {X : Type 0} (p : X → Bool) where
  -- one is found where one passes
  is_some-find : (xs : List X) → is_some (find p xs) ≡ list_any p xs
  is_some-find [] = refl
  is_some-find (x ∷ xs) = grind (arith, nat_tests, is_some-find xs)

-- what stands with a number is found by it
numbered : {X : Type 0} (xs : List X) (moment_in number_in : X → ℕ) (moment number : ℕ)
    → Any (λ x. (moment_in x ≡ moment) × (number_in x ≡ number)) xs
    → is_some (find (λ x. number_in x == number) xs) ≡ true
numbered {X} xs moment_in number_in moment number (k, x, below, at, has) =
    let is_it : X → Bool = λ x. number_in x == number in
    is_some-find is_it xs
    ∙ list_any-from_Any is_it xs (k, x, below, at, eq-eqb (number_in x) number has.1)

-- an alarm or a delay is there where one of the two is
is_some_or : (alarm : Option Alarm) (delay : Option Delay)
    → is_some (option_or (option_map due_variants.Alarm alarm)
    (option_map due_variants.Delay delay)) ≡ (is_some alarm || is_some delay)
is_some_or None None = refl
is_some_or None (Some delay) = refl
is_some_or (Some alarm) delay = refl

-- one that stands is found by its number
timer_found : (timers : Timers) (moment number : ℕ) → Stands timers moment number
    → is_some (timer_of timers number) ≡ true
timer_found timers moment number (inl alarm) =
    is_some_or _ _
    ∙ or_left _ _ (numbered timers.alarms (λ a. a.moment) (λ a. a.number) moment number alarm)
timer_found timers moment number (inr delay) =
    is_some_or _ _
    ∙ or_right _ _ (numbered timers.delays (λ d. d.moment) (λ d. d.number) moment number delay)

-- what is due is taken
taken_by : (timers : Timers) (t : ℕ) (o : Option ℕ)
    → MatchOption o (NoneHasCome timers t) (λ number. (moment : ℕ) × IsNext timers t moment number)
    → is_some (option_and_then (timer_of timers) o) ≡ is_some o
taken_by timers t None none = refl
taken_by timers t (Some number) (moment, next) = timer_found timers moment number next.come.0

-- whether something is due at this moment
abbrev pub comes : Core → Bool
comes c = is_some (due c.kernel.timers c.kernel.clock)

module _ (c : Core) where
  -- the handler of a line begins, if it has one
  line_comes : (line : ℕ) (o : Option Handler) → is_some o ≡ true
      → is_some (delivers_line c line o) ≡ true
  line_comes line None some = cc some
  line_comes line (Some handler) some = refl

  -- what is taken is delivered
  due_comes : (o : Option Due) (left : Timers) → is_some (delivers_due c (o, left)) ≡ is_some o
  due_comes None left = refl
  due_comes (Some (due_variants.Alarm alarm)) left = refl
  due_comes (Some (due_variants.Delay delay)) left = refl

  -- by the line that is delivered
  some_by : (o : Option ℕ) → FindsLowest c.kernel.irqs o
      → is_some (delivers_by c o) ≡ (is_some o || comes c)
  some_by (Some line) lowest =
      line_comes line (line_of c.kernel.irqs line).handler lowest.can.handler
  some_by None none =
      let k = c.kernel in
      due_comes (takes_due k.timers k.clock).0 (takes_due k.timers k.clock).1
      ∙ taken_by k.timers k.clock (due k.timers k.clock) (due_is_next k.timers k.clock)

  -- by whether something may be delivered
  some_if : (may : Bool)
      → is_some (if may then delivers_by c (deliverable c.kernel.irqs) else None)
      ≡ (may && (is_some (deliverable c.kernel.irqs) || comes c))
  some_if true = some_by (deliverable c.kernel.irqs) (deliverable-lowest c.kernel.irqs)
  some_if false = refl

  -- something is delivered where it may be, and a line is deliverable or a timer is due
  pub delivers_some : is_some (delivers c)
      ≡ (may_deliver c && (is_some (deliverable c.kernel.irqs) || comes c))
  unfolding delivers
  delivers_some = some_if (may_deliver c)

-- what is not there is none
pub none_of : {A : Type 0} (o : Option A) → is_some o ≡ false → o ≡ None
none_of None none = refl
none_of (Some x) none = absurd (cc none)

module _ (c : Core) (none : delivers c ≡ None) (may : may_deliver c ≡ true) where
  abbrev k : Kernel
  k = c.kernel

  -- no line is found, and nothing is due
  none_found : (deliverable k.irqs ≡ None) × (due k.timers k.clock ≡ None)
  none_found =
      let neither = or_parts (is_some (deliverable k.irqs)) (comes c)
      (sym (delivers_some c ∙ rw may refl) ∙ ap is_some none) in
      (none_of _ neither.0, none_of _ neither.1)

  -- no line can be delivered
  pub no_line : NoLineComes k
  no_line = no_line_comes k (lowest_is k.irqs None none_found.0)

  -- no alarm and no delay has come
  pub no_moment : NoMomentHasCome k
  no_moment = rw none_found.1 at (due_is_next k.timers k.clock)

-- before the first turn none is due
none_before : (first : Option Turn) (moment : ℕ)
    → IfSome (option_map (λ turn. turn.moment) first) (λ look. moment < look)
    → number_if_due moment first ≡ None
none_before None moment before = refl
none_before (Some turn) moment before =
    let later : nat_le turn.moment moment ≡ false = grind (arith, nat_tests, before) in
    rw later refl

module _ (c : Core) (moment : ℕ) (cpu : Cpu) where
  -- the kernel at that moment, with that processor
  abbrev later : Core
  later = at_moment c moment cpu

  -- where nothing is delivered now, nothing is before the next look
  pub none_before_look : delivers c ≡ None → c.kernel.clock ≤ moment
      → (moment ≡ c.kernel.clock → cpu ≡ c.cpu)
      → IfSome (next_look c) (λ look. moment < look) → delivers later ≡ None
  none_before_look none after same =
      by (in_handler c.kernel || not c.kernel.interrupts) (is_in_slot c) refl refl
    where
      -- by whether interrupts are off or a handler runs, and whether the thread stands in a slot
      by : (closed slot : Bool) → (in_handler c.kernel || not c.kernel.interrupts) ≡ closed
          → is_in_slot c ≡ slot
          → IfSome (if closed then None else if slot then Some (c.kernel.clock + 1)
          else next_moment c.kernel.timers) (λ look. moment < look)
          → delivers later ≡ None
      by true slot closed in_slot before =
          let may_not : may_deliver later ≡ false = grind (arith, nat_tests, closed) in
          none_of (delivers later) (delivers_some later ∙ rw may_not refl)
      by false true is_open in_slot before =
          let now : moment ≡ c.kernel.clock = omega (arith, before, after) in
          let is : later ≡ c =
          ap (λ (m : ℕ). at_moment c m cpu) now ∙ ap (at_moment c c.kernel.clock) (same now) in
          subst (λ (d : Core). delivers d ≡ None) (sym is) none
      by false false is_open in_slot before =
          let may : may_deliver c ≡ true = grind (arith, nat_tests, is_open, in_slot) in
          let timers = c.kernel.timers in
          let no_line = (none_found c none may).0 in
          let not_due = none_before (first_turn timers.alarms timers.delays) moment before in
          none_of (delivers later)
          (delivers_some later ∙ rw (no_line, not_due) (and-false (may_deliver later)))
