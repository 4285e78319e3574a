-- Bits of an event flag are set, and the threads whose conditions then hold are woken, one after
-- the other.
use Rattle.std.proofs.Common.{◌≡◌, ◌<◌, ℕ, true, Option, Some, None, List, [], ◌++◌, length, refl, ap, sym, subst, ◌∙◌, append_assoc, arith}
use Rattle.std.specs.Prelude.{bit_or, is_some, option_map}
use Rattle.iop_base.specs.Output.{Output, Gives}
use Rattle.iop_base.specs.Piece.{Piece}
use Rattle.iop_base.specs.declared.code.TheConstants.Code.{OK}
use Rattle.iop_base.proofs.Giving.{gives_none, gives_then}
use Rattle.iop_event.specs.EventFlags.{EventFlags, meets_next, sets, sets_it, with_pattern}
use Rattle.iop_event.specs.WakeConditions.{Settled, settles}
use Rattle.iop_event.specs.declared.event_flag.EventFlag.{EventFlag}
use Rattle.iop_event.specs.declared.met.Met.{Met}
use Rattle.iop_event.proofs.Settling.{Waiting}
use Rattle.iop_exec.specs.Row.{with_reg}
use Rattle.iop_exec.specs.declared.cpu.Cpu.{Cpu}
use Rattle.iop_objects.specs.Objects.{object_of, state_of, waiters_of, changes}
use Rattle.iop_objects.proofs.Others.{HaveRisingIds, object_of_id}
use Rattle.iop_ready.specs.declared.entry.Entry.{Entry}
use Rattle.iop_stubs.specs.Stubs.{Memory}
use Rattle.iop_kernel.specs.Boards.{Board}
use Rattle.iop_kernel.specs.EventFlags.{LiveFlag, meets_one, meeting_lines, wakes_met, sets_flag, set_event_flag}
use Rattle.iop_kernel.specs.Standing.{Holds, TakesBoard, board}
use Rattle.iop_kernel.specs.System.{Kernel, Done, with_event_flags, code_word}
use Rattle.iop_kernel.specs.declared.after.After.{After}
use Rattle.iop_kernel.specs.declared.after.After.TheVariants.{Resume}
use Rattle.iop_kernel.specs.declared.kernel.Kernel.{Kernel as Program}
use Rattle.iop_kernel.proofs.Bodies.FlagSteps.{IsMetNext, changed_to, left_with, state_left, waiters_left, flag_set, flag_met, flag_settled}
use Rattle.iop_kernel.proofs.Bodies.ObjectChanges.{changes_alike}
use Rattle.iop_kernel.proofs.Bodies.Standing.{holds_flags}

-- what is known of an event flag once the threads that wait for it have settled
abbrev settled_to : Settled → LiveFlag → LiveFlag
settled_to done u =
    record u { state = with_pattern u.state done.pattern; waiters = done.waiters }

-- they have settled: those that were met are woken, and the caller goes on with 0
abbrev all_settle : EventFlags → (id : ℕ) → LiveFlag → Board → Settled → Done Board
all_settle flags id o b done =
    let left = left_with flags id o done.pattern done.waiters in
    wakes_met (record b { core = with_event_flags b.core left }) done.met

-- some pieces were given before
abbrev given_before : List Piece → Done Board → Done Board
given_before pieces done = record done { pieces = pieces ++ done.pieces }

-- how many threads are still to be woken
abbrev count_by : Waiting → Option EventFlag → ℕ
count_by waiters None = 0
count_by waiters (Some x) = length (settles x.pattern waiters).met

abbrev pub count_met : EventFlags → ℕ → ℕ
count_met s id = count_by (waiters_of s id) (state_of s id)

-- by what is left to settle
count_left : (s : EventFlags) (id : ℕ) (o : LiveFlag) → object_of s.live id ≡ Some o
    → (u : EventFlags) (pattern : ℕ) (waiters : Waiting) → u ≡ left_with s id o pattern waiters
    → count_met u id ≡ length (settles pattern waiters).met
count_left s id o live u pattern waiters is =
    ap (λ r. count_met r id) is
    ∙ ap (count_by (waiters_of (left_with s id o pattern waiters) id))
    (state_left s id o live pattern waiters)
    ∙ ap (λ q. length (settles pattern q).met) (waiters_left s id o live pattern waiters)

module _ {R : Type 0} (stands_for : R → List Entry → Type 0) (b : Board) (id bits : ℕ) where
  abbrev flags : EventFlags
  flags = b.core.kernel.event_flags

  -- some of those whose conditions hold are woken
  pub record IsMeeting (p : Program R) (memory : Memory) (old new : Output) : Type 0 where
    pub object : LiveFlag
    pub live : object_of flags.live id ≡ Some object
    -- what is left to settle
    pub pattern : ℕ
    pub waiters : Waiting
    pub left : p.event_flags ≡ left_with flags id object pattern waiters
    pub kernel : Kernel
    pub holds : Holds stands_for p kernel
    -- what was given
    pub pieces : List Piece
    pub gives : Gives old new pieces
    -- with what is still to be done it is the whole
    pub whole : given_before pieces (all_settle flags id object (board kernel b.core.cpu memory)
        (settles pattern waiters)) ≡ set_event_flag b id bits

  -- at first none is
  pub meeting_begins : (o : LiveFlag) → object_of flags.live id ≡ Some o
      → HaveRisingIds flags.live → (p : Program R)
      → Holds stands_for p (record b.core.kernel { event_flags = p.event_flags })
      → p.event_flags ≡ (sets flags id bits).1 → (a : Output)
      → IsMeeting p b.memory a a
  meeting_begins o live ids p h is a =
      let done = settles (bit_or o.state.pattern bits) o.waiters in
      let last : left_with flags id o done.pattern done.waiters
      ≡ changes flags o.id (settled_to done) =
      changes_alike id (changed_to flags id o done.pattern done.waiters) (settled_to done) o refl
      flags ids live
      ∙ ap (λ n. changes flags n (settled_to done)) (sym (object_of_id flags.live id o live)) in
      record {
        object = o;
        live = live;
        pattern = bit_or o.state.pattern bits;
        waiters = o.waiters;
        left = is ∙ flag_set flags id o live ids bits;
        kernel = record b.core.kernel { event_flags = p.event_flags };
        holds = h;
        pieces = [];
        gives = gives_none a;
        whole = ap (λ s. wakes_met (record b { core = with_event_flags b.core s }) done.met) last
            ∙ sym (ap (sets_flag b bits) live);
      }

module _ {R : Type 0} {stands_for : R → List Entry → Type 0} {b : Board} {id bits : ℕ}
    {p : Program R} {memory : Memory} {old new : Output}
    (h : IsMeeting stands_for b id bits p memory old new) (t : EventFlags)
    (is : t ≡ (meets_next p.event_flags id).1) where
  -- the board as it stands
  abbrev here : Board
  here = board h.kernel b.core.cpu memory

  -- the same, with the event flags as they are left
  abbrev pub with_flags : Board
  with_flags = board (record h.kernel { event_flags = t }) b.core.cpu memory

  -- what is done where the others settle so
  abbrev whole_of : Settled → Done Board
  whole_of done =
      given_before h.pieces (all_settle b.core.kernel.event_flags id h.object here done)

  module _ (one : Met) (answer : Some one ≡ (meets_next p.event_flags id).0) where
    -- what is left to settle then
    next_met : IsMetNext b.core.kernel.event_flags id h.object h.live t h.pattern h.waiters one
    next_met =
        flag_met b.core.kernel.event_flags id h.object h.live p.event_flags h.pattern h.waiters
        h.left t one answer is

    -- one more is
    pub meeting_goes_on : (now : Program R) (later : Memory) (more : Output)
        → Holds stands_for now (meets_one with_flags one).core.kernel
        → later ≡ (meets_one with_flags one).memory
        → Gives new more (meeting_lines with_flags one)
        → IsMeeting stands_for b id bits now later old more
    meeting_goes_on now later more woken stored told =
        let rest = settles next_met.pattern_then next_met.waiters_then in
        let kernel = (meets_one with_flags one).core.kernel in
        let lines = meeting_lines with_flags one in
        let ends : Memory → Done Board =
        λ m. all_settle b.core.kernel.event_flags id h.object (board kernel b.core.cpu m) rest in
        record {
          object = h.object;
          live = h.live;
          pattern = next_met.pattern_then;
          waiters = next_met.waiters_then;
          left = sym woken.event_flags ∙ next_met.left;
          kernel = kernel;
          holds = woken;
          pieces = h.pieces ++ lines;
          gives = gives_then h.gives told;
          whole = ap (λ m. given_before (h.pieces ++ lines) (ends m)) stored
              ∙ ap (λ pieces. record (ends (meets_one with_flags one).memory) { pieces = pieces })
              (append_assoc h.pieces lines (ends (meets_one with_flags one).memory).pieces)
              ∙ sym (ap whole_of next_met.settled) ∙ h.whole;
        }

    -- and fewer are left
    pub meeting_fewer : (now : Program R) → t ≡ now.event_flags
        → count_met now.event_flags id < count_met p.event_flags id
    meeting_fewer now same =
        let count = count_left b.core.kernel.event_flags id h.object h.live in
        let before = count p.event_flags h.pattern h.waiters h.left in
        let after = count now.event_flags next_met.pattern_then next_met.waiters_then
        (sym same ∙ next_met.left) in
        let one_less = ap (λ (s : Settled). length s.met) next_met.settled in
        omega (arith, before, after, one_less)

  -- all are
  pub meeting_ends : None ≡ (meets_next p.event_flags id).0 → (after : After) (cpu : Cpu)
      → after ≡ Resume → cpu ≡ with_reg b.core.cpu 2 (code_word OK)
      → TakesBoard stands_for (set_event_flag b id bits) after (record p { event_flags = t }) cpu
      memory old new
  meeting_ends answer after cpu resumed answered =
      let last =
      flag_settled b.core.kernel.event_flags id h.object h.live p.event_flags h.pattern h.waiters
      h.left t answer is in
      subst (λ (d : Done Board). TakesBoard stands_for d after (record p { event_flags = t }) cpu
      memory old new) (sym (ap whole_of last.1) ∙ h.whole) (record {
        core = record {
          answer = resumed;
          kernel = holds_flags stands_for h.holds (sym last.0);
          processor = answered;
        };
        ram = refl;
        gives = gives_then h.gives (gives_none new);
      })

-- by the event flag of the id
live_by : (o : Option LiveFlag) → is_some (option_map (λ p. p.state) o) ≡ true
    → (p : LiveFlag) × (o ≡ Some p)
live_by None e = absurd (cc e)
live_by (Some o) e = (o, refl)

module _ (s : EventFlags) (id : ℕ) (x : Option EventFlag) (known : x ≡ state_of s id) where
  -- there is one
  pub found_live : is_some x ≡ true → (o : LiveFlag) × (object_of s.live id ≡ Some o)
  found_live some = live_by (object_of s.live id) (ap is_some (sym known) ∙ some)

  -- its bits are set
  pub set_answers : (bits : ℕ) → is_some x ≡ true → (sets s id bits).0 ≡ OK
  set_answers bits some =
      ap (λ (o : Option LiveFlag). (sets_it s id bits (option_map (λ p. p.state) o)).0)
      (found_live some).1
