-- A machine that was read and put back, and can go on, is one.
use Rattle.std.proofs.Common.{◌≡◌, ℕ, zero, suc, ◌+◌, ◌<◌, ◌≤◌, nat_le, nat_lt, true, false, is_some, Option, Some, None, option_and_then, List, [], ◌∷◌, length, refl, ap, sym, ◌∙◌, subst, arith}
use Rattle.std.specs.Prelude.{◌&&◌, ◌||◌, All, AllPairs, IfSome}
use Rattle.std.specs.List.{list_all}
use Rattle.std.proofs.lemmas.Bool.{and_parts}
use Rattle.std.proofs.lemmas.Option.{cond_some}
use Rattle.std.proofs.lemmas.Bool.Decides.{nat_tests}
use Rattle.std.proofs.lemmas.List.Elements.{All-nil, All-cons}
use Rattle.iop_intr.specs.declared.irqs.TheConstants.{IRQ_LINES}
use Rattle.iop_kernel.specs.System.{Core}
use Rattle.iop_kernel.specs.declared.active_handler.ActiveHandler.{ActiveHandler}
use Rattle.iop_modload.specs.declared.limits.TheConstants.{LONGEST_FILE}
use Rattle.iop_saved_checks.specs.Kernels.{agrees}
use Rattle.iop_saved_checks.specs.Laws.{AgreeingCoresAreSound}
use Rattle.iop_saved_kernel.specs.Executing.{cause_in}
use Rattle.iop_saved_kernel.specs.Laws.{CanBeBack}
use Rattle.iop_saved_machine.specs.Back.{MachineState, machine_back, machine_form}
use Rattle.iop_saved_machine.specs.Laws.{MachinesAreLawful, MachinesAreRead, MachinesTellWhatWasPut}
use Rattle.iop_saved_machine.specs.Parts.{MachineParts, written_machine}
use Rattle.iop_script.specs.declared.raise.Raise.{Raise}
use Rattle.iop_script.specs.declared.statements.TheConstants.{MOST_MODULES}
use Rattle.iop_snapshot.proofs.Combining.{then_some, whole_exact}
use Rattle.iop_snapshot.specs.Forms.{read_whole}
use Rattle.iop_snapshot.specs.Reading.{GivesNone}
use Rattle.iop_snapshot.specs.declared.fault.SnapFault.{SnapFault}
use Rattle.iop_snapshot.specs.declared.fault.SnapFault.TheVariants.{Bad, Memory}
use Rattle.iop_time.specs.declared.ticks.TheConstants.{NEVER}
use Rattle.iop_machine.specs.Events.{CanCome}
use Rattle.iop_machine.specs.Laws.{IsMachine}
use Rattle.iop_machine.specs.Loader.{loader_may_go_on}
use Rattle.iop_machine.specs.Modules.{Module, ModulesLeft, CanBeLeft, HasRoom, modules_of, strings}
use Rattle.iop_kernel.specs.Registers.{IsBare, nobodys}
use Rattle.iop_machine.specs.Restoring.{is_savable_at, iop_in, left_in, may_have_taken, may_come, may_come_behind, has_room, may_be_left, may_go_on, if_it_may, machine_in}
use Rattle.iop_machine.specs.RestoringLaws.{RestoredMachinesAreMachines}
use Rattle.iop_machine.specs.ScriptWords.{words_may_stand}
use Rattle.iop_machine.specs.World.{booted}
use Rattle.iop_machine.specs.declared.arguments.TheConstants.{MOST_WORDS, MOST_WORD_BYTES}

-- an element stands in front of all others
first_of_pairs : {X : Type 0} (R : X → X → Type 0) (x : X) (xs : List X) → All (R x) xs
    → AllPairs R xs → AllPairs R (x ∷ xs)
first_of_pairs R x xs first pairs zero zero d below inside = absurd (omega (arith, below))
first_of_pairs R x xs first pairs zero (suc j) d below inside = first j d (omega (arith, inside))
first_of_pairs R x xs first pairs (suc i) zero d below inside = absurd (omega (arith, below))
first_of_pairs R x xs first pairs (suc i) (suc j) d below inside =
    pairs i j d (omega (arith, below)) (omega (arith, inside))

-- events that can come, none before a moment
record ComeBehind (last : ℕ) (events : List Raise) : Type 0 where
  pub come : CanCome events
  pub later : All (λ e. last ≤ e.at) events

come_behind : (last : ℕ) (events : List Raise) → may_come_behind last events ≡ true
    → ComeBehind last events
come_behind last [] may = record {
  come = record {
    order = λ i j d below inside. absurd (omega (arith, inside));
    ticks = All-nil (λ (e : Raise). e.at < NEVER);
    lines = All-nil (λ (e : Raise). e.line < IRQ_LINES);
  };
  later = All-nil (λ (e : Raise). last ≤ e.at);
}
come_behind last (e ∷ es) may =
    let both = and_parts (may_come last e) (may_come_behind e.at es) may in
    let parts =
    and_parts (nat_le last e.at && nat_lt e.at NEVER) (nat_lt e.line IRQ_LINES) both.0 in
    let moments = and_parts (nat_le last e.at) (nat_lt e.at NEVER) parts.0 in
    let rest = come_behind e.at es both.1 in
    let behind = moments.0 in
    let soon = moments.1 in
    let line = parts.1 in
    let after : last ≤ e.at = grind (arith, nat_tests, behind) in
    record {
      come = record {
        order = first_of_pairs (λ x y. x.at ≤ y.at) e es rest.later rest.come.order;
        ticks = All-cons (λ (e : Raise). e.at < NEVER) e es (grind (arith, nat_tests, soon))
            rest.come.ticks;
        lines = All-cons (λ (e : Raise). e.line < IRQ_LINES) e es (grind (arith, nat_tests, line))
            rest.come.lines;
      };
      later = All-cons (λ (e : Raise). last ≤ e.at) e es after
          (λ k d below. omega (arith, after, rest.later k d below));
    }

-- the events of a machine that is put back can come
pub events_come : (events : List Raise) → may_come_behind 0 events ≡ true → CanCome events
events_come events may = (come_behind 0 events may).come

-- a module has room that passes the test
room_of : (m : Module) → has_room m ≡ true → HasRoom m
room_of m passes =
    let both =
    and_parts (nat_le (length m.file) LONGEST_FILE && nat_le (length m.words) MOST_WORDS)
    (nat_le (length (strings m.words)) MOST_WORD_BYTES) passes in
    let two =
    and_parts (nat_le (length m.file) LONGEST_FILE) (nat_le (length m.words) MOST_WORDS)
    both.0 in
    let file = two.0 in
    let words = two.1 in
    let bytes = both.1 in
    record {
      file = grind (arith, nat_tests, file);
      words = grind (arith, nat_tests, words);
      strings = grind (arith, nat_tests, bytes);
    }

-- and so do all
pub rooms_of : (ms : List Module) → list_all has_room ms ≡ true → All HasRoom ms
rooms_of [] all = All-nil HasRoom
rooms_of (m ∷ ms) all =
    let both = and_parts (has_room m) (list_all has_room ms) all in
    All-cons HasRoom m ms (room_of m both.0) (rooms_of ms both.1)

-- modules can be left where they pass the test
pub can_be_left : (left : ModulesLeft) → may_be_left left ≡ true → CanBeLeft left
can_be_left left may =
    let both =
    and_parts (nat_le 1 left.next && nat_le (left.next + length left.files) (MOST_MODULES + 1))
    (list_all has_room (modules_of left)) may in
    let numbers =
    and_parts (nat_le 1 left.next) (nat_le (left.next + length left.files) (MOST_MODULES + 1))
    both.0 in
    let first = numbers.0 in
    let last = numbers.1 in
    record {
      some = grind (arith, nat_tests, first);
      few = grind (arith, nat_tests, last);
      room = rooms_of (modules_of left) both.1;
    }

-- what can be put back has no registers that nobody has
executes_by : (running : Option ℕ) (handler : Option ActiveHandler)
    → (is_some handler || is_some running) ≡ false
    → (is_some running || is_some (cause_in handler)) ≡ false
executes_by None None idle = refl
executes_by (Some id) None idle = absurd (cc idle)
executes_by running (Some handler) idle = absurd (cc idle)

if_none_runs : (P : ActiveHandler → Type 0) (running : Option ℕ) (o : Option ActiveHandler)
    → (running ≡ None → IfSome o P) → IfSome o (λ handler. running ≡ None → P handler)
if_none_runs P running None each = tt
if_none_runs P running (Some handler) each = each

pub bare_back : (c : Core) → CanBeBack c → IsBare c
bare_back c can = record {
  processor = λ idle. can.cpu (executes_by c.kernel.threads.running c.kernel.handler idle);
  kept = if_none_runs (λ handler. handler.kept ≡ nobodys) c.kernel.threads.running c.kernel.handler can.kept;
}

-- what a machine was put back from
pub record WasRead (bytes : List ℕ) (m : MachineState) : Type 0 where
  pub parts : MachineParts
  pub read : read_whole machine_form bytes ≡ Some parts
  pub back : machine_back parts ≡ Some m
  pub may : may_go_on m ≡ true

pub was_read : (bytes : List ℕ) (m : MachineState) → machine_in bytes ≡ Some m → WasRead bytes m
unfolding machine_in
was_read bytes m e =
    let one =
    then_some (option_and_then machine_back (read_whole machine_form bytes)) if_it_may m e in
    let two = then_some (read_whole machine_form bytes) machine_back one.0 one.1 in
    let goes = cond_some (may_go_on one.0) one.0 m one.2 in
    record {
      parts = two.0;
      read = two.1;
      back = two.2 ∙ ap (λ (m : MachineState). Some m) goes.1;
      may = subst (λ (m : MachineState). may_go_on m ≡ true) goes.1 goes.0;
    }

-- and what machine that is
pub machine_read : (bytes : List ℕ) (p : MachineParts) (m : MachineState)
    → read_whole machine_form bytes ≡ Some p → machine_back p ≡ Some m
    → machine_in bytes ≡ if_it_may m
unfolding machine_in
machine_read bytes p m read back =
    ap (λ o. option_and_then if_it_may (option_and_then machine_back o)) read
    ∙ ap (option_and_then if_it_may) back

-- one that may go on is put back, and another is not
pub goes_back : (m : MachineState) → may_go_on m ≡ true → if_it_may m ≡ Some m
goes_back m may = rw may refl

pub stays_out : (m : MachineState) → may_go_on m ≡ false → if_it_may m ≡ None
stays_out m may = rw may refl

-- what a machine that may go on has passed
pub record HasPassed (m : MachineState) : Type 0 where
  pub agrees : agrees m.system.memory m.system.core.kernel ≡ true
  pub taken : may_have_taken m.system.core.kernel ≡ true
  pub events : may_come_behind 0 m.loading.events ≡ true
  pub left : may_be_left (left_in m.loading) ≡ true
  pub words : words_may_stand m.loading ≡ true
  pub loader : loader_may_go_on m ≡ true

pub has_passed : (m : MachineState) → may_go_on m ≡ true → HasPassed m
has_passed m may =
    let k = m.system.core.kernel in
    let agreed = agrees m.system.memory k in
    let taken = may_have_taken k in
    let events = may_come_behind 0 m.loading.events in
    let left = may_be_left (left_in m.loading) in
    let moment = is_savable_at k.clock in
    let words = words_may_stand m.loading in
    let seven =
    and_parts (agreed && taken && events && left && moment && words) (loader_may_go_on m) may in
    let six = and_parts (agreed && taken && events && left && moment) words seven.0 in
    let five = and_parts (agreed && taken && events && left) moment six.0 in
    let four = and_parts (agreed && taken && events) left five.0 in
    let three = and_parts (agreed && taken) events four.0 in
    let two = and_parts agreed taken three.0 in
    record {
      agrees = two.0;
      taken = two.1;
      events = three.1;
      left = four.1;
      words = six.1;
      loader = seven.1;
    }

-- bytes that are no parts are no machine
pub none_read : (bytes : List ℕ) → read_whole machine_form bytes ≡ None
    → machine_in bytes ≡ None
unfolding machine_in
none_read bytes read =
    ap (λ o. option_and_then if_it_may (option_and_then machine_back o)) read

pub none_given : (bytes : List ℕ) (fault : SnapFault) → GivesNone (read_whole machine_form bytes) fault
    → GivesNone (machine_in bytes) fault
none_given bytes Bad none = none_read bytes none
none_given bytes Memory none = tt

module _ (lawful : MachinesAreLawful) (tells : MachinesTellWhatWasPut) (reads : MachinesAreRead)
    (sound : AgreeingCoresAreSound) where
  machine_is : (p : MachineParts) (m : MachineState) → machine_form.fits p ≡ true
      → machine_back p ≡ Some m → may_go_on m ≡ true → IsMachine (booted (iop_in m))
  machine_is p m fits back may =
      let can = tells.sound p m fits back in
      let steady = reads.steady p m fits back in
      let passed = has_passed m may in
      let numbers = passed.taken in
      let stands = sound m.system.memory m.system.core can.core steady passed.agrees in
      record {
        sound = record {
          whole = record {
            sound = can.memory;
            are_blocks = can.blocks;
            same_size = can.same_size;
          };
          none_live = λ new. absurd (cc new);
          core = stands.core;
          places = stands.places;
          pools = stands.pools;
          bare = bare_back m.system.core can.core;
        };
        numbers = grind (arith, nat_tests, numbers);
        events = events_come m.loading.events passed.events;
      }

  pub restored_machines : RestoredMachinesAreMachines
  restored_machines bytes m all e =
      let was = was_read bytes m e in
      let p = was.parts in
      let whole = (whole_exact machine_form lawful.lawful bytes p all).0 was.read in
      record {
        machine = machine_is p m whole.1 was.back was.may;
        told = ap (λ (p : MachineParts). written_machine.spell p)
            (tells.parts p m whole.1 was.back)
            ∙ sym (lawful.same p) ∙ sym whole.0;
        short = tells.short p m whole.1 was.back;
      }
