-- The steps of the machine, and its whole runs: this project's profile.
use Rattle.std.specs.Prelude.{ℕ, zero, suc, ◌+◌, ◌-◌, ◌*◌, Bool, true, false, Option, Some, None, [], ◌∷◌, ◌++◌, length, List}
use Rattle.iop_base.specs.Numbers.{one_if}
use Rattle.iop_base.specs.Piece.{Piece}
use Rattle.iop_base.specs.declared.stop.Stop.{Stop}
use Rattle.iop_base.specs.declared.stop.Stop.TheVariants.{Quiet, Budget}
use Rattle.iop_exec.specs.Row.{Row, Goes, Serves, Faults, Storing, behind_syscall, row}
use Rattle.iop_kernel.specs.Deliveries.{Delivered, delivers}
use Rattle.iop_kernel.specs.Dispatching.{Dispatched, dispatches}
use Rattle.iop_kernel.specs.System.{Core, is_active}
use Rattle.iop_time.specs.declared.clock.TheConstants.{MOST_DELAYS}
use Rattle.iop_machine.specs.Loading.{boots}
use Rattle.iop_machine.specs.Looking.{takes_events, next_coming, at_moment}
use Rattle.iop_machine.specs.Services.{calls, faults_with}
use Rattle.iop_machine.specs.Storing.{stores_number}
use Rattle.iop_machine.specs.Iop.{Iop, Transition, silent, and_then, with_state, later, core_of, with_core}
use Rattle.iop_machine.specs.World.{World, booted}

-- the store that an instruction makes
abbrev pub stores_it : Iop → Option Storing → Transition Iop
stores_it s None = silent s
stores_it s (Some storing) = stores_number s storing.at storing.width storing.value

-- an instruction of the thread that runs, or of the handler that is active
abbrev pub performs : Iop → Row → Transition Iop
performs s (Goes after storing) = with_state later (stores_it (record s { cpu = after }) storing)
performs s (Serves code) = calls s (behind_syscall s.cpu) code
performs s (Faults kind) = silent (faults_with s kind)

-- where nothing executes the clock goes on to what comes next, and where nothing comes all is quiet
abbrev pub waits_by : Iop → (coming : Option ℕ) → Transition Iop
waits_by s None = silent (record s { over = Some Quiet })
waits_by s (Some moment) = silent (at_moment s moment)

-- what a step does
pub data Turn : Type 0 where
  -- nothing more, where it is stopped
  Stays : Turn
  -- it is booted
  Boots : Turn
  -- a line, an alarm or a delay is delivered
  Delivers : Delivered → Turn
  -- a thread is dispatched
  Dispatches : Dispatched → Turn
  -- an instruction is executed, or faults
  Executes : Row → Turn
  -- the clock goes on to what comes, or all is quiet
  Waits : (coming : Option ℕ) → Turn

-- by all that is looked at, in this order: whether it is stopped; whether it is still to be booted;
-- what is delivered; what is dispatched; whether a thread runs or a handler is active
abbrev pub turn_by : Iop → Option Stop → (is_new : Bool) → Option Delivered → Option Dispatched
    → (active : Bool) → Turn
turn_by s (Some stop) is_new delivery dispatch active = Stays
turn_by s None true delivery dispatch active = Boots
turn_by s None false (Some d) dispatch active = Delivers d
turn_by s None false None (Some d) active = Dispatches d
turn_by s None false None None true = Executes (row s.memory.ram s.cpu)
turn_by s None false None None false = Waits (next_coming s)

-- the script's events that are due are taken first of all: the rest looks at the state behind them
abbrev pub turn_of : World → Turn
turn_of w =
    let s = takes_events w.iop in
    turn_by s w.iop.over w.is_new (delivers (core_of s)) (dispatches (core_of s))
    (is_active s.kernel)

-- what was delivered or dispatched leaves this, and gives its line
abbrev pub moves_to : Iop → Core → Piece → Transition Iop
moves_to s core line = record { state = with_core s core; pieces = line ∷ []; bound = [] }

-- what a turn makes of a machine
abbrev pub takes_turn : World → Turn → Transition World
takes_turn w Stays = silent w
takes_turn w Boots = with_state booted (boots w.iop)
takes_turn w (Delivers d) = with_state booted (moves_to (takes_events w.iop) d.core d.line)
takes_turn w (Dispatches d) = with_state booted (moves_to (takes_events w.iop) d.core d.line)
takes_turn w (Executes r) = with_state booted (performs (takes_events w.iop) r)
takes_turn w (Waits coming) = with_state booted (waits_by (takes_events w.iop) coming)

-- a step takes the turn of its state
unfoldable pub step : World → Transition World
step w = takes_turn w (turn_of w)

abbrev pub is_execution : Turn → Bool
is_execution (Executes r) = true
is_execution other = false

-- whether the next step executes an instruction, or faults at one
unfoldable pub executes : World → Bool
executes w = is_execution (turn_of w)

-- whether a run stops here with so many instructions left, and why
abbrev pub stops_by : Option Stop → Bool → ℕ → Option Stop
stops_by (Some stop) e left = Some stop
stops_by None true zero = Some Budget
stops_by None true (suc left) = None
stops_by None false left = None

abbrev pub stop_at : World → ℕ → Option Stop
stop_at w left = stops_by w.iop.over (executes w) left

-- so many steps
unfoldable pub steps : ℕ → World → Transition World
steps zero w = silent w
steps (suc k) w = and_then (steps k w) step

-- how many instructions so many steps execute
unfoldable pub executed : ℕ → World → ℕ
executed zero w = 0
executed (suc k) w = executed k w + one_if (executes (steps k w).state)

-- what a run leaves, the pieces that it gives, and why it stops
pub record Ran : Type 0 where
  pub world : World
  pub pieces : List Piece
  pub stop : Stop

abbrev pub ran_by : Option Stop → World → Ran → Ran
ran_by (Some stop) w later = record { world = w; pieces = []; stop = stop }
ran_by None w later = record
    { world = later.world; pieces = (step w).pieces ++ later.pieces; stop = later.stop }

-- a run of at most so many steps
unfoldable pub run_within : (most budget : ℕ) → World → Ran
run_within zero budget w = record { world = w; pieces = []; stop = Budget }
run_within (suc most) budget w =
    ran_by (stop_at w budget) w (run_within most (budget - one_if (executes w)) (step w).state)

-- how many steps at most stand before the first instruction, between two, and behind the last, but
-- for those in which the clock goes on to the tick of an event: one that boots; two for each delay
-- and for a handler that begins, one in which the clock goes on to its moment and one in which it
-- is delivered; one in which a thread is dispatched, one more in which the clock goes on, and one
-- in which all is quiet
abbrev pub most_between : ℕ
most_between = 2 * (MOST_DELAYS + 1) + 4

-- how many steps a run takes at most: besides one for each event of the script, so many before the
-- first instruction, with each, and behind the last
abbrev pub most_steps : (budget : ℕ) → World → ℕ
most_steps budget w = length w.iop.events + (most_between + 1) * (budget + 1)

-- the whole run
unfoldable pub run_of : ℕ → World → Ran
run_of budget w = run_within (most_steps budget w) budget w
