-- The run of the machine and what is written behind it, as the outcome of the run.
use Rattle.std.proofs.Common.{◌≡◌, ℕ, suc, ◌<◌, ◌≤◌, Bool, true, false, not, cond, Option, List, [], ◌∷◌, ◌++◌, refl, sym, ◌∙◌, subst, arith}
use Rattle.iop_base.specs.Piece.{Piece, Traced}
use Rattle.iop_base.specs.Output.{Output, Adds, HasNoFault, StopsShort}
use Rattle.iop_base.specs.declared.stop.Stop.{Stop}
use Rattle.iop_base.proofs.Giving.{adds_then, stops_before, stops_after}
use Rattle.iop_machine.proofs.Advancing.{stops_short}
use Rattle.iop_machine.proofs.Lasting.{runs_are_computed, goes_further}
use Rattle.iop_machine.specs.Laws.{IsMachine}
use Rattle.iop_machine.specs.Running.{Finishes, Faults, HasTime}
use Rattle.iop_machine.specs.Stepping.{Ran, steps, run_of}
use Rattle.iop_machine.specs.World.{World}
use Rattle.iop_machine.specs.declared.snapshots.TheConstants.{SAVABLE_MOMENTS}
use Rattle.iop_options.specs.Values.{DumpRange}
use Rattle.iop_options.specs.declared.limits.TheConstants.{MOST_BUDGET}
use Rattle.iop_ports.specs.Sinks.{SinkTold, Sends}
use Rattle.iop_trace.specs.Outs.{Leaves, output_with}
use Rattle.iop_front.specs.Keeping.{Keeps}
use Rattle.iop_front.specs.Outcome.{Comes, TraceLeaves, ending_of, kept_of, outcome_of_run, all_written, cut_short, not_kept}
use Rattle.iop_front.specs.Statuses.{status_of}
use Rattle.iop_front.specs.declared.status.Status.{Status}
use Rattle.iop_front.specs.declared.status.Status.TheVariants.{SinkFault}
use Rattle.iop_front.proofs.SendingLemmas.{sent_leaves}

-- there is time for a run of a command from each moment at which machines are saved
pub in_time : (clock budget : ℕ) → clock < SAVABLE_MOMENTS → budget ≤ MOST_BUDGET
    → HasTime clock budget
in_time clock budget early few = omega (arith, early, few)

-- pieces that were left whole, and then others, or not
pub leaves_then : (failed : Bool) (old mid new : Output) (xs ys : List Piece)
    → Adds old mid xs → HasNoFault old mid → Leaves failed mid new ys
    → Leaves failed old new (xs ++ ys)
leaves_then true old mid new xs ys adds none h = stops_after adds none h
leaves_then false old mid new xs ys adds none h = (
  adds_then adds h.0,
  record { console = h.1.console ∙ none.console; trace = h.1.trace ∙ none.trace },
)

-- a line on the trace, and what is written behind it
pub ending_leaves : (whole : Bool) (line : List ℕ) (dump : List Piece) (old mid new : SinkTold)
    → Sends true line old mid → TraceLeaves whole mid new dump
    → TraceLeaves whole old new (Traced line ∷ dump)
ending_leaves whole line dump old mid new sent leaves = λ console.
    let first = sent_leaves true line console old mid sent in
    leaves_then (not whole) (output_with console old false []) (output_with console mid false [])
    (output_with console new false []) (Traced line ∷ []) dump first.0 first.1 (leaves console)

-- or its write failed, and nothing is written behind it
pub ending_cut : (line : List ℕ) (dump : List Piece) (old new : SinkTold) → Sends false line old new
    → TraceLeaves false old new (Traced line ∷ dump)
ending_cut line dump old new sent = λ console.
    stops_before dump (sent_leaves false line console old new sent)

module _ (w : World) (machine : IsMachine w) (n : ℕ) (dump : Option DumpRange)
    (save : Option (List ℕ)) (old : Output) (keep : SinkTold) where
  -- what came of a run, where it left this on the sinks
  abbrev Came : Ran → Status → Output → SinkTold → Type 0
  Came ran status new after =
      Comes (outcome_of_run dump save ran) status (record { output = old; keep = keep })
      (record { output = new; keep = after })

  -- a write failed during the run
  pub cut_run : (k : ℕ) (status : Status) (new : Output) → status ≡ SinkFault
      → Faults w n k old new → Came (run_of n w) status new keep
  cut_run k status new e h =
      let further = goes_further w n (suc k) machine h.before in
      let ran = run_of n w in
      let run = subst (λ (ps : List Piece). StopsShort old new ps) (sym further.1)
      (stops_before further.0 (stops_short {w = w} {budget = n} {k = k} h)) in
      cut_short e (stops_before (ending_of dump ran.world ran.stop) run) refl

  -- what came of the run that took so many steps
  abbrev After : ℕ → Stop → Ran
  After k stop = record { world = (steps k w).state; pieces = (steps k w).pieces; stop = stop }

  came_after : (k : ℕ) (stop : Stop) (status : Status) (mid new : Output) (after : SinkTold)
      → Finishes w n k stop old mid → Came (After k stop) status new after
      → Came (run_of n w) status new after
  came_after k stop status mid new after h =
      subst (λ (ran : Ran). Came ran status new after)
      (sym (runs_are_computed w n k stop machine h.ends))

  -- the run was whole, and what stands behind it was not
  pub cut_ending : (k : ℕ) (stop : Stop) (status : Status) (mid new : Output)
      → status ≡ SinkFault → Finishes w n k stop old mid
      → Leaves true mid new (ending_of dump (steps k w).state stop)
      → Came (run_of n w) status new keep
  cut_ending k stop status mid new e h leaves =
      came_after k stop status mid new keep h
      (cut_short e (stops_after h.adds h.no_fault leaves) refl)

  -- both were whole, and the snapshot was kept, or not
  pub whole_run : (kept : Bool) (k : ℕ) (stop : Stop) (status : Status) (mid new : Output)
      (after : SinkTold) → status ≡ cond kept (status_of stop) SinkFault
      → Finishes w n k stop old mid
      → Leaves false mid new (ending_of dump (steps k w).state stop)
      → Keeps (kept_of save (steps k w).state stop) kept keep after
      → Came (run_of n w) status new after
  whole_run true k stop status mid new after e h leaves keeps =
      came_after k stop status mid new after h (all_written e
      (leaves_then false old mid new (steps k w).pieces (ending_of dump (steps k w).state stop)
      h.adds h.no_fault leaves) keeps)
  whole_run false k stop status mid new after e h leaves keeps =
      came_after k stop status mid new after h (not_kept e
      (leaves_then false old mid new (steps k w).pieces (ending_of dump (steps k w).state stop)
      h.adds h.no_fault leaves) keeps)
