-- What can be seen of two sinks, and of the object that writes lines and texts to them: this
-- project's profile.
use Rattle.std.specs.Prelude.{Bool, false, List, [], ◌∷◌, MatchBool}
use Rattle.std.specs.Borrow.{GName}
use Rattle.iop_base.specs.Piece.{Piece}
use Rattle.iop_base.specs.Output.{Output, Adds, HasNoFault, StopsShort}
use Rattle.iop_ports.specs.Sinks.{SinkTold}
use Rattle.iop_trace.specs.declared.two_sinks.Out.{Out}

-- by what a console and a trace tell, whether a write has failed, and the borrows that it goes
-- through
abbrev pub output_with : (console trace : SinkTold) → Bool → List GName → Output
output_with console trace failed names = record {
  console = console.taken;
  trace = trace.taken;
  failed = failed;
  console_faults = console.faults;
  trace_faults = trace.faults;
  names = names;
}

module _ {C T : Type 0} where
  abbrev pub has_failed : Out C T → Bool
  has_failed out = out.failed

  -- the console and the trace as they stand, and the borrows through which they are written
  abbrev pub console_now : Out C T → C
  console_now out = out.console.now

  abbrev pub trace_now : Out C T → T
  trace_now out = out.trace.now

  abbrev pub console_name : Out C T → GName
  console_name out = out.console.ghost_name

  abbrev pub trace_name : Out C T → GName
  trace_name out = out.trace.ghost_name

  -- the object, by what its console and its trace tell
  abbrev pub output_of : (C → SinkTold) → (T → SinkTold) → Out C T → Output
  output_of console_told trace_told out =
      output_with (console_told (console_now out)) (trace_told (trace_now out)) (has_failed out)
      (console_name out ∷ trace_name out ∷ [])

  -- two sinks alone, through no borrow
  abbrev pub sinks : (C → SinkTold) → (T → SinkTold) → C → T → Output
  sinks console_told trace_told console trace =
      output_with (console_told console) (trace_told trace) false []

-- what the pieces left on two sinks, by whether a write failed
abbrev pub Leaves : Bool → Output → Output → List Piece → Type 0
Leaves failed old new pieces =
    MatchBool failed (StopsShort old new pieces) (Adds old new pieces × HasNoFault old new)
