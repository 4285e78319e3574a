-- From what an object over two sinks was given to what it leaves on them, when it is let go.
use Rattle.std.proofs.Common.{◌≡◌, Bool, true, false, List, sym}
use Rattle.iop_base.specs.Piece.{Piece, Traced, Told}
use Rattle.iop_base.specs.Output.{Output, Gives, FailsAt}
use Rattle.iop_base.proofs.Giving.{gives_names, gives_whole, gives_short}
use Rattle.iop_ports.specs.Sinks.{SinkTold}
use Rattle.iop_trace.specs.declared.two_sinks.Out.{Out}
use Rattle.iop_trace.specs.Outs.{has_failed, console_now, trace_now, console_name, trace_name, output_of, sinks, Leaves}

module _ {C T : Type 0} (console_told : C → SinkTold) (trace_told : T → SinkTold) where
  -- what is seen of the object, and what of its sinks alone
  abbrev pub through : Out C T → Output
  through out = output_of console_told trace_told out

  abbrev pub alone : C → T → Output
  alone console trace = sinks console_told trace_told console trace

  abbrev pub behind : Out C T → Output
  behind out = alone (console_now out) (trace_now out)

  -- it writes through the same borrows throughout
  pub gives_same_names : (first last : Out C T) (pieces : List Piece)
      → Gives (through first) (through last) pieces
      → (console_name first ≡ console_name last) × (trace_name first ≡ trace_name last)
  gives_same_names first last pieces h = let e = gives_names h in (cc, cc)

  fails_behind : (first last : Out C T) (piece : Piece)
      → FailsAt piece (through first) (through last) → FailsAt piece (behind first) (behind last)
  fails_behind first last (Traced bytes) f = f
  fails_behind first last (Told bytes) f = f

  leaves_behind : (first last : Out C T) (pieces : List Piece) (failed : Bool)
      → failed ≡ has_failed last → has_failed first ≡ false
      → Gives (through first) (through last) pieces
      → Leaves failed (behind first) (behind last) pieces
  leaves_behind first last pieces true e well h =
      let s = gives_short h well (sym e) in record {
        before = s.before;
        part = s.part;
        piece = s.piece;
        after = s.after;
        pieces_are = s.pieces_are;
        is_part = s.is_part;
        adds = record { console = s.adds.console; trace = s.adds.trace };
        fails = fails_behind first last s.piece s.fails;
      }
  leaves_behind first last pieces false e well h =
      let w = gives_whole h well (sym e) in (
        record { console = w.0.console; trace = w.0.trace },
        record { console = w.1.console; trace = w.1.trace },
      )

  -- what the two sinks hold at the end, by whether the object has failed
  pub gives_leaves : (first last : Out C T) (pieces : List Piece) (failed : Bool)
      (console new_console : C) (trace new_trace : T)
      → failed ≡ has_failed last → has_failed first ≡ false
      → Gives (through first) (through last) pieces
      → console_now first ≡ console → trace_now first ≡ trace
      → console_now last ≡ new_console → trace_now last ≡ new_trace
      → Leaves failed (alone console trace) (alone new_console new_trace) pieces
  gives_leaves first last pieces failed console new_console trace new_trace e well h a b c d =
      rw (← a, ← b, ← c, ← d) (leaves_behind first last pieces failed e well h)
