-- A line that was sent to the trace; a refusal writes nothing to the console.
use Rattle.std.proofs.Common.{◌≡◌, ℕ, Bool, true, false, not, Option, List, [], ◌∷◌, ◌++◌, append-nil, refl, ap, sym, ◌∙◌, subst}
use Rattle.iop_base.specs.Counts.{HasCause}
use Rattle.iop_base.specs.Piece.{Piece, Traced, Told, console_of, IsPartOf}
use Rattle.iop_base.specs.Output.{Output, StopsShort, FailsAt, extended}
use Rattle.iop_base.proofs.Giving.{extended-nil, console_of-append}
use Rattle.iop_ports.specs.Sinks.{SinkTold, Sends}
use Rattle.iop_trace.specs.Outs.{Leaves, output_with}
use Rattle.iop_front.specs.Keeping.{Written}
use Rattle.iop_front.specs.Outcome.{Refuses}

-- it leaves this
pub sent_leaves : (whole : Bool) (line : List ℕ) (console old new : SinkTold)
    → Sends whole line old new
    → Leaves (not whole) (output_with console old false []) (output_with console new false [])
    (Traced line ∷ [])
sent_leaves true line console old new h = (
  record {
    console = sym (extended-nil console.taken);
    trace = ap (λ (told : SinkTold). told.taken) h
        ∙ ap (extended old.taken) (sym (append-nil line));
  },
  record { console = refl; trace = ap (λ (told : SinkTold). told.faults) h },
)
sent_leaves false line console old new h = record {
  before = [];
  part = Traced h.part;
  piece = Traced line;
  after = [];
  pieces_are = refl;
  is_part = h.is_front;
  adds = record {
    console = sym (extended-nil console.taken);
    trace = h.fails.taken ∙ ap (extended old.taken) (sym (append-nil h.part));
  };
  fails = (h.fails.cause, refl);
}

-- the same line, by whether it is whole
pub sent_as : (result whole : Bool) (sent line : List ℕ) (old new : SinkTold)
    → result ≡ whole → sent ≡ line → Sends result sent old new → Sends whole line old new
sent_as result whole sent line old new e f h =
    subst (λ b. Sends b line old new) e (subst (λ x. Sends result x old new) f h)

-- pieces for the trace alone
abbrev AreTraced : List Piece → Type 0
AreTraced [] = Unit {0}
AreTraced (Traced bytes ∷ pieces) = AreTraced pieces
AreTraced (Told bytes ∷ pieces) = ⊥

-- one of them
abbrev IsTraced : Piece → Type 0
IsTraced (Traced bytes) = Unit {0}
IsTraced (Told bytes) = ⊥

-- where all are, so are those before one of them, and that one
front_traced : (before : List Piece) (piece : Piece) (after : List Piece)
    → AreTraced (before ++ piece ∷ after) → AreTraced before × IsTraced piece
front_traced [] (Traced bytes) after h = (tt, tt)
front_traced [] (Told bytes) after h = absurd h
front_traced (Traced bytes ∷ before) piece after h = front_traced before piece after h
front_traced (Told bytes ∷ before) piece after h = absurd h

-- they write nothing to the console
nothing_told : (pieces : List Piece) → AreTraced pieces → console_of pieces ≡ []
nothing_told [] h = refl
nothing_told (Traced bytes ∷ pieces) h = nothing_told pieces h
nothing_told (Told bytes ∷ pieces) h = absurd h

-- nor does a part of one
part_traced : (part piece : Piece) → IsTraced piece → IsPartOf part piece
    → console_of (part ∷ []) ≡ []
part_traced (Traced part) piece h p = refl
part_traced (Told part) (Traced bytes) h p = absurd p
part_traced (Told part) (Told bytes) h p = absurd h

-- one that fails is a fault of the trace, and none of the console
fault_of_trace : (piece : Piece) (old new : Output) → IsTraced piece → FailsAt piece old new
    → HasCause old.trace_faults new.trace_faults × (new.console_faults ≡ old.console_faults)
fault_of_trace (Traced bytes) old new h f = f
fault_of_trace (Told bytes) old new h f = absurd h

-- the console is as it was
pub record ConsoleSame (old new : Output) : Type 0 where
  pub taken : new.console ≡ old.console
  pub faults : new.console_faults ≡ old.console_faults

-- what is extended by nothing is as it was
unextended : (old new : Option (List ℕ)) (more : List ℕ) → more ≡ [] → new ≡ extended old more
    → new ≡ old
unextended old new more none e = e ∙ ap (extended old) none ∙ extended-nil old

-- where all pieces are written
whole_console : (old new : Output) (pieces : List Piece) → AreTraced pieces
    → Leaves false old new pieces → ConsoleSame old new
whole_console old new pieces traced h = record {
  taken = unextended _ _ _ (nothing_told pieces traced) h.0.console;
  faults = h.1.console;
}

-- where one of them fails
module _ (old new : Output) (pieces : List Piece) (traced : AreTraced pieces)
    (s : StopsShort old new pieces) where
  parts : AreTraced s.before × IsTraced s.piece
  parts = front_traced s.before s.piece s.after
      (subst (λ (ps : List Piece). AreTraced ps) s.pieces_are traced)

  short_console : ConsoleSame old new
  short_console =
      let none : console_of (s.before ++ s.part ∷ []) ≡ [] =
      console_of-append s.before (s.part ∷ [])
      ∙ ap (λ t. t ++ console_of (s.part ∷ [])) (nothing_told s.before parts.0)
      ∙ part_traced s.part s.piece parts.1 s.is_part in
      record {
        taken = unextended _ _ _ none s.adds.console;
        faults = (fault_of_trace s.piece old new parts.1 s.fails).1;
      }

-- by whether one fails
console_by : (failed : Bool) (old new : Output) (pieces : List Piece) → AreTraced pieces
    → Leaves failed old new pieces → ConsoleSame old new
console_by true old new pieces traced h = short_console old new pieces traced h
console_by false old new pieces traced h = whole_console old new pieces traced h

-- a refusal writes nothing to the console
pub refusal_console : (line : List ℕ) (old new : Written) → Refuses line old new
    → ConsoleSame old.output new.output
refusal_console line old new h =
    console_by h.failed old.output new.output (Traced line ∷ []) tt h.leaves
