-- What an object over two sinks gives, from what it sent to one of them.
use Rattle.std.proofs.Common.{◌≡◌, Bool, true, false, not, Option, List, ℕ, [], ◌∷◌, ◌++◌, refl, ap, sym, ◌∙◌, append-nil}
use Rattle.std.specs.Borrow.{GName}
use Rattle.iop_base.specs.Piece.{Traced, Told}
use Rattle.iop_base.specs.Output.{Gives, extended}
use Rattle.iop_base.proofs.Giving.{extended-nil, short_gives, whole_gives}
use Rattle.iop_ports.specs.Sinks.{SinkTold, plain_sink, Sends}
use Rattle.iop_trace.specs.Outs.{output_with}

-- what is taken, with nothing behind it
taken_alone : (old new : SinkTold) (bytes : List ℕ)
    → new.taken ≡ extended old.taken bytes → new.taken ≡ extended old.taken (bytes ++ [])
taken_alone old new bytes e = e ∙ ap (extended old.taken) (sym (append-nil bytes))

module _ (old new : SinkTold) (names : List GName) (failed : Bool) (well : failed ≡ false) where
  -- a line that was sent to the trace, by whether it is whole, and by what the console tells
  pub line_gives : (whole : Bool) (taken : Option (List ℕ)) (faults : ℕ) (bytes : List ℕ)
      → Sends whole bytes old new
      → Gives (output_with (plain_sink taken faults) old failed names)
      (output_with (plain_sink taken faults) new (not whole) names) (Traced bytes ∷ [])
  line_gives true taken faults bytes h =
      whole_gives _ _ _ well refl
      (record {
        console = sym (extended-nil taken);
        trace = taken_alone old new bytes (ap (λ t. t.taken) h);
      })
      (record { console = refl; trace = ap (λ t. t.faults) h })
      refl
  line_gives false taken faults bytes h =
      short_gives _ _ _ well refl
      (record {
        before = [];
        part = Traced h.part;
        piece = Traced bytes;
        after = [];
        pieces_are = refl;
        is_part = h.is_front;
        adds = record {
          console = sym (extended-nil taken);
          trace = taken_alone old new h.part h.fails.taken;
        };
        fails = (h.fails.cause, refl);
      })
      refl

  -- a text that was sent to the console, by what the trace tells
  pub text_gives : (whole : Bool) (taken : Option (List ℕ)) (faults : ℕ) (bytes : List ℕ)
      → Sends whole bytes old new
      → Gives (output_with old (plain_sink taken faults) failed names)
      (output_with new (plain_sink taken faults) (not whole) names) (Told bytes ∷ [])
  text_gives true taken faults bytes h =
      whole_gives _ _ _ well refl
      (record {
        console = taken_alone old new bytes (ap (λ t. t.taken) h);
        trace = sym (extended-nil taken);
      })
      (record { console = ap (λ t. t.faults) h; trace = refl })
      refl
  text_gives false taken faults bytes h =
      short_gives _ _ _ well refl
      (record {
        before = [];
        part = Told h.part;
        piece = Told bytes;
        after = [];
        pieces_are = refl;
        is_part = h.is_front;
        adds = record {
          console = taken_alone old new h.part h.fails.taken;
          trace = sym (extended-nil taken);
        };
        fails = (h.fails.cause, refl);
      })
      refl
