-- What can be seen of an object that takes lines and texts, and what a call gives it.
use Rattle.std.specs.Prelude.{◌≡◌, ℕ, Bool, true, false, Option, Some, None, List, [], ◌∷◌, ◌++◌}
use Rattle.std.specs.Borrow.{GName}
use Rattle.iop_base.specs.Counts.{HasCause}
use Rattle.iop_base.specs.Piece.{Piece, Traced, Told, trace_of, console_of, IsPartOf}

-- the bytes on the console and on the trace, each where it is told; whether the object has failed;
-- how often the console and the trace have failed; and the borrows that it writes through
pub record Output : Type 0 where
  pub console : Option (List ℕ)
  pub trace : Option (List ℕ)
  pub failed : Bool
  pub console_faults : ℕ
  pub trace_faults : ℕ
  pub names : List GName

-- the bytes with more at their end, where they are told
abbrev pub extended : Option (List ℕ) → List ℕ → Option (List ℕ)
extended None more = None
extended (Some bytes) more = Some (bytes ++ more)

-- console and trace have the pieces' bytes at their ends
pub record Adds (old new : Output) (pieces : List Piece) : Type 0 where
  pub console : new.console ≡ extended old.console (console_of pieces)
  pub trace : new.trace ≡ extended old.trace (trace_of pieces)

-- no write failed
pub record HasNoFault (old new : Output) : Type 0 where
  pub console : new.console_faults ≡ old.console_faults
  pub trace : new.trace_faults ≡ old.trace_faults

-- the write of this piece failed, and no other
abbrev pub FailsAt : Piece → Output → Output → Type 0
FailsAt (Traced bytes) old new =
    HasCause old.trace_faults new.trace_faults × (new.console_faults ≡ old.console_faults)
FailsAt (Told bytes) old new =
    HasCause old.console_faults new.console_faults × (new.trace_faults ≡ old.trace_faults)

-- the write of one piece failed: those before it are there, and a part of it
pub record StopsShort (old new : Output) (pieces : List Piece) : Type 0 where
  pub before : List Piece
  pub part : Piece
  pub piece : Piece
  pub after : List Piece
  pub pieces_are : pieces ≡ before ++ piece ∷ after
  pub is_part : IsPartOf part piece
  pub adds : Adds old new (before ++ part ∷ [])
  pub fails : FailsAt piece old new

-- by whether the object had failed before, and whether it has failed now
abbrev pub GivesBy : Bool → Bool → Output → Output → List Piece → Type 0
-- what has failed adds nothing more
GivesBy true true old new pieces = new ≡ old
-- and stays failed
GivesBy true false old new pieces = ⊥
-- all pieces are there
GivesBy false false old new pieces = Adds old new pieces × HasNoFault old new
-- it failed at one of the pieces
GivesBy false true old new pieces = StopsShort old new pieces

-- the pieces were told, unless the object failed, through the same borrows
pub record HasGiven (old new : Output) (pieces : List Piece) : Type 0 where
  pub by : GivesBy old.failed new.failed old new pieces
  pub names : new.names ≡ old.names

-- the same, as one word
pub data Gives : Output → Output → List Piece → Type 0 where
  given : {old new : Output} {pieces : List Piece} → HasGiven old new pieces → Gives old new pieces
