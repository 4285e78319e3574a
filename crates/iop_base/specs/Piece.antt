-- What is told in one go, and the bytes that many pieces leave on the console and on the trace.
use Rattle.std.specs.Prelude.{◌≡◌, ℕ, ◌<◌, List, [], ◌∷◌, ◌++◌, length}

-- a line of the trace, or text for the console
pub data Piece : Type 0 where
  Traced : (bytes : List ℕ) → Piece
  Told : (bytes : List ℕ) → Piece

abbrev pub trace_of : List Piece → List ℕ
trace_of [] = []
trace_of (Traced bytes ∷ pieces) = bytes ++ trace_of pieces
trace_of (Told bytes ∷ pieces) = trace_of pieces

abbrev pub console_of : List Piece → List ℕ
console_of [] = []
console_of (Traced bytes ∷ pieces) = console_of pieces
console_of (Told bytes ∷ pieces) = bytes ++ console_of pieces

-- the front of some bytes, at least one of which is missing
abbrev pub IsFrontOf : List ℕ → List ℕ → Type 0
IsFrontOf part bytes = (rest : List ℕ) × (0 < length rest) × (part ++ rest ≡ bytes)

-- a piece that is not whole
abbrev pub IsPartOf : Piece → Piece → Type 0
IsPartOf (Traced part) (Traced bytes) = IsFrontOf part bytes
IsPartOf (Told part) (Told bytes) = IsFrontOf part bytes
IsPartOf (Traced part) (Told bytes) = ⊥
IsPartOf (Told part) (Traced bytes) = ⊥
