-- Names at places of memory, and rows of places.
use Rattle.std.specs.Prelude.{ℕ, zero, suc, ◌+◌, List, [], ◌∷◌, take, drop}

-- the eight bytes of a library's name
unfoldable pub name_at : List ℕ → ℕ → List ℕ
name_at memory p = take 8 (drop p memory)

-- so many places, each a step behind the one before
abbrev pub places : ℕ → ℕ → ℕ → List ℕ
places step p zero = []
places step p (suc n) = p ∷ places step (p + step) n
