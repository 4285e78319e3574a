-- The ranges of a pool's memory that are out, in order of their starts (ps2sdk: thvpool, thfpool).
-- That no word in the memory of a pool keeps them is this project's own profile.
use Rattle.std.specs.Prelude.{ℕ, ◌+◌, ◌-◌, ◌*◌, ◌==◌, nat_le, nat_lt, Bool, ◌&&◌, ◌||◌, if◌then◌else◌, Option, List, [], ◌∷◌, map, find, max}
use Rattle.std.specs.Int.{div_ceil}
use Rattle.std.specs.List.{list_all, list_any, range_with_len}
use Rattle.iop_pools.specs.declared.range.Range.{Range}

-- the place behind a range
abbrev pub end_of : Range → ℕ
end_of r = r.start + r.size

-- the least multiple of a unit that is not less
abbrev pub rounded : (unit size : ℕ) → ℕ
rounded unit size = div_ceil size unit * unit

-- a range more, behind those that start before it
abbrev pub with_range : Range → List Range → List Range
with_range r [] = r ∷ []
with_range r (x ∷ xs) = if nat_lt x.start r.start then x ∷ with_range r xs else r ∷ x ∷ xs

-- whether a range starts at an address
abbrev pub is_out : ℕ → List Range → Bool
is_out block ranges = list_any (λ r. r.start == block) ranges

-- the ranges without the one that starts at an address
abbrev pub without : ℕ → List Range → List Range
without block [] = []
without block (x ∷ xs) = if x.start == block then xs else x ∷ without block xs

-- whether so many bytes at a place meet no byte of a range
abbrev pub is_apart : (place len : ℕ) → Range → Bool
is_apart place len r = nat_le (end_of r) place || nat_le (place + len) r.start

-- whether so many bytes at a place are inside of memory that has this end, and meet no range
abbrev pub is_free : (end len : ℕ) → List Range → (place : ℕ) → Bool
is_free end len ranges place = nat_le (place + len) end && list_all (is_apart place len) ranges

-- the first of so many places, one unit behind the other, where so many bytes are free
abbrev pub first_free : (base unit units len : ℕ) → List Range → Option ℕ
first_free base unit units len ranges =
    find (is_free (base + units * unit) len ranges)
    (map (λ k. base + k * unit) (range_with_len 0 units))

-- how many bytes are free in front of each range, from a place on, and behind the last one
abbrev pub gaps : (from end : ℕ) → List Range → List ℕ
gaps from end [] = (end - from) ∷ []
gaps from end (r ∷ rs) = (r.start - from) ∷ gaps (end_of r) end rs

-- the greatest of some numbers: 0 where there is none
abbrev pub greatest : List ℕ → ℕ
greatest [] = 0
greatest (n ∷ ns) = max n (greatest ns)

-- all of them together
abbrev pub total : List ℕ → ℕ
total [] = 0
total (n ∷ ns) = n + total ns
