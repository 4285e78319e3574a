-- What walks over the ranges of all pools find and leave. No contract of a public call cites this.
use Rattle.std.specs.Prelude.{ℕ, ◌-◌, ◌==◌, nat_le, Bool, ◌&&◌, if◌then◌else◌, Option, Some, None, List, [], ◌∷◌}
use Rattle.iop_pools.specs.Ranges.{end_of}
use Rattle.iop_pools.specs.declared.out.Out.{Out}
use Rattle.iop_pools.specs.declared.range.Range.{Range}

-- where the first gap begins that has so many bytes
abbrev pub first_gap : (from end len : ℕ) → List Range → Option ℕ
first_gap from end len [] = if nat_le len (end - from) then Some from else None
first_gap from end len (r ∷ rs) =
    if nat_le len (r.start - from) then Some from else first_gap (end_of r) end len rs

-- where the last range ends, or the place where all begin
abbrev pub end_behind : (from : ℕ) → Option Range → ℕ
end_behind from None = from
end_behind from (Some r) = end_of r

-- whether it is the range of a pool that starts at an address
abbrev pub is_this : (id block : ℕ) → Out → Bool
is_this id block o = (o.pool == id) && (o.range.start == block)

-- whether it is a range of a pool that starts at an address or behind it
abbrev pub is_behind : (id start : ℕ) → Out → Bool
is_behind id start o = (o.pool == id) && nat_le start o.range.start

-- one more, in front of the first of its pool that starts there or behind it
abbrev pub with_out : Out → List Out → List Out
with_out o [] = o ∷ []
with_out o (x ∷ xs) =
    if is_behind o.pool o.range.start x then o ∷ x ∷ xs else x ∷ with_out o xs

-- all but the range of a pool that starts at an address
abbrev pub without_out : (id block : ℕ) → List Out → List Out
without_out id block [] = []
without_out id block (x ∷ xs) =
    if is_this id block x then xs else x ∷ without_out id block xs
