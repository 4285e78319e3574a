-- How long the texts of instructions are.
use Rattle.std.proofs.Common.{◌≡◌, ℕ, ◌+◌, ◌*◌, ◌≤◌, nat_le, Bool, true, false, cond, ◌&&◌, Option, Some, option_map, List, [], ◌∷◌, length, refl, subst}
use Rattle.std.proofs.lemmas.Bool.{leb-true, and_parts}
use Rattle.iop_isa.specs.declared.opcode.Opcode.{Opcode}
use Rattle.iop_isa.specs.Table.{Row, rows, same, found, selected_by, row_of}
use Rattle.iop_isa.specs.Writing.{Written, written}

-- a name, and operands of 8 bytes with a byte before each
abbrev fits : Row → Bool
fits r = nat_le (length r.name + 9 * length r.operands) 32

abbrev all_fit : List Row → Bool
all_fit [] = true
all_fit (r ∷ rest) = fits r && all_fit rest

rows_fit : all_fit rows ≡ true
rows_fit = refl

abbrev as_written : Row → Written
as_written r = record { name = r.name; operands = r.operands }

this_or_later : (b : Bool) (r : Row) (later : Option Row) (w : Written) → fits r ≡ true
    → (option_map as_written later ≡ Some w → length w.name + 9 * length w.operands ≤ 32)
    → option_map as_written (cond b (Some r) later) ≡ Some w
    → length w.name + 9 * length w.operands ≤ 32
this_or_later true r later w f h e =
    let is : as_written r ≡ w = cc e in
    let short = leb-true (length r.name + 9 * length r.operands) 32 f in
    subst (λ (x : Written). length x.name + 9 * length x.operands ≤ 32) is short
this_or_later false r later w f h e = h e

found_fits : (rs : List Row) (o : Opcode) (w : Written) → all_fit rs ≡ true
    → option_map as_written (found rs o) ≡ Some w → length w.name + 9 * length w.operands ≤ 32
found_fits [] o w a e = absurd (cc e)
found_fits (r ∷ rest) o w a e =
    let both = and_parts (fits r) (all_fit rest) a in
    this_or_later (same o r.opcode) r (found rest o) w both.0 (found_fits rest o w both.1) e

pub written_fits : (word : ℕ) (w : Written) → written word ≡ Some w
    → length w.name + 9 * length w.operands ≤ 32
unfolding written row_of
written_fits word w e = found_fits rows (selected_by word) w rows_fit e
