-- Names of eight bytes in items.
use Rattle.std.proofs.Common.{◌≡◌, ℕ, zero, suc, ◌<◌, ◌^◌, true, List, [], ◌∷◌, ◌++◌, length, get_or, replicate, refl, arith}
use Rattle.std.proofs.lemmas.Bool.{lt-ltb}
use Rattle.iop_snapshot.specs.Items.{fits_item}
use Rattle.iop_snapshot.proofs.Numbers.{fits_append, all_fit}

-- the bytes of a name have room, and numbers behind them
pub name_fits : (name widths rest : List ℕ) → length name ≡ 8
    → ((k : ℕ) → k < 8 → get_or name k 0 < 2 ^ 8) → fits_item widths rest ≡ true
    → fits_item (1 ∷ 1 ∷ 1 ∷ 1 ∷ 1 ∷ 1 ∷ 1 ∷ 1 ∷ widths) (name ++ rest) ≡ true
name_fits name widths rest long small behind =
    fits_append (replicate 8 1) widths name rest (all_fit 1 8 name long small) behind

-- eight bytes are below 256
pub eight_bytes : (name : List ℕ) → get_or name 0 0 < 2 ^ 8 → get_or name 1 0 < 2 ^ 8
    → get_or name 2 0 < 2 ^ 8 → get_or name 3 0 < 2 ^ 8 → get_or name 4 0 < 2 ^ 8
    → get_or name 5 0 < 2 ^ 8 → get_or name 6 0 < 2 ^ 8 → get_or name 7 0 < 2 ^ 8
    → (k : ℕ) → k < 8 → get_or name k 0 < 2 ^ 8
eight_bytes name a b c d e f g h zero below = a
eight_bytes name a b c d e f g h (suc zero) below = b
eight_bytes name a b c d e f g h (suc (suc zero)) below = c
eight_bytes name a b c d e f g h (suc (suc (suc zero))) below = d
eight_bytes name a b c d e f g h (suc (suc (suc (suc zero)))) below = e
eight_bytes name a b c d e f g h (suc (suc (suc (suc (suc zero))))) below = f
eight_bytes name a b c d e f g h (suc (suc (suc (suc (suc (suc zero)))))) below = g
eight_bytes name a b c d e f g h (suc (suc (suc (suc (suc (suc (suc zero))))))) below = h
eight_bytes name a b c d e f g h (suc (suc (suc (suc (suc (suc (suc (suc k)))))))) below =
    absurd (omega arith)

-- two numbers have room behind it, or three
pub two_fit : (major table : ℕ) → major < 2 ^ 8 → table < 2 ^ 32
    → fits_item (1 ∷ 4 ∷ []) (major ∷ table ∷ []) ≡ true
two_fit major table small word = rw (lt-ltb major (256 ^ 1) small, lt-ltb table (256 ^ 4) word) refl

pub three_fit : (major index target : ℕ) → major < 2 ^ 8 → index < 2 ^ 16 → target < 2 ^ 32
    → fits_item (1 ∷ 2 ∷ 4 ∷ []) (major ∷ index ∷ target ∷ []) ≡ true
three_fit major index target small half word =
    rw (
      lt-ltb major (256 ^ 1) small,
      lt-ltb index (256 ^ 2) half,
      lt-ltb target (256 ^ 4) word,
    ) refl
