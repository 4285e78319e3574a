-- Registers by name, without the `$`: the conventional names (MIPS o32 ABI) and the numbers.
use Rattle.std.specs.Prelude.{ℕ, Option, List, [], ◌∷◌, codes, position, find, decimal}
use Rattle.std.specs.List.{range_with_len}
use Rattle.std.specs.Option.{option_or}
use Rattle.std.specs.Str.{bytes_eq}

-- the conventional names, by number
abbrev pub register_names : List (List ℕ)
register_names =
    codes "zero" ∷ codes "at" ∷ codes "v0" ∷ codes "v1"
    ∷ codes "a0" ∷ codes "a1" ∷ codes "a2" ∷ codes "a3"
    ∷ codes "t0" ∷ codes "t1" ∷ codes "t2" ∷ codes "t3"
    ∷ codes "t4" ∷ codes "t5" ∷ codes "t6" ∷ codes "t7"
    ∷ codes "s0" ∷ codes "s1" ∷ codes "s2" ∷ codes "s3"
    ∷ codes "s4" ∷ codes "s5" ∷ codes "s6" ∷ codes "s7"
    ∷ codes "t8" ∷ codes "t9" ∷ codes "k0" ∷ codes "k1"
    ∷ codes "gp" ∷ codes "sp" ∷ codes "fp" ∷ codes "ra" ∷ []

-- the number of a conventional name
abbrev pub conventional : List ℕ → Option ℕ
conventional name = position (λ known. bytes_eq known name) register_names

-- the number of a register that a text is in decimal
abbrev pub numbered : List ℕ → Option ℕ
numbered text = find (λ number. bytes_eq (decimal number) text) (range_with_len 0 32)

unfoldable pub register_named : List ℕ → Option ℕ
register_named name = option_or (conventional name) (numbered name)
