-- The arguments of a format (MIPS o32): `$a1`, `$a2` and `$a3`, or the last of these, then the
-- words from 16($sp) on. That a word which is misaligned or outside RAM reads 0 is this project's
-- profile.
use Rattle.std.specs.Prelude.{ℕ, ◌+◌, ◌-◌, ◌*◌, nat_lt, if◌then◌else◌, unwrap_or, List, length, slice_index}
use Rattle.iop_base.specs.Numbers.{wrapped}
use Rattle.iop_base.specs.Places.{load_at}
use Rattle.iop_base.specs.declared.width.Width.TheVariants.{Word}

-- where the arguments are
pub record Arguments : Type 0 where
  -- the first of them
  pub registers : List ℕ
  -- the stack pointer
  pub sp : ℕ

-- the word at an address, counted modulo 2 ^ 32
abbrev pub word_or_zero : List ℕ → ℕ → ℕ
word_or_zero ram at = unwrap_or (load_at ram (wrapped at) Word) 0

-- the argument of this number, from 0 on
unfoldable pub argument : List ℕ → Arguments → ℕ → ℕ
argument ram arguments n =
    let count = length arguments.registers in
    if nat_lt n count
    then slice_index arguments.registers n
    else word_or_zero ram (arguments.sp + 16 + 4 * (n - count))
