-- Where branches and jumps go (MIPS I: the targets of the R3000's instructions).
use Rattle.std.specs.Prelude.{ℕ, ◌+◌, ◌*◌, ◌/◌, ◌^◌}
use Rattle.iop_base.specs.Numbers.{sign_extended, wrapped}

-- where the branch at an address goes: so many instructions from the one behind it
abbrev pub branch_target : (at imm : ℕ) → ℕ
branch_target at imm = wrapped (at + 4 + sign_extended 16 imm * 4)

-- where the jump at an address goes: it has the upper four bits of the address behind it
abbrev pub jump_target : (at target : ℕ) → ℕ
jump_target at target = wrapped (at + 4) / 2 ^ 28 * 2 ^ 28 + target * 4
