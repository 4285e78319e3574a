-- The sizes of blocks of RAM (ps2sdk: sysmem.h). That they are multiples of 256 bytes is this
-- project's profile.
use Rattle.std.specs.Prelude.{ℕ, ◌+◌, ◌-◌, ◌*◌, ◌/◌}
use Rattle.iop_base.specs.declared.blocks.TheConstants.{BLOCK_UNIT}

-- the least multiple of the unit that is not less
abbrev pub block_len : ℕ → ℕ
block_len len = (len + (BLOCK_UNIT - 1)) / BLOCK_UNIT * BLOCK_UNIT
