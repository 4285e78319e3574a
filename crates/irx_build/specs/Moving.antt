-- What the law of relocated words says: a word that is assembled for address 0 and then relocated for
-- a base is the word that is assembled for the base.
use Rattle.std.specs.Prelude.{◌≡◌, ℕ, ◌+◌, ◌%◌, ◌^◌, ◌<◌, Some}
use Rattle.iop_base.specs.Numbers.{high_half}
use Rattle.iop_base.specs.declared.relocation_types.TheConstants.{R_MIPS_32, R_MIPS_26, R_MIPS_HI16, R_MIPS_LO16}
use Rattle.irx_reloc.specs.Relocating.{moved_word}
use Rattle.iop_asm.specs.Assembly.{jump_field, low_half}

-- the word of an instruction, with 0 in its lowest bits
abbrev pub IsOpen : (bits word : ℕ) → Type 0
IsOpen bits word = (word % 2 ^ bits ≡ 0) × (word < 2 ^ 32)

-- the words of an address, moved by a base, are those of the address that many bytes on
pub record WordsMoveBy (address base : ℕ) : Type 0 where
  pub address_word : (low : ℕ) → moved_word R_MIPS_32 address low base ≡ Some (address + base)
  pub jump : (word low : ℕ) → IsOpen 26 word →
      moved_word R_MIPS_26 (word + jump_field address) low base
      ≡ Some (word + jump_field (address + base))
  pub high : (word : ℕ) → IsOpen 16 word →
      moved_word R_MIPS_HI16 (word + high_half address) (low_half address) base
      ≡ Some (word + high_half (address + base))
  pub low : (word low : ℕ) → IsOpen 16 word →
      moved_word R_MIPS_LO16 (word + low_half address) low base
      ≡ Some (word + low_half (address + base))

abbrev pub WordsMove : Type 0
WordsMove =
    (address base : ℕ) → base % 4 ≡ 0 → address + base < 2 ^ 32 → WordsMoveBy address base
