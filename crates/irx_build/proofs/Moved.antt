-- The words of an address, moved by a base.
use Rattle.std.proofs.Common.{◌≡◌, ℕ, ◌+◌, ◌*◌, ◌/◌, ◌%◌, ◌^◌, ◌<◌, Some, ap, ◌∙◌, arith}
use Rattle.iop_base.specs.Numbers.{wrapped, sign_extended, high_half}
use Rattle.irx_reloc.specs.Relocating.{with_low_bits, moved_address, moved_word}
use Rattle.iop_asm.specs.Assembly.{jump_field, low_half}
use Rattle.iop_asm.proofs.AddressLaws.{halves_make_addresses}
use Rattle.irx_build.specs.Moving.{IsOpen, WordsMoveBy, WordsMove}

module _ (address base : ℕ) (aligned : base % 4 ≡ 0) (inside : address + base < 2 ^ 32) where
  jump_moves : (word : ℕ) → IsOpen 26 word →
      with_low_bits 26 (word + jump_field address)
      ((word + jump_field address) % 2 ^ 26 + base / 4)
      ≡ word + jump_field (address + base)
  jump_moves word bits = omega arith

  low_moves : (word : ℕ) → IsOpen 16 word →
      with_low_bits 16 (word + low_half address)
      ((word + low_half address) % 2 ^ 16 + base)
      ≡ word + low_half (address + base)
  low_moves word bits = omega arith

  high_of : (word : ℕ) → IsOpen 16 word →
      (word + high_half address) % 2 ^ 16 ≡ high_half address
  high_of word bits = omega arith

  address_moves : moved_address (high_half address) (low_half address) base
      ≡ address + base
  address_moves =
      let made = halves_make_addresses address (omega arith) in omega (arith, made)

  high_put : (word half : ℕ) → IsOpen 16 word → half < 65536 →
      with_low_bits 16 (word + high_half address) half ≡ word + half
  high_put word half bits small = omega arith

  high_moves : (word : ℕ) → IsOpen 16 word →
      with_low_bits 16 (word + high_half address)
      (high_half (moved_address ((word + high_half address) % 2 ^ 16)
      (low_half address) base))
      ≡ word + high_half (address + base)
  high_moves word bits =
      ap (λ h. with_low_bits 16 (word + high_half address)
      (high_half (moved_address h (low_half address) base))) (high_of word bits)
      ∙ ap (λ a. with_low_bits 16 (word + high_half address) (high_half a)) address_moves
      ∙ high_put word (high_half (address + base)) bits (omega arith)

  whole : wrapped (address + base) ≡ address + base
  whole = omega arith

pub words_move : WordsMove
unfolding moved_word
words_move address base aligned inside = record {
  address_word = λ low. ap Some (whole address base aligned inside);
  jump = λ word low bits. ap Some (jump_moves address base aligned inside word bits);
  high = λ word bits. ap Some (high_moves address base aligned inside word bits);
  low = λ word low bits. ap Some (low_moves address base aligned inside word bits);
}
