use Rattle.std.proofs.Common.{◌*◌, ◌%◌, ◌^◌, ◌≡◌, arith}
use Rattle.std.proofs.lemmas.Nat.{pow_below}
use Rattle.irx_reloc.proofs.Moved.{low_bits_fit}
use Rattle.irx_reloc.proofs.moving.with_low_bits.Goals as goal

pub overflow_add-result : goal.overflow_add-result
overflow_add-result c =
    let low : 1 * 2 ^ c.args.bits % 4294967296 ≡ 2 ^ c.args.bits =
    omega (arith, pow_below c.args.bits 32 c.requires) in
    rw low (omega
    (arith, low_bits_fit c.args.bits c.args.word c.args.value c.requires (omega arith)))
