-- What the values of options are.
use Rattle.std.proofs.Common.{◌≡◌, ◌∙◌, ℕ, Option, Some, None, List, [], length, refl, ap, drop_of_length-le, arith, inl, inr}
use Rattle.std.specs.Prelude.{option_and_then}
use Rattle.std.specs.List.{position_or_len, before_first, after_first}
use Rattle.iop_base.specs.Places.{IsRamSize}
use Rattle.iop_options.specs.Numbers.{number_of}
use Rattle.iop_options.specs.Values.{ram_bytes, hex_of, range_of, is_colon, dump_of}
use Rattle.iop_options.specs.declared.ram_size.RamSize.{RamSize}
use Rattle.iop_options.specs.declared.ram_size.RamSize.TheVariants.{TwoMiB, EightMiB}

-- RAM may have each of the sizes
pub ram_sized : (ram : RamSize) → IsRamSize (ram_bytes ram)
ram_sized TwoMiB = inl refl
ram_sized EightMiB = inr refl

hex_of-empty : hex_of [] ≡ None
unfolding number_of
hex_of-empty = refl

-- a text with no colon is no range
pub dump_of-uncut : (size : ℕ) (text : List ℕ) → position_or_len is_colon text ≡ length text
    → dump_of size text ≡ None
dump_of-uncut size text none =
    let past : after_first is_colon text ≡ [] =
    drop_of_length-le text (omega (arith, none)) in
    ap (λ len. option_and_then (λ from. option_and_then (range_of size from) len)
    (hex_of (before_first is_colon text))) (ap hex_of past ∙ hex_of-empty)
    ∙ go (hex_of (before_first is_colon text))
  where
    go : (o : Option ℕ)
        → option_and_then (λ (from : ℕ). option_and_then (range_of size from) None) o ≡ None
    go None = refl
    go (Some from) = refl
