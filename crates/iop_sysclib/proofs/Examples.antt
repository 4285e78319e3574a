-- The definitions at examples.
use Rattle.std.proofs.Common.{◌≡◌, [], ◌∷◌, Some, refl}
use Rattle.std.specs.Prelude.{codes, ◌==◌}
use Rattle.iop_sysclib.specs.MemoryCalls.{compared}
use Rattle.iop_sysclib.specs.Numerals.{reading_of}
use Rattle.iop_sysclib.specs.StringCalls.{filled, ended, last_position}

hex_is_read : reading_of 0 (codes "0x1fz") ≡ record { word = 31; len = 4 }
unfolding reading_of
hex_is_read = refl

least_is_held : reading_of 10 (codes "-99999999999") ≡ record { word = 0x80000000; len = 12 }
unfolding reading_of
least_is_held = refl

greatest_is_held : reading_of 16 (codes "\t +0XfFfFfFfFf ") ≡ record { word = 0x7FFFFFFF; len = 14 }
unfolding reading_of
greatest_is_held = refl

bare_prefix_is_read : reading_of 16 (codes "0xg") ≡ record { word = 0; len = 1 }
unfolding reading_of
bare_prefix_is_read = refl

no_digit_is_read : reading_of 0 (codes " - 1") ≡ record { word = 0; len = 0 }
unfolding reading_of
no_digit_is_read = refl

no_base_is_read : reading_of 1 (codes "1") ≡ record { word = 0; len = 0 }
unfolding reading_of
no_base_is_read = refl

filled_with_zeros : filled 4 (codes "x") ≡ 0x78 ∷ 0 ∷ 0 ∷ 0 ∷ []
filled_with_zeros = refl

high_bytes_are_more : compared (0x80 ∷ []) (0x7F ∷ []) ≡ 1
high_bytes_are_more = refl

last_is_found : last_position (λ b. b == 0x25) (ended (codes "%d-%s")) ≡ Some 3
last_is_found = refl
